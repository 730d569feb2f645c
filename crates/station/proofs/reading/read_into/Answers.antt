use Rattle.std.proofs.Common.{◌≡◌, ◌≢◌, pos, Ok, Err, subst, sym, refl, ap, ◌∙◌, w32, SFits, to_z, of_z, rules}
use Rattle.std.proofs.lemmas.Int.{to_z-of_z}
use Rattle.model.specs.declared.Decline.{Decline}
use Rattle.model.specs.declared.FileFault.{FileFault}
use Rattle.model.specs.Reading.{faulty}
use Rattle.texts.specs.Scan.{rest_of}
use Rattle.texts.proofs.Course.{not_started}
use Rattle.station.specs.Views.{machine_in}
use Rattle.station.specs.declared.Tables.{Tables}
use Rattle.station.specs.Tables.{Sound}
use Rattle.station.specs.Hands.{Fronts}
use Rattle.station.proofs.Fronts.{fronts_none}
use Rattle.station.proofs.Passed.{ok_before, err_before}
use Rattle.station.proofs.Pushed.{holds_push}
use Rattle.station.proofs.Going.{heading_fault, heading_none, heading_on, number_fault, at_end, shorter, zero_refused, zero_added, literal_held, undone, done_sound, done_all}
use Rattle.station.proofs.reading.read_into.Goals as goal

pub returns-then-n-eq0 : goal.returns-then-n-eq0
unfolding machine_in
returns-then-n-eq0 c = record { sound = c.requires; reads = λ number trials. (not_started _ c.args.text.now c.if-n-eq0.true ∙ ap faulty (sym c.into.ensures), refl) }

pub returns-in_err-heading : goal.returns-in_err-heading
returns-in_err-heading c =
    let e = heading_fault c.args.n c.args.text.now c.args.tables.now c.args.counts.now c.if-n-eq0.false _ (rest_of c.heading.new.self) c.over-reader.ensures.all _ (rw c.from.ensures at c.in_err-heading.ensures.heads) in
    let f = fronts_none c.args.counts.now c.args.tables.now in
    let u = undone _ _ _ _ _ c.requires c.requires f c.args.text.now _ e _ (search rules) _ c.from_residual.ensures.1 in
    record { sound = u.0; reads = u.1 }

pub returns-in_err-declared : goal.returns-in_err-declared
returns-in_err-declared c =
    let e = heading_none c.args.n c.args.text.now c.args.tables.now c.args.counts.now c.if-n-eq0.false _ (rest_of c.heading.new.self) c.over-reader.ensures.all _ (rw c.from.ensures at c.in_ok-heading.ensures.heads) _ c.in_err-declared.ensures.value in
    let f = fronts_none c.args.counts.now c.args.tables.now in
    let u = undone _ _ _ _ _ c.requires c.requires f c.args.text.now _ e _ (search rules) _ c.from_residual-in_err-declared.ensures.1 in
    record { sound = u.0; reads = u.1 }

pub loop-t-init : goal.loop-t-init
loop-t-init c =
    (refl, refl, heading_on c.args.n c.args.text.now c.args.tables.now c.args.counts.now c.if-n-eq0.false _ (rest_of c.heading.new.self) c.over-reader.ensures.all _ (rw c.from.ensures at c.in_ok-heading.ensures.heads) c.in_ok-declared.declared c.in_ok-declared.ensures.ok_part c.requires c.empty-hand.result c.empty-hand.ensures)

pub returns-in_err-t : goal.returns-in_err-t
returns-in_err-t c =
    let g = c.loop-t.invariant.2 in
    let e = number_fault _ _ _ _ _ _ _ _ _ _ g (rest_of c.number.new.self) _ c.in_err-t.ensures.counts in
    let u = undone _ _ _ _ _ c.requires g.sound g.fronts c.args.text.now _ e _ (search rules) _ c.from_residual-in_err-t.ensures.1 in
    record { sound = u.0; reads = u.1 }

pub returns-in_err-guard : goal.returns-in_err-guard
returns-in_err-guard c =
    let g = c.loop-t.invariant.2 in
    let t = c.in-Some.t.value in
    let fit : SFits w32 t = search rules in
    let z : t ≡ pos 0 = sym (to_z-of_z w32 t fit) ∙ ap (to_z w32) c.if-t-eq0.true in
    let w = err_before _ (λ (d : Decline). let f : FileFault = record { place = c.in-Some.t.place; decline = d } in f) (λ d f q. search rules) c.append.result c.map_err.result c.map_err.ensures.cases _ c.in_err-guard.was in
    let r = rw w.1 at (c.append.ensures c.args.n g.ts g.sound g.holds) in
    let e = zero_refused _ _ _ _ _ _ _ _ _ _ g (rest_of c.number.new.self) _ c.in_ok-t.ensures.counts c.in-Some.t c.in-Some.is z w.0 c.append.new.self r in
    let s = subst (λ (x : Tables). Sound c.args.n x c.loop-t.guard.counts.now) (sym r.same) g.sound in
    let f = subst (λ (x : Tables). Fronts c.args.counts.now c.args.tables.now x c.loop-t.guard.counts.now) (sym r.same) g.fronts in
    let u = undone _ _ _ _ _ c.requires s f c.args.text.now _ e _ (search rules) _ (rw w.2 at c.from_residual-in_err-guard.ensures.1) in
    record { sound = u.0; reads = u.1 }

pub loop-t-smaller-then-t-eq0 : goal.loop-t-smaller-then-t-eq0
loop-t-smaller-then-t-eq0 c = shorter _ _ _ _ _ _ _ _ _ _ c.loop-t.invariant.2 (rest_of c.number.new.self) _ c.in_ok-t.ensures.counts c.in-Some.t c.in-Some.is

pub loop-t-preserved-then-t-eq0 : goal.loop-t-preserved-then-t-eq0
loop-t-preserved-then-t-eq0 c =
    let g = c.loop-t.invariant.2 in
    let t = c.in-Some.t.value in
    let fit : SFits w32 t = search rules in
    let z : t ≡ pos 0 = sym (to_z-of_z w32 t fit) ∙ ap (to_z w32) c.if-t-eq0.true in
    let a = rw (ok_before _ c.append.result c.map_err.result c.map_err.ensures.cases _ c.in_ok-guard.was) at (c.append.ensures c.args.n g.ts g.sound g.holds) in
    (refl, refl, zero_added _ _ _ _ _ _ _ _ _ _ g (rest_of c.number.new.self) _ c.in_ok-t.ensures.counts c.in-Some.t c.in-Some.is z _ _ a _ c.empty-hand-then-t-eq0.ensures)

pub loop-t-smaller : goal.loop-t-smaller
loop-t-smaller c = shorter _ _ _ _ _ _ _ _ _ _ c.loop-t.invariant.2 (rest_of c.number.new.self) _ c.in_ok-t.ensures.counts c.in-Some.t c.in-Some.is

pub loop-t-preserved : goal.loop-t-preserved
loop-t-preserved c =
    let g = c.loop-t.invariant.2 in
    let t = c.in-Some.t.value in
    let fit : SFits w32 t = search rules in
    let z : t ≢ pos 0 = λ e. c.if-t-eq0.false (ap (of_z w32) e) in
    let h = holds_push c.args.n g.ts t c.loop-t.hand c.push.new.self g.holds c.push.ensures.size (simp to_z-of_z at c.push.ensures.joins) in
    (refl, refl, literal_held _ _ _ _ _ _ _ _ _ _ g (rest_of c.number.new.self) _ c.in_ok-t.ensures.counts c.in-Some.t c.in-Some.is z _ h)

pub returns-in_err-ended : goal.returns-in_err-ended
returns-in_err-ended c =
    let g = c.loop-t.invariant.2 in
    let e = at_end _ _ _ _ _ _ _ _ _ _ g (rest_of c.number.new.self) _ c.in_ok-t.ensures.counts c.in_default.is (Err _) c.in_err-ended.ensures in
    let u = undone _ _ _ _ _ c.requires g.sound g.fronts c.args.text.now _ e _ (search rules) _ c.from_residual-in_err-ended.ensures.1 in
    record { sound = u.0; reads = u.1 }

pub returns : goal.returns
returns c =
    let g = c.loop-t.invariant.2 in
    let e = at_end _ _ _ _ _ _ _ _ _ _ g (rest_of c.number.new.self) _ c.in_ok-t.ensures.counts c.in_default.is (Ok tt) c.in_ok-ended.ensures in
    let k = c.loop-t.guard.counts.now in
    record { sound = done_sound _ _ k _ g.sound (search rules); reads = done_all _ _ k _ _ _ e (search rules) }
