use Rattle.std.proofs.Common.{◌≡◌, ℕ, ◌∷◌, [], List, length, Ok, Err, Result, refl, arith}
use Rattle.std.proofs.lemmas.Result.{err_from_is_err_and}
use Rattle.model.specs.declared.Answer.{Answer}
use Rattle.model.specs.declared.Decline.{Decline}
use Rattle.model.specs.Settling.{Settles, Worth}
use Rattle.station.specs.Views.{machine}
use Rattle.station.proofs.Files.{over_file}
use Rattle.search.specs.States.{position, machine_of, Run, Going, Ran}
use Rattle.search.proofs.Sheets.{sheet_after, allowed, going_begun, ran_begun, settled_begun}
use Rattle.search.proofs.settling.settle.Given.{Over}
use Rattle.search.proofs.settling.settle.Goals.{After-run}
use Rattle.search.proofs.settling.settle.Goals as goal

pub run-requires-clause-going : goal.run-requires-clause-going
run-requires-clause-going g c =
    let o = g.O.Order.meaning c.args.order.now in
    let rec = g.R.Record.meaning c.args.record.now in
    (record { order = o.list; before = rec }, refl, going_begun (machine c.args.file.now) o rec rec c.args.sheet.now (machine_of c.start-state.result) c.start-state.ensures.file (position c.start-state.result) c.start-state.ensures.position)

-- what the whole search comes to, where it was run and the sheet is then as the answer has it
settled : (g : Over) (c : After-run g) (r : Result Answer Decline)
    → ((run : Run) → run.order ≡ (g.O.Order.meaning c.args.order.now).list → Going run (machine_of c.start-state.result) (g.R.Record.meaning c.args.record.now) (position c.start-state.result)
    → Ran run (machine_of c.start-state.result) (g.R.Record.meaning c.run.new.record) (position c.run.new.self) r)
    → (sheet : List ℕ) → sheet ≡ sheet_after (machine c.args.file.now) (g.O.Order.meaning c.args.order.now) (g.R.Record.meaning c.args.record.now) (g.R.Record.meaning c.run.new.record) c.args.sheet.now r (position c.run.new.self).settings
    → Settles (machine c.args.file.now) (g.O.Order.meaning c.args.order.now) (g.R.Record.meaning c.args.record.now) c.args.sheet.now (length c.args.trail.now ∷ length c.args.frames.now ∷ []) r (g.R.Record.meaning c.run.new.record) sheet
    × Worth (machine c.args.file.now) r sheet
settled g c r ran sheet e =
    settled_begun (machine c.args.file.now) (g.O.Order.meaning c.args.order.now) (g.R.Record.meaning c.args.record.now) (g.R.Record.meaning c.run.new.record) c.args.sheet.now
    (machine_of c.start-state.result) c.start-state.ensures.file (position c.start-state.result) c.start-state.ensures.position (position c.run.new.self) r ran
    (length c.args.trail.now) (length c.args.frames.now) c.in_ok-refusal.ensures (over_file c.args.file.now) (g.O.Order.whole c.args.order.now) sheet e

pub returns-in_err-answer-clause-settles : goal.returns-in_err-answer-clause-settles
returns-in_err-answer-clause-settles g c =
    let q = err_from_is_err_and c.from_residual-in_err-answer.result c.from_residual-in_err-answer.ensures.1 in
    rw (q.1, q.2) (settled g (goal.at.returns-in_err-answer-clause-settles g c).After-run (Err c.in_err-answer.field-0.0) c.in_err-answer.ensures.ran c.args.sheet.now refl).0

pub write-requires : goal.write-requires
write-requires g c =
    let o = g.O.Order.meaning c.args.order.now in
    let rec = g.R.Record.meaning c.args.record.now in
    let a = allowed (machine c.args.file.now) o rec (length c.args.sheet.now) (length c.args.trail.now) (length c.args.frames.now) c.in_ok-refusal.ensures in
    let r = rw c.in-Fits.is at (ran_begun (machine c.args.file.now) o rec (g.R.Record.meaning c.run.new.record) c.args.sheet.now (machine_of c.start-state.result) c.start-state.ensures.file (position c.start-state.result) c.start-state.ensures.position
    (position c.run.new.self) (Ok c.in_ok-answer.answer) c.in_ok-answer.ensures.ran) in
    rw c.bytes.ensures (omega (arith, r.1, a.sheet_long))

pub returns-in-Fits : goal.returns-in-Fits
returns-in-Fits g c =
    let b = settled g (goal.at.returns-in-Fits g c).After-run (Ok c.in_ok-answer.answer) c.in_ok-answer.ensures.ran c.write.new.sheet (rw (c.in-Fits.is, ← c.bytes.ensures) c.write.ensures) in
    record { tied = c.run.ensures.tied; settles = b.0; worth = b.1 }

pub returns-in_default : goal.returns-in_default
returns-in_default g c =
    let b = settled g (goal.at.returns-in_default g c).After-run (Ok c.in_ok-answer.answer) c.in_ok-answer.ensures.ran c.args.sheet.now (rw c.in_default.is refl) in
    record { tied = c.run.ensures.tied; settles = b.0; worth = b.1 }
