use Rattle.std.proofs.Common.{◌≡◌, ◌<◌, get_or, take, ℤ, pos, sym, ◌∙◌, w32, SFits, rules}
use Rattle.std.proofs.lemmas.List.{take_more}
use Rattle.std.proofs.lemmas.Int.{to_z-of_z}
use Rattle.clauses.specs.Sets.{code}
use Rattle.clauses.proofs.Members.{code_within, named_more, named_other}
use Rattle.clauses.proofs.LiteralSet.of.Goals.{in-Ok, in_default}
use Rattle.clauses.proofs.LiteralSet.of.Goals as goal

pub loop-number-preserved : goal.loop-number-preserved
loop-number-preserved c u =
    let xs = c.args.clause.now in
    let i = c.loop-number.number-index in
    let t : ℤ = get_or xs i (pos 0) in
    let f : SFits w32 t = search rules in
    let more = take_more xs i (pos 0) c.loop-number-test.true in
    elim c.match-try_from.branch [
      | in-Ok w ↦
          (let e : t ≡ code w.in-Ok.t = sym (w.in-Ok.ensures ∙ to_z-of_z w32 t f) in
          let low : w.in-Ok.t.index < 256 = search rules in
          rw (w.set-is, more, e)
          (named_more c.loop-number.set w.insert.new.self (take i xs) (code w.in-Ok.t) (code_within w.in-Ok.t low) w.insert.ensures c.loop-number.invariant u))
      | in_default w ↦ rw (w.set-is, more) (c.loop-number.invariant u ∙ sym (named_other (take i xs) t (rw (to_z-of_z w32 t f) at w.in_default.ensures) u))
    ]
