use Rattle.std.proofs.Common.{◌≡◌, ℕ, ◌+◌, ◌<◌, List, [], ◌∷◌, ◌++◌, length, get_or, take, ℤ, pos, sym, refl, ap, ◌∙◌, arith, w32, SFits, rules}
use Rattle.std.proofs.lemmas.List.{take_more}
use Rattle.std.proofs.lemmas.Int.{to_z-of_z}
use Rattle.model.specs.Search.{Setting, value}
use Rattle.model.proofs.Members.{in_get_or}
use Rattle.model.proofs.Ways.{unset_within}
use Rattle.clauses.specs.Sets.{code}
use Rattle.scan.specs.declared.Test.{Test}
use Rattle.scan.specs.Tests.{Tested}
use Rattle.scan.proofs.Tested.{coded_ok, tested_false}
use Rattle.scan.proofs.tests.test.Goals.{in-Some-false, in-None}
use Rattle.scan.proofs.tests.test.Goals as goal

-- the clause as far as the next number
one_more : (σ : Setting) (C : List ℤ) (i : ℕ) (t : ℤ) (r r' : Test) → i < length C → t ≡ get_or C i (pos 0) → r' ≡ r → Tested σ (take i C ++ (t ∷ [])) r → Tested σ (take (i + 1) C) r'
one_more σ C i t r r' l e q h = rw (q, take_more C i (pos 0) l, ← e) h

pub unwrap-t-requires : goal.unwrap-t-requires
unwrap-t-requires c =
    let w = unset_within c.args.settings.now _ c.in-None.ensures.looks in
    coded_ok _ _ c.try_from.ensures (w.0, omega (arith, w.1, c.look.ensures.few))

pub returns-in-Some-true : goal.returns-in-Some-true
returns-in-Some-true c =
    let t : ℤ = get_or c.args.literals.now c.loop-number.number-index (pos 0) in
    let f : SFits w32 t = search rules in (
      t,
      in_get_or c.args.literals.now c.loop-number.number-index (pos 0) c.loop-number-test.true,
      ap (value c.args.settings.now) (sym (to_z-of_z w32 t f)) ∙ (rw (c.in-Some-true.is, c.in-Some-true.field-0-test) at c.look.ensures.looks),
    )

pub loop-number-preserved : goal.loop-number-preserved
loop-number-preserved c =
    let σ = c.args.settings.now in
    let C = c.args.literals.now in
    let i = c.loop-number.number-index in
    let t : ℤ = get_or C i (pos 0) in
    let f : SFits w32 t = search rules in
    let e = to_z-of_z w32 t f in
    elim c.match-look.branch [
      | in-Some-false w ↦
          let v = ap (value σ) (sym e) ∙ (rw (w.in-Some-false.is, w.in-Some-false.field-0-test) at c.look.ensures.looks) in
          one_more σ C i t _ _ c.loop-number-test.true refl w.so_far-is (tested_false σ (take i C) t c.loop-number.so_far v c.loop-number.invariant)
      | in-None w ↦
          let q = rw w.unwrap-t.ensures at w.try_from.ensures in
          one_more σ C i (code w.unwrap-t.result) _ _ c.loop-number-test.true (q ∙ e) w.so_far-is
          (w.further-so_far.ensures σ (take i C) (ap (value σ) q ∙ w.in-None.ensures.looks) c.loop-number.invariant)
    ]
