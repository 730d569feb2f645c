use Rattle.std.proofs.Common.{◌≡◌, ℕ, ◌==◌, Bool, true, false, ◌&&◌, refl, arith}
use Rattle.std.proofs.Math.Bool.{beq}
use Rattle.std.proofs.lemmas.Bool.Decides.{nat_tests}
use Rattle.clauses.specs.Sets.{code}
use Rattle.clauses.proofs.Members.{code_same, same_code}
use Rattle.scan.proofs.Tested.{true_more, unit_first, unit_again, open_second, open_more}
use Rattle.scan.proofs.tests.further.Goals as goal

-- the index and the sign of equal literals
same_parts : (i j : ℕ) (p q : Bool) → true ≡ ((i == j) && beq p q) → (i ≡ j) × (p ≡ q)
same_parts i j true true h = (grind (arith, nat_tests), refl)
same_parts i j true false h = absurd (grind (arith, nat_tests))
same_parts i j false true h = absurd (grind (arith, nat_tests))
same_parts i j false false h = (grind (arith, nat_tests), refl)

other_parts : (i j : ℕ) (p q : Bool) → false ≡ ((i == j) && beq p q) → i ≡ j → p ≡ q → ⊥
other_parts i j true true h e f = grind (arith, nat_tests)
other_parts i j true false h e f = cc
other_parts i j false true h e f = cc
other_parts i j false false h e f = grind (arith, nat_tests)

pub returns-in-AllFalse : goal.returns-in-AllFalse
returns-in-AllFalse c σ C e h =
    unit_first σ C (code c.args.t) e (rw c.in-AllFalse.is at h)

pub returns-then-eq : goal.returns-then-eq
returns-then-eq c σ C e h =
    unit_again σ C (code c.args.t) (code c.in-Unit.u) (let p = same_parts _ _ _ _ c.if-eq.ensures in same_code c.args.t c.in-Unit.u p.0 p.1) (rw c.in-Unit.is at h)

pub returns-else-eq : goal.returns-else-eq
returns-else-eq c σ C e h =
    open_second σ C (code c.args.t) (code c.in-Unit.u) e (λ q. let s = code_same c.args.t c.in-Unit.u q in other_parts _ _ _ _ c.if-eq.ensures s.0 s.1) (rw c.in-Unit.is at h)

pub returns-in-SomeTrue : goal.returns-in-SomeTrue
returns-in-SomeTrue c σ C e h = true_more σ C (code c.args.t) (rw c.in-SomeTrue.is at h)

pub returns-in-Open : goal.returns-in-Open
returns-in-Open c σ C e h =
    open_more σ C (code c.args.t) e (rw c.in-Open.is at h)
