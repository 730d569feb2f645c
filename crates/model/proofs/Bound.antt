-- A branch makes fewer steps than 2 to the number of its unset variables.
use Rattle.std.proofs.Common.{◌≡◌, ℕ, zero, suc, ◌+◌, ◌^◌, ◌<◌, ◌≤◌, Bool, true, false, cond, eqb, List, [], ◌∷◌, ◌++◌, length, get_or, set, ℤ, pos, negsuc, refl, ap, arith, length-append, pow_pos}
use native.Mathlib.Nat.{two-pow-succ}
use Rattle.model.specs.Clauses.{Clause, on, off}
use Rattle.model.specs.Search.{Setting, value, make_true, Reference, Step, Outcome, Back, passes, joins, Branch, conflict, forced, satisfied, on_ends, then_off}
use Rattle.model.specs.Arguments.{unset}
use Rattle.model.proofs.Values.{flipped_two, off_two}
use Rattle.model.proofs.Failing.{chosen_unset}

-- how many variables are unset
abbrev pub vacant : Setting → ℕ
vacant [] = 0
vacant (b ∷ σ) = cond (eqb b 2) (suc (vacant σ)) (vacant σ)

one_less : (t : Bool) (a b : ℕ) → suc a ≡ b → suc (cond t (suc a) a) ≡ cond t (suc b) b
one_less true a b e = ap suc e
one_less false a b e = e

vacant_set : (σ : Setting) (k b : ℕ) → eqb b 2 ≡ false → get_or σ k 0 ≡ 2 → suc (vacant (set σ k b)) ≡ vacant σ
vacant_set [] k b f e = omega arith
vacant_set (x ∷ σ) zero b f e = rw (f, e) refl
vacant_set (x ∷ σ) (suc k) b f e = one_less (eqb x 2) (vacant (set σ k b)) (vacant σ) (vacant_set σ k b f e)

pub vacant_true : (σ : Setting) (t : ℤ) → value σ t ≡ 2 → suc (vacant (make_true σ t)) ≡ vacant σ
vacant_true σ (pos zero) e = omega arith
vacant_true σ (pos (suc k)) e = vacant_set σ k 1 refl e
vacant_true σ (negsuc k) e = vacant_set σ k 0 refl (flipped_two (get_or σ k 0) e)

pub vacant_unset : (n : ℕ) → vacant (unset n) ≡ n
vacant_unset zero = refl
vacant_unset (suc n) = ap suc (vacant_unset n)

back_length : {t : ℤ} {setter : Reference} {C : Clause} {m : ℕ} {below : Outcome} {us : List Step} {out : Outcome} → Back t setter C m below us out → length us ≤ 1
back_length (passes l) = omega arith
back_length (joins j) = omega arith

doubles : (σ : Setting) (t : ℤ) → value σ t ≡ 2 → 2 ^ vacant σ ≡ 2 ^ vacant (make_true σ t) + 2 ^ vacant (make_true σ t)
doubles σ t e = rw (← vacant_true σ t e) (two-pow-succ (vacant (make_true σ t)))

pub bound : {F : List Clause} {order : List ℕ} {σ : Setting} {m : ℕ} {ss : List Step} {out : Outcome} → Branch F order σ m ss out → length ss < 2 ^ vacant σ
bound (conflict {σ = σ} f) = pow_pos (vacant σ)
bound (forced {σ = σ} {t = t} {ss = ss} {us = us} n f u b back) =
    let i = bound b in
    let d = doubles σ t u.1 in
    let l = back_length back in
    let a = length-append ss us in
    omega arith
bound (satisfied {σ = σ} s) = pow_pos (vacant σ)
bound (on_ends {σ = σ} {k = k} un c b l) = let i = bound b in let d = doubles σ (on k) (chosen_unset c) in omega arith
bound (then_off {σ = σ} {k = k} {ss = ss} {us = us} {vs = vs} un c b h d back) =
    let two = chosen_unset c in
    let i = bound b in
    let j = bound d in
    let e = doubles σ (on k) two in
    let f = doubles σ (off k) (off_two σ k two) in
    let l = back_length back in
    let a = length-append ss (us ++ vs) in
    let a' = length-append us vs in
    omega arith
