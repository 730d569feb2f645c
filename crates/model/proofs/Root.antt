-- The literals of a failing clause are literals of the rules; so at the empty setting it has none.
use Rattle.std.proofs.Common.{◌≡◌, ℕ, zero, suc, ◌≢◌, List, [], ◌∷◌, get_or, ℤ, pos, negsuc, refl, inl, ⊎_elim, arith}
use lib.ListN.{get_or-replicate}
use Rattle.model.specs.Clauses.{Clause, opposite, ◌∈◌, Each, Within, Over}
use Rattle.model.specs.Search.{Setting, value, AllFalse, First, here, later, Reference, Step, Outcome, fits, fails, Back, passes, joins, Branch, conflict, forced, satisfied, on_ends, then_off}
use Rattle.model.specs.Arguments.{unset}
use Rattle.model.proofs.Values.{two_flipped}
use Rattle.model.proofs.Failing.{joined_from, failing}

abbrev Literals : (ℤ → Type 0) → Outcome → Type 0
Literals P (fits τ) = Unit {0}
Literals P (fails r C) = (t : ℤ) → t ∈ C → P t

pub first_each : {P : Clause → Type 0} (Q : Clause → Type 0) {F : List Clause} {k : ℕ} {C : Clause} → Each Q F → First P F k C → Q C
first_each Q q (here p) = q.0
first_each Q q (later n f) = first_each Q q.1 f

back_literals : (P : ℤ → Type 0) {t : ℤ} {setter : Reference} {C : Clause} {m : ℕ} {below : Outcome} {us : List Step} {out : Outcome}
    → ((u : ℤ) → u ∈ C → P u) → Literals P below → Back t setter C m below us out → Literals P out
back_literals P c b (passes l) = b
back_literals P {t} {C = C} c b (joins {D = D} {E = E} j) =
    λ u h. ⊎_elim (λ (p : (u ∈ C) × (u ≢ t)). c u p.0) (λ (p : (u ∈ D) × (u ≢ opposite t)). b u p.0) (joined_from t C D E j u h)

pub literals : (P : ℤ → Type 0) {F : List Clause} {order : List ℕ} {σ : Setting} {m : ℕ} {ss : List Step} {out : Outcome}
    → Each (λ C. (t : ℤ) → t ∈ C → P t) F → Branch F order σ m ss out → Literals P out
literals P e (conflict f) = first_each (λ C. (t : ℤ) → t ∈ C → P t) e f
literals P e (forced none f u b back) = back_literals P (first_each (λ C. (t : ℤ) → t ∈ C → P t) e f) (literals P e b) back
literals P e (satisfied s) = tt
literals P e (on_ends un c b l) = literals P e b
literals P e (then_off un c b h d back) = back_literals P (literals P e b) (literals P e d) back

pub unset_two : (n : ℕ) (t : ℤ) → Within n t → value (unset n) t ≡ 2
unset_two n (pos zero) w = omega arith
unset_two n (pos (suc k)) w = get_or-replicate n k 2 0 w.1
unset_two n (negsuc k) w = two_flipped (get_or (unset n) k 0) (get_or-replicate n k 2 0 w.1)

empty : (n : ℕ) (C : Clause) → AllFalse (unset n) C → ((t : ℤ) → t ∈ C → Within n t) → C ≡ []
empty n [] f w = refl
empty n (t ∷ C) f w = let z = f t (inl refl) in let two = unset_two n t (w t (inl refl)) in absurd (omega arith)

-- the clause that the whole search fails with has no literal
pub root_empty : (n : ℕ) {F : List Clause} {order : List ℕ} {m : ℕ} {ss : List Step} {r : Reference} {C : Clause}
    → Over n F → Branch F order (unset n) m ss (fails r C) → C ≡ []
root_empty n {C = C} o b = empty n C (failing b) (literals (Within n) o b)
