-- A setting that a branch ends with satisfies every rule.
use Rattle.std.proofs.Common.{◌≡◌, ℕ, zero, suc, true, List, get_or, ℤ, pos, negsuc, refl, arith}
use Rattle.model.specs.Clauses.{Clause, Satisfies, Model, true_at}
use Rattle.model.specs.Search.{Setting, value, flipped, SomeTrue, Reference, Step, Outcome, fits, fails, Back, passes, joins, Branch, conflict, forced, satisfied, on_ends, then_off}
use Rattle.model.specs.Arguments.{reads}
use Rattle.model.proofs.Lists.{each_map}

flipped_one : (b : ℕ) → flipped b ≡ 1 → b ≡ 0
flipped_one zero e = refl
flipped_one (suc zero) e = omega arith
flipped_one (suc (suc b)) e = omega arith

reads_true : (σ : Setting) (t : ℤ) → value σ t ≡ 1 → true_at (reads σ) t ≡ true
reads_true σ (pos zero) e = absurd (omega arith)
reads_true σ (pos (suc k)) e = rw e
reads_true σ (negsuc k) e = rw (flipped_one (get_or σ k 0) e)

abbrev Fitted : List Clause → Outcome → Type 0
Fitted F (fits τ) = Model (reads τ) F
Fitted F (fails r C) = Unit {0}

back_fitted : (F : List Clause) {t : ℤ} {setter : Reference} {C : Clause} {m : ℕ} {below : Outcome} {us : List Step} {out : Outcome} → Fitted F below → Back t setter C m below us out → Fitted F out
back_fitted F f (passes l) = f
back_fitted F f (joins j) = tt

pub fitted : {F : List Clause} {order : List ℕ} {σ : Setting} {m : ℕ} {ss : List Step} {out : Outcome} → Branch F order σ m ss out → Fitted F out
fitted (conflict f) = tt
fitted {F} (forced n f u b back) = back_fitted F (fitted b) back
fitted {F} (satisfied {σ = σ} s) = each_map (SomeTrue σ) (Satisfies (reads σ)) F (λ C p. (p.0, p.1, reads_true σ p.0 p.2)) s
fitted (on_ends un c b l) = fitted b
fitted {F} (then_off un c b h d back) = back_fitted F (fitted d) back
