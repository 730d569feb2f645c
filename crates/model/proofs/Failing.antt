-- A clause that a branch fails with is false at its setting.
use Rattle.std.proofs.Common.{◌≡◌, ℕ, ◌≢◌, ◌⊎◌, List, ℤ, pos, negsuc, inl, inr, ⊎_elim}
use Rattle.model.specs.Clauses.{Clause, on, opposite, ◌∈◌}
use Rattle.model.specs.Search.{Setting, entry, value, make_true, AllFalse, First, here, later, Chosen, this, next, Reference, Step, Outcome, fits, fails, Joined, Lacks, Back, passes, joins, Branch, conflict, forced, satisfied, on_ends, then_off}
use Rattle.model.proofs.Values.{false_before, off_two}

abbrev pub Failing : Setting → Outcome → Type 0
Failing σ (fits τ) = Unit {0}
Failing σ (fails r C) = AllFalse σ C

unfoldable pub first_holds : {P : Clause → Type 0} {F : List Clause} {k : ℕ} {C : Clause} → First P F k C → P C
first_holds (here p) = p
first_holds (later n f) = first_holds f

pub chosen_unset : {σ : Setting} {order : List ℕ} {k : ℕ} → Chosen σ order k → entry σ k ≡ 2
chosen_unset (this e) = e
chosen_unset (next n c) = chosen_unset c

pub joined_from : (t : ℤ) (C D E : Clause) → Joined t C D E → (u : ℤ) → u ∈ E → ((u ∈ C) × (u ≢ t)) ⊎ ((u ∈ D) × (u ≢ opposite t))
joined_from (pos k) C D E j u h = j.from u h
joined_from (negsuc k) C D E j u h = ⊎_elim inr inl (j.from u h)

pub past_failing : (σ : Setting) (t : ℤ) (out : Outcome) → value σ t ≡ 2 → Failing (make_true σ t) out → Lacks (opposite t) out → Failing σ out
past_failing σ t (fits τ) two f l = tt
past_failing σ t (fails r D) two f l = λ u h. false_before σ t u two (f u h) (λ e. l (rw e at h))

pub back_failing : {t : ℤ} {setter : Reference} {C : Clause} {m : ℕ} (σ : Setting) {below : Outcome} {us : List Step} {out : Outcome}
    → value σ t ≡ 2 → ((u : ℤ) → u ∈ C → u ≢ t → value σ u ≡ 0) → Failing (make_true σ t) below → Back t setter C m below us out → Failing σ out
back_failing {t} σ {out = out} two rest f (passes l) = past_failing σ t out two f l
back_failing {t} {C = C} σ two rest f (joins {D = D} {E = E} j) =
    λ u h. ⊎_elim (λ (p : (u ∈ C) × (u ≢ t)). rest u p.0 p.1) (λ (p : (u ∈ D) × (u ≢ opposite t)). false_before σ t u two (f u p.0) p.1) (joined_from t C D E j u h)

pub failing : {F : List Clause} {order : List ℕ} {σ : Setting} {m : ℕ} {ss : List Step} {out : Outcome} → Branch F order σ m ss out → Failing σ out
failing (conflict f) = first_holds f
failing (forced {σ = σ} none f u b back) = back_failing σ u.1 u.2 (failing b) back
failing (satisfied e) = tt
failing (on_ends {σ = σ} {k = k} {out = out} un c b l) = past_failing σ (on k) out (chosen_unset c) (failing b) l
failing (then_off {σ = σ} {k = k} un c b h d back) =
    let two = chosen_unset c in
    back_failing σ (off_two σ k two) (λ u i n. false_before σ (on k) u two (failing b u i) n) (failing d) back
