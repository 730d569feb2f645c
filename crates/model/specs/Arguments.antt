-- Arguments (resolution refutations), and the theorems about the search.
use Rattle.std.specs.Prelude.{◌≡◌, ℕ, suc, ◌^◌, ◌<◌, ◌≤◌, List, [], ◌∷◌, ◌++◌, length, replicate, ℤ, ◌==◌}
use Rattle.model.specs.Clauses.{Clause, Valuation, Model, Over, Resolvent, ◌∈◌, Member}
use Rattle.model.specs.Search.{Reference, R, S, Step, Setting, AllFalse, Branch, Outcome, fits, fails, entry}

-- x stands at the place k, from 1
pub data At {A : Type 0} : List A → ℕ → A → Type 0 where
  at_first : {x : A} {xs : List A} → At (x ∷ xs) 1 x
  at_later : {x y : A} {xs : List A} {k : ℕ} → At xs k x → At (y ∷ xs) (suc k) x

-- the clause that a reference names, among the clauses F of the file and the clauses Ds of the earlier steps
pub data Named (F Ds : List Clause) : Reference → Clause → Type 0 where
  rule : {k : ℕ} {C : Clause} → At F k C → Named F Ds (R k) C
  step : {k : ℕ} {C : Clause} → At Ds k C → Named F Ds (S k) C

-- after steps with the clauses Ds, the steps ss make the clauses Es: each is a resolvent of two that its references name
pub data Derives (F : List Clause) : List Clause → List Step → List Clause → Type 0 where
  none : {Ds : List Clause} → Derives F Ds [] []
  one_more : {Ds Es : List Clause} {ss : List Step} {s : Step} {L N E : Clause} → Named F Ds s.left L → Named F Ds s.right N
      → Resolvent s.variable L N E → Derives F (Ds ++ E ∷ []) ss Es → Derives F Ds (s ∷ ss) (E ∷ Es)

-- the steps are derived, and the closing reference names the clause without a literal
abbrev pub Argument : List Clause → List Step → Reference → Type 0
Argument F ss closing = (Ds : List Clause) × Derives F [] ss Ds × Named F Ds closing []

-- no variable of n is set
abbrev pub unset : ℕ → Setting
unset n = replicate n 2

-- the valuation of a setting: 1 is on, anything else off
abbrev pub reads : Setting → Valuation
reads σ k = entry σ k == 1

abbrev pub SameLiterals : Clause → Clause → Type 0
SameLiterals C D = (t : ℤ) → (t ∈ C → t ∈ D) × (t ∈ D → t ∈ C)

abbrev pub Alike : Outcome → Outcome → Type 0
Alike (fits σ) (fits τ) = σ ≡ τ
Alike (fits σ) (fails r C) = ⊥
Alike (fails r C) (fits τ) = ⊥
Alike (fails r C) (fails q D) = (r ≡ q) × SameLiterals C D

-- The theorems, each on the contract of a function of src/theorems.rt.

-- a clause that a branch fails with is false at its setting
abbrev pub FailuresAreFalse : Type 0
FailuresAreFalse = (F : List Clause) (order : List ℕ) (σ : Setting) (m : ℕ) (ss : List Step) (r : Reference) (C : Clause)
    → Branch F order σ m ss (fails r C) → AllFalse σ C

-- the steps of a search that failed are an argument, if there are no more than references of 32 bits tell apart
abbrev pub StepsArgue : Type 0
StepsArgue = (n : ℕ) (F : List Clause) (order : List ℕ) (ss : List Step) (r : Reference) (C : Clause) → Over n F → length ss ≤ 4294967295
    → Branch F order (unset n) 0 ss (fails r C) → Argument F ss r

-- no valuation satisfies clauses that an argument refutes
abbrev pub ArgumentsRefute : Type 0
ArgumentsRefute = (F : List Clause) (ss : List Step) (r : Reference) → Argument F ss r → (v : Valuation) → Model v F → ⊥

-- a search over n variables makes fewer than 2 ^ n steps
abbrev pub FewSteps : Type 0
FewSteps = (n : ℕ) (F : List Clause) (order : List ℕ) (ss : List Step) (out : Outcome) → Branch F order (unset n) 0 ss out → length ss < 2 ^ n

-- a search that fits ends with a model
abbrev pub FitsAreModels : Type 0
FitsAreModels = (n : ℕ) (F : List Clause) (order : List ℕ) (ss : List Step) (τ : Setting) → Branch F order (unset n) 0 ss (fits τ) → Model (reads τ) F

-- the search has one course: the same steps, and the same end
abbrev pub OneCourse : Type 0
OneCourse = (F : List Clause) (order : List ℕ) (σ : Setting) (m : ℕ) (ss us : List Step) (a b : Outcome)
    → Branch F order σ m ss a → Branch F order σ m us b → (ss ≡ us) × Alike a b

-- the search ends, if the order has every variable
abbrev pub Ends : Type 0
Ends = (n : ℕ) (F : List Clause) (order : List ℕ) → Over n F → ((k : ℕ) → 0 < k → k ≤ n → Member k order)
    → (ss : List Step) × (out : Outcome) × Branch F order (unset n) 0 ss out
