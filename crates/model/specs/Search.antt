-- The search, as a relation: at a setting, which steps a branch makes and how it ends.
use Rattle.std.specs.Prelude.{◌≡◌, ℕ, zero, suc, ◌+◌, min, ◌≢◌, List, [], ◌∷◌, ◌++◌, length, ℤ, pos, negsuc, slice_index, slice_set}
pub use Rattle.model.specs.declared.Reference.{Reference}
pub use Rattle.model.specs.declared.Reference.TheVariants.{R, S}
pub use Rattle.model.specs.declared.Step.{Step}
use Rattle.model.specs.Clauses.{Clause, on, off, opposite, ◌∈◌, Each, Resolvent}

-- one number a variable, from variable 1: 0 off, 1 on, 2 unset
abbrev pub Setting : Type 0
Setting = List ℕ

-- what a variable is set to; 0, and variables beyond the last, read as off, so that only one of the n can be unset
abbrev pub entry : Setting → ℕ → ℕ
entry σ zero = 0
entry σ (suc k) = slice_index σ k

abbrev pub put_entry : Setting → ℕ → ℕ → Setting
put_entry σ zero b = σ
put_entry σ (suc k) b = slice_set σ k b

abbrev pub flipped : ℕ → ℕ
flipped zero = 1
flipped (suc zero) = 0
flipped (suc (suc b)) = suc (suc b)

-- 0 false, 1 true, 2 unset
abbrev pub value : Setting → ℤ → ℕ
value σ (pos k) = entry σ k
value σ (negsuc k) = flipped (entry σ (suc k))

abbrev pub make_true : Setting → ℤ → Setting
make_true σ (pos k) = put_entry σ k 1
make_true σ (negsuc k) = put_entry σ (suc k) 0

-- every literal is false
abbrev pub AllFalse : Setting → Clause → Type 0
AllFalse σ C = (t : ℤ) → t ∈ C → value σ t ≡ 0

-- t is unset, and every other literal is false
abbrev pub UnitOn : Setting → ℤ → Clause → Type 0
UnitOn σ t C = (t ∈ C) × (value σ t ≡ 2) × ((u : ℤ) → u ∈ C → u ≢ t → value σ u ≡ 0)

abbrev pub SomeUnit : Setting → Clause → Type 0
SomeUnit σ C = (t : ℤ) × UnitOn σ t C

abbrev pub SomeTrue : Setting → Clause → Type 0
SomeTrue σ C = (t : ℤ) × (t ∈ C) × (value σ t ≡ 1)

-- the clause numbered k, from 1, is the first of which P holds
pub data First (P : Clause → Type 0) : List Clause → ℕ → Clause → Type 0 where
  here : {C : Clause} {F : List Clause} → P C → First P (C ∷ F) 1 C
  later : {C D : Clause} {F : List Clause} {k : ℕ} → (P D → ⊥) → First P F k C → First P (D ∷ F) (suc k) C

abbrev pub NoneOf : (Clause → Type 0) → List Clause → Type 0
NoneOf P F = Each (λ C. P C → ⊥) F

-- an order lists the variables; it chooses the first that is unset
pub data Chosen (σ : Setting) : List ℕ → ℕ → Type 0 where
  this : {k : ℕ} {ks : List ℕ} → entry σ k ≡ 2 → Chosen σ (k ∷ ks) k
  next : {j k : ℕ} {ks : List ℕ} → entry σ j ≢ 2 → Chosen σ ks k → Chosen σ (j ∷ ks) k

-- no clause is false or forces a literal, and not every clause is true: the order has to choose
pub record Undecided (σ : Setting) (F : List Clause) : Type 0 where
  pub no_conflict : NoneOf (AllFalse σ) F
  pub no_unit : NoneOf (SomeUnit σ) F
  pub unfinished : Each (SomeTrue σ) F → ⊥

-- a branch ends with a setting that satisfies every clause, or fails with a clause under its reference
pub data Outcome : Type 0 where
  fits : Setting → Outcome
  fails : Reference → Clause → Outcome

-- the step on the variable of t, from the clause that set t and a clause with its opposite: the left is the one with the variable on
abbrev pub made : ℤ → Reference → Reference → Step
made (pos k) setter failed = record { left = setter; right = failed; variable = k }
made (negsuc k) setter failed = record { left = failed; right = setter; variable = suc k }

-- the resolvent of the clause C that set t and the clause D that has its opposite
abbrev pub Joined : ℤ → Clause → Clause → Clause → Type 0
Joined (pos k) C D E = Resolvent k C D E
Joined (negsuc k) C D E = Resolvent (suc k) D C E

-- the outcome is no clause with the literal t
abbrev pub Lacks : ℤ → Outcome → Type 0
Lacks t (fits τ) = Unit {0}
Lacks t (fails r C) = t ∈ C → ⊥

-- the reference of the step numbered j, from 1: 32 bits, so that the last number stands for all beyond it
abbrev pub step_ref : ℕ → Reference
step_ref j = S (min j 4294967295)

-- How an outcome below a literal t comes back past it, where the clause C, named setter, set t, and m steps were made:
-- as it is if its clause lacks the opposite of t, and else by one step more.
pub data Back (t : ℤ) (setter : Reference) (C : Clause) (m : ℕ) : Outcome → List Step → Outcome → Type 0 where
  passes : {out : Outcome} → Lacks (opposite t) out → Back t setter C m out [] out
  joins : {r : Reference} {D E : Clause} → Joined t C D E → Back t setter C m (fails r D) (made t setter r ∷ []) (fails (step_ref (suc m)) E)

-- A branch of the search: at a setting, after m steps, it makes these steps and ends so.
pub data Branch (F : List Clause) (order : List ℕ) : Setting → ℕ → List Step → Outcome → Type 0 where
  -- 1. some clause is false: the branch fails with the first
  conflict : {σ : Setting} {m k : ℕ} {C : Clause} → First (AllFalse σ) F k C → Branch F order σ m [] (fails (R k) C)
  -- 2. else some clause has one unset literal and the others false: the first such clause makes it true
  forced : {σ : Setting} {m k : ℕ} {C : Clause} {t : ℤ} {ss us : List Step} {below out : Outcome}
      → NoneOf (AllFalse σ) F → First (SomeUnit σ) F k C → UnitOn σ t C
      → Branch F order (make_true σ t) m ss below → Back t (R k) C (m + length ss) below us out → Branch F order σ m (ss ++ us) out
  -- 3. else every clause has a true literal
  satisfied : {σ : Setting} {m : ℕ} → Each (SomeTrue σ) F → Branch F order σ m [] (fits σ)
  -- 4. else the order chooses a variable, on first; off only if the on side failed with a clause that has it off
  on_ends : {σ : Setting} {m k : ℕ} {ss : List Step} {out : Outcome} → Undecided σ F → Chosen σ order k
      → Branch F order (make_true σ (on k)) m ss out → Lacks (off k) out → Branch F order σ m ss out
  then_off : {σ : Setting} {m k : ℕ} {C : Clause} {r : Reference} {ss us vs : List Step} {below out : Outcome} → Undecided σ F → Chosen σ order k
      → Branch F order (make_true σ (on k)) m ss (fails r C) → off k ∈ C
      → Branch F order (make_true σ (off k)) (m + length ss) us below → Back (off k) r C (m + length ss + length us) below vs out
      → Branch F order σ m (ss ++ (us ++ vs)) out
