-- Where a search stands: the settings made on the way from the root, the latest first.
use Rattle.std.specs.Prelude.{ℕ, List, [], ◌∷◌, ◌++◌, length, ℤ}
use Rattle.model.specs.Clauses.{Clause, on, off, ◌∈◌}
use Rattle.model.specs.Search.{Setting, Reference, Step, AllFalse, UnitOn, SomeUnit, First, NoneOf, Chosen, Undecided, make_true, fails, Branch}
use Rattle.model.specs.Arguments.{unset}

-- a literal that a clause forced, by the clause's number; a variable chosen, on; and then off, after the clause that the on side failed with
pub data Entry : Type 0 where
  by_clause : ℤ → ℕ → Entry
  on_side : ℕ → Entry
  off_side : ℕ → Reference → Clause → Entry

-- the way to a setting, with the steps made before it was reached: each entry has what the search's rule asks for
pub data Way (F : List Clause) (order : List ℕ) (n : ℕ) : List Entry → Setting → List Step → Type 0 where
  root : Way F order n [] (unset n) []
  forced_here : {T : List Entry} {σ : Setting} {done : List Step} {k : ℕ} {C : Clause} {t : ℤ}
      → Way F order n T σ done → NoneOf (AllFalse σ) F → First (SomeUnit σ) F k C → UnitOn σ t C
      → Way F order n (by_clause t k ∷ T) (make_true σ t) done
  on_here : {T : List Entry} {σ : Setting} {done : List Step} {k : ℕ} → Way F order n T σ done → Undecided σ F → Chosen σ order k
      → Way F order n (on_side k ∷ T) (make_true σ (on k)) done
  off_here : {T : List Entry} {σ : Setting} {done ss : List Step} {k : ℕ} {r : Reference} {C : Clause} → Way F order n T σ done → Undecided σ F → Chosen σ order k
      → Branch F order (make_true σ (on k)) (length done) ss (fails r C) → off k ∈ C
      → Way F order n (off_side k r C ∷ T) (make_true σ (off k)) (done ++ ss)
