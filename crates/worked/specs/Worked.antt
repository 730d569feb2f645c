-- Cabinets worked by hand: what settling each answers and leaves, and that nothing else can be answered or left.
use Rattle.std.specs.Prelude.{◌≡◌, ℕ, ◌+◌, ◌-◌, ◌<◌, ◌≤◌, true, List, [], ◌∷◌, ◌++◌, length, drop, Some, Ok, Err, Result, nat_le}
use Rattle.model.specs.declared.Reference.{Reference}
use Rattle.model.specs.declared.Reference.TheVariants.{R, S}
use Rattle.model.specs.declared.Step.{Step}
use Rattle.model.specs.declared.Answer.{Answer}
use Rattle.model.specs.declared.Answer.TheVariants.{Fits, Cannot}
use Rattle.model.specs.declared.Decline.{Decline}
use Rattle.model.specs.declared.Decline.TheVariants.{RecordFull}
use Rattle.model.specs.Clauses.{Clause, on, off}
use Rattle.model.specs.Machine.{Machine, every, literals, Enters}
use Rattle.model.specs.Settling.{RecordMeaning, Settles}
use Rattle.orders.specs.Listed.{by_number}

-- P holds of a, and of nothing else
abbrev pub Only : {A : Type 0} → (A → Type 0) → A → Type 0
Only {A} P a = P a × ((b : A) → P b → b ≡ a)

-- the file numbered f, of n variables, with these clauses and no trial
abbrev pub holding : ℕ → ℕ → List Clause → Machine
holding f n F = record { variables = n; number = f; clauses = F; trials = [] }

-- a record that keeps steps, with those it holds, and how many more it takes
abbrev pub keeping : List Step → ℕ → RecordMeaning
keeping ss k = record { keeps = true; steps = ss; room = Some k }

-- The clauses F over n variables, chosen by number, are settled into an empty record that takes `room` steps. Whatever the file's number, the sheet
-- and the memory, if they have places for n: the answer is r, the record holds ss, the sheet begins with `front`, and beyond it is as it was.
abbrev pub Comes : ℕ → List Clause → ℕ → Result Answer Decline → List Step → List ℕ → Type 0
Comes n F room r ss front = (f : ℕ) (sheet memory : List ℕ) → every (nat_le n) (length sheet ∷ memory) ≡ true
    → Only (λ (x : Result Answer Decline × RecordMeaning × List ℕ). Settles (holding f n F) (by_number n) (keeping [] room) sheet memory x.0 x.1 x.2)
    (r, keeping ss (room - length ss), front ++ drop (length front) sheet)

-- a step from left and right on the variable k
abbrev pub step : Reference → Reference → ℕ → Step
step left right k = record { left = left; right = right; variable = k }

abbrev pub all_pairs : List Clause
all_pairs = (on 1 ∷ on 2 ∷ []) ∷ (on 1 ∷ off 2 ∷ []) ∷ (off 1 ∷ on 2 ∷ []) ∷ (off 1 ∷ off 2 ∷ []) ∷ []

abbrev pub five_rules : List Clause
five_rules = (on 1 ∷ on 2 ∷ []) ∷ (off 1 ∷ off 2 ∷ []) ∷ (off 1 ∷ on 3 ∷ []) ∷ (off 3 ∷ on 2 ∷ []) ∷ (on 3 ∷ on 4 ∷ []) ∷ []

pub record WorkedCases : Type 0 where
  pub no_clauses : Comes 1 [] 2000 (Ok Fits) [] (0 ∷ [])
  pub on_and_off : Comes 1 ((on 1 ∷ []) ∷ (off 1 ∷ []) ∷ []) 2000 (Ok (Cannot (S 1))) (step (R 1) (R 2) 1 ∷ []) []
  pub no_literals : Comes 1 ([] ∷ []) 2000 (Ok (Cannot (R 1))) [] []
  pub every_pair_shut_out : Comes 2 all_pairs 2000 (Ok (Cannot (S 3))) (step (R 3) (R 4) 2 ∷ step (R 1) (R 2) 2 ∷ step (S 2) (S 1) 1 ∷ []) []
  pub five_fit : Comes 4 five_rules 2000 (Ok Fits) (step (R 3) (R 4) 3 ∷ step (S 1) (R 2) 2 ∷ []) (0 ∷ 1 ∷ 1 ∷ 0 ∷ [])
  pub one_more_does_not : Comes 4 (five_rules ++ ((on 1 ∷ off 2 ∷ []) ∷ [])) 2000 (Ok (Cannot (S 4)))
      (step (R 3) (R 4) 3 ∷ step (S 1) (R 2) 2 ∷ step (R 1) (R 6) 2 ∷ step (S 3) (S 2) 1 ∷ []) []
  -- a record of two places, where three steps are made: the first two are held
  pub record_full : Comes 2 all_pairs 2 (Err RecordFull) (step (R 3) (R 4) 2 ∷ step (R 1) (R 2) 2 ∷ []) []
  -- 5 5 -5 is kept as 5 -5
  pub equal_literals_merge : (f n : ℕ) (F : List Clause) → 5 ≤ n → length F < 1000 → literals F + 2 ≤ 8000
      → Only (λ (x : Machine × Result ℕ Decline). Enters (holding f n F) (on 5 ∷ on 5 ∷ off 5 ∷ []) x.0 x.1)
      (holding f n (F ++ ((on 5 ∷ off 5 ∷ []) ∷ [])), Ok (length F + 1))
