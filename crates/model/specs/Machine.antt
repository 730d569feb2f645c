-- The plain machine behind a station file: what each call answers, and what it leaves.
use Rattle.std.specs.Prelude.{◌≡◌, ℕ, zero, suc, ◌+◌, ◌-◌, Bool, true, false, cond, not, List, [], ◌∷◌, ◌++◌, length, take, ℤ, Some, None, Ok, Err, Option, Result, ◌==◌, nat_le, nat_lt, slice_index}
use Rattle.std.specs.List.{slice_get}
use Rattle.model.specs.declared.Decline.{Decline}
use Rattle.model.specs.declared.Decline.TheVariants.{BadSize, TrialStands, NotStarted, BadLiteral, WideClause, ClausesFull, LiteralsFull, SlipFilled, TrialsFull, SlipBlank, OtherFile, NotLatest}
use Rattle.model.specs.Clauses.{Clause, variable, has}

pub record Machine : Type 0 where
  -- how many variables, 0 where the file was never started; and the number of the file
  pub variables : ℕ
  pub number : ℕ
  pub clauses : List Clause
  -- how many clauses there were when each trial that stands was opened, the latest last
  pub trials : List ℕ

-- as an accepted start leaves it; with 0 variables, as it is before any start
abbrev pub fresh : ℕ → ℕ → Machine
fresh n f = record { variables = n; number = f; clauses = []; trials = [] }

-- a slip is blank, or holds the number of a file and the depth of a trial, from 1
pub data SlipState : Type 0 where
  blank : SlipState
  filled : ℕ → ℕ → SlipState

-- the checks of a call in their order: the first decline of a table whose test holds
abbrev pub first : List (Bool × Decline) → Option Decline
first [] = None
first (row ∷ rows) = cond row.0 (Some row.1) (first rows)

-- A call that is refused answers so, and leaves things as they were; any other answers and leaves what is said.
abbrev pub Does : {U E X : Type 0} → Option E → U → X → X → X → Result U E → Type 0
Does refusal answer before after now (Ok u) = (refusal ≡ None) × (u ≡ answer) × (now ≡ after)
Does refusal answer before after now (Err e) = (refusal ≡ Some e) × (now ≡ before)

-- start

abbrev pub start_refusal : Machine → ℕ → Option Decline
start_refusal m n = first (
    ((n == 0), BadSize)
    ∷ (nat_lt 200 n, BadSize)
    ∷ (not (length m.trials == 0), TrialStands)
    ∷ [])

abbrev pub Starts : Machine → ℕ → ℕ → Machine → Result (Unit {0}) Decline → Type 0
Starts m n f m' r = Does (start_refusal m n) tt m (fresh n f) m' r

-- enter

abbrev pub every : {A : Type 0} → (A → Bool) → List A → Bool
every p [] = true
every p (x ∷ xs) = cond (p x) (every p xs) false

-- a literal other than 0, of one of n variables
abbrev pub names : ℕ → ℤ → Bool
names n t = cond (nat_lt 0 (variable t)) (nat_le (variable t) n) false

-- ts after seen, with what is there already left out: equal literals merge, and first places are kept
abbrev pub merged : Clause → List ℤ → Clause
merged seen [] = seen
merged seen (t ∷ ts) = merged (cond (has seen t) seen (seen ++ (t ∷ []))) ts

abbrev pub literals : List Clause → ℕ
literals [] = 0
literals (C ∷ F) = length C + literals F

abbrev pub enter_refusal : Machine → List ℤ → Option Decline
enter_refusal m ts = first (
    ((m.variables == 0), NotStarted)
    ∷ (not (every (names m.variables) ts), BadLiteral)
    ∷ (nat_lt 24 (length (merged [] ts)), WideClause)
    ∷ (nat_le 1000 (length m.clauses), ClausesFull)
    ∷ (nat_lt 8000 (literals m.clauses + length (merged [] ts)), LiteralsFull)
    ∷ [])

abbrev pub entered : Machine → List ℤ → Machine
entered m ts = record { variables = m.variables; number = m.number; clauses = m.clauses ++ (merged [] ts ∷ []); trials = m.trials }

-- the answer is the clause's number, from 1
abbrev pub Enters : Machine → List ℤ → Machine → Result ℕ Decline → Type 0
Enters m ts m' r = Does (enter_refusal m ts) (length m.clauses + 1) m (entered m ts) m' r

-- show: the literals of the clause numbered k, from 1, if it stands

abbrev pub clause_at : List Clause → ℕ → Option Clause
clause_at F zero = None
clause_at F (suc k) = slice_get F k

-- open and close

abbrev pub is_blank : SlipState → Bool
is_blank blank = true
is_blank (filled f d) = false

abbrev pub file_of : SlipState → ℕ
file_of blank = 0
file_of (filled f d) = f

abbrev pub depth_of : SlipState → ℕ
depth_of blank = 0
depth_of (filled f d) = d

abbrev pub open_refusal : Machine → SlipState → Option Decline
open_refusal m s = first (
    ((m.variables == 0), NotStarted)
    ∷ (not (is_blank s), SlipFilled)
    ∷ (nat_le 8 (length m.trials), TrialsFull)
    ∷ [])

abbrev pub opened : Machine → Machine
opened m = record { variables = m.variables; number = m.number; clauses = m.clauses; trials = m.trials ++ (length m.clauses ∷ []) }

abbrev pub Opens : Machine → SlipState → Machine → SlipState → Result (Unit {0}) Decline → Type 0
Opens m s m' s' r = Does (open_refusal m s) tt m (opened m) m' r × Does (open_refusal m s) tt s (filled m.number (length m.trials + 1)) s' r

abbrev pub close_refusal : Machine → SlipState → Option Decline
close_refusal m s = first (
    ((m.variables == 0), NotStarted)
    ∷ (is_blank s, SlipBlank)
    ∷ (not (file_of s == m.number), OtherFile)
    ∷ (not (depth_of s == length m.trials), NotLatest)
    ∷ [])

-- the latest trial is dropped, and every clause that came after its opening
abbrev pub closed : Machine → Machine
closed m = record {
  variables = m.variables;
  number = m.number;
  clauses = take (slice_index m.trials (length m.trials - 1)) m.clauses;
  trials = take (length m.trials - 1) m.trials;
}

abbrev pub Closes : Machine → SlipState → Machine → SlipState → Result (Unit {0}) Decline → Type 0
Closes m s m' s' r = Does (close_refusal m s) tt m (closed m) m' r × Does (close_refusal m s) tt s blank s' r
