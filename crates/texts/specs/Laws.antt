-- A law above reading and writing: what is written reads back.
use Rattle.std.specs.Prelude.{◌≡◌, ℕ, ◌<◌, ◌≤◌, true, [], length}
use Rattle.model.specs.Clauses.{Clause, Each}
use Rattle.model.specs.Machine.{Machine, fresh, every, names, merged, literals}
use Rattle.model.specs.Reading.{accepted, reading}
use Rattle.model.specs.Writing.{text_of}

-- a clause that a file of n variables holds: literals of them, none twice, at most 24
pub record Fair (n : ℕ) (c : Clause) : Type 0 where
  pub named : every (names n) c ≡ true
  pub different : merged [] c ≡ c
  pub short : length c ≤ 24

-- a machine within the limits of a file that was started
pub record Limits (m : Machine) : Type 0 where
  pub started : 0 < m.variables
  pub variables : m.variables ≤ 200
  pub fair : Each (Fair m.variables) m.clauses
  pub clauses : length m.clauses ≤ 1000
  pub literals : literals m.clauses ≤ 8000

-- a file numbered f with the variables and the clauses of another, and no trials
abbrev pub copy : Machine → ℕ → Machine
copy m f = record { variables = m.variables; number = f; clauses = m.clauses; trials = [] }

-- the text of a machine reads back, into a fresh file of as many variables, as the same clauses
abbrev pub ReadsBack : Type 0
ReadsBack = (m : Machine) (f : ℕ) → Limits m → reading (fresh m.variables f) (text_of m) ≡ accepted (length m.clauses) (copy m f)
