-- What a station file and a slip mean: the plain machine and the state of a slip that they stand for.
use Rattle.std.specs.Prelude.{◌≡◌, ◌≢◌, ℕ, List, take, ℤ, Some, None, Ok, Err, Option, Result}
use Rattle.std.specs.Borrow.{Bor}
use Rattle.model.specs.declared.Decline.{Decline}
use Rattle.model.specs.declared.Decline.TheVariants.{NotStarted}
use Rattle.model.specs.Clauses.{Clause}
use Rattle.model.specs.Machine.{Machine, SlipState, blank, filled, clause_at}
use Rattle.station.specs.declared.Counts.{Counts}
use Rattle.station.specs.declared.Held.{Held}
use Rattle.station.specs.declared.StationFile.{StationFile}
use Rattle.station.specs.declared.Tables.{Tables}
use Rattle.station.specs.declared.trials.Slip.{Slip}
use Rattle.station.specs.Cuts.{parts}

-- the clauses that stand: the literals, cut at the ends
abbrev pub standing : Tables → Counts → List Clause
standing t k = parts t.lits 0 (take k.clauses t.ends)

-- the machine that the parts of a file stand for
unfoldable pub machine_in : ℕ → ℕ → Tables → Counts → List ℕ → Machine
machine_in n number t k trials = record { variables = n; number = number; clauses = standing t k; trials = trials }

unfoldable pub machine : StationFile → Machine
machine f = machine_in f.variables f.number f.tables f.counts f.marks.items

-- how many variables the file has, or that it was never started
abbrev pub Started : Machine → Result ℕ Decline → Type 0
Started m (Ok n) = (m.variables ≢ 0) × (n ≡ m.variables)
Started m (Err e) = (m.variables ≡ 0) × (e ≡ NotStarted)

-- a machine with the first clauses only
abbrev pub cut_to : ℕ → Machine → Machine
cut_to kept m = record { variables = m.variables; number = m.number; clauses = take kept m.clauses; trials = m.trials }

-- the literals of the clause numbered k, as a part of the file itself, or nothing where no clause k stands
abbrev pub Shown : Machine → ℕ → Option (Bor (List ℤ)) → Type 0
Shown m k None = clause_at m.clauses k ≡ None
Shown m k (Some r) = clause_at m.clauses k ≡ Some r.now

abbrev pub state_of : Option Held → SlipState
state_of None = blank
state_of (Some h) = filled h.file h.depth

-- a slip is blank where it holds no trial
unfoldable pub slip_state : Slip → SlipState
slip_state s = state_of s.held
