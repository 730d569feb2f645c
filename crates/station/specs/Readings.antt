-- What the parts of reading a text into a file answer.
use Rattle.std.specs.Prelude.{◌≡◌, ℕ, List, ℤ, Some, Ok, Err, Result}
use Rattle.model.specs.declared.ReadFault.{ReadFault}
use Rattle.model.specs.declared.ReadFault.TheVariants.{InText}
use Rattle.model.specs.declared.TextFault.{TextFault}
use Rattle.model.specs.Machine.{Machine}
use Rattle.model.specs.Reading.{Reading, State, accepted, faulty, finish, Reads}
use Rattle.station.specs.declared.Counts.{Counts}
use Rattle.station.specs.declared.Hand.{Hand}
use Rattle.station.specs.declared.Tables.{Tables}
use Rattle.station.specs.Views.{machine_in}
use Rattle.station.specs.Hands.{Holds}

-- where reading stands after a problem line that says c
abbrev pub stands : ℕ → Machine → ℕ → List ℤ → State
stands c m done ts = record { declared = Some c; machine = m; done = done; hand = ts }

-- the end of a text, as it is found
abbrev pub ending : State → Result (Unit {0}) TextFault → Reading
ending s (Ok u) = accepted s.done s.machine
ending s (Err e) = faulty (InText e)

-- whether a text of the given size may end with this hand
abbrev pub Ended : ℕ → ℕ → Hand → ℕ → Result (Unit {0}) TextFault → Type 0
Ended c done h size r = (n : ℕ) (m : Machine) (ts : List ℤ) → Holds n h ts → finish size (stands c m done ts) ≡ ending (stands c m done ts) r

-- a text is read into the tables of a file, whatever its number and its trials
abbrev pub ReadInto : ℕ → Tables → Counts → List ℕ → Tables → Counts → Result ℕ ReadFault → Type 0
ReadInto n t k text t' k' r =
    (number : ℕ) (trials : List ℕ) → Reads (machine_in n number t k trials) text (machine_in n number t' k' trials) r
