-- What was written reads back.
use Rattle.std.specs.Prelude.{◌≡◌, ℕ, List, length, take, Ok, Err, Result}
use Rattle.model.specs.declared.Decline.{Decline}
use Rattle.model.specs.Machine.{Machine, fresh}
use Rattle.model.specs.Reading.{accepted, reading}
use Rattle.texts.specs.Laws.{Limits, copy}

-- where k bytes were written, they read back, into a fresh file of as many variables, as exactly the clauses of the machine
abbrev pub GivesBack : Machine → List ℕ → Result ℕ Decline → Type 0
GivesBack m bytes (Ok k) = (f : ℕ) → Limits m → reading (fresh m.variables f) (take k bytes) ≡ accepted (length m.clauses) (copy m f)
GivesBack m bytes (Err e) = Unit {0}
