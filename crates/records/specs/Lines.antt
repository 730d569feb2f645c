-- What a record in lines means.
use Rattle.std.specs.Prelude.{ℕ, ◌-◌, ◌/◌, List, length}
use Rattle.model.specs.Settling.{RecordMeaning, Keeps}
use Rattle.records.specs.Kept.{keeper, most, keeper_keeps}
use Rattle.records.specs.Line.{steps_in}

-- so many lines in these bytes
abbrev pub lines_of : ℕ → List ℕ → RecordMeaning
lines_of used bytes = keeper (steps_in used bytes) (most (length bytes / 28) - used)

pub lines_keeps : (used : ℕ) (bytes : List ℕ) → Keeps (lines_of used bytes)
lines_keeps used bytes = keeper_keeps (steps_in used bytes) (length bytes / 28) used
