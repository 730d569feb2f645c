use Rattle.std.proofs.Common.{◌≡◌, ◌++◌, length, drop}
use Rattle.records.specs.Line.{digits}
use Rattle.records.proofs.line.write_number.Given as goal

abbrev pub invariant-loop-i : goal.invariant-loop-i
invariant-loop-i l = digits l.i l.rest ++ drop l.i l.places ≡ digits (length l.initial.places) l.initial.rest
