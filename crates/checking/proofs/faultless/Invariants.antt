use Rattle.std.proofs.Common.{take}
use Rattle.station.specs.Views.{machine}
use Rattle.checking.proofs.Checked.{Going}
use Rattle.checking.proofs.faultless.Given as goal

abbrev pub invariant-loop-i : goal.invariant-loop-i
invariant-loop-i g l = Going (machine l.file).clauses (g.R.Record.meaning l.«record»).steps l.closing (take l.i l.memory) l.i
