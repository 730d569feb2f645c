use Rattle.std.proofs.Common.{take}
use Rattle.station.specs.Hands.{Holds}
use Rattle.station.proofs.StationFile.enter.Given as goal

abbrev pub invariant-loop-t : goal.invariant-loop-t
invariant-loop-t l = Holds l.self.variables l.hand (take l.t-index l.literals)
