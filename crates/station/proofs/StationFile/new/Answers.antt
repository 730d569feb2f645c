use Rattle.std.proofs.Common.{rules}
use Rattle.station.specs.Cuts.{rises, last_of}
use Rattle.station.proofs.StationFile.new.Goals as goal

pub invariant_of-result : goal.invariant_of-result
unfolding rises last_of
invariant_of-result c = search rules
