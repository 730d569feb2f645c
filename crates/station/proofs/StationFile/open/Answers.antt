use Rattle.std.proofs.Common.{arith}
use Rattle.std.proofs.lemmas.Grind.{common_steps}
use Rattle.station.specs.Views.{machine_in, machine, slip_state}
use Rattle.station.proofs.Files.{count_is}
use Rattle.station.proofs.StationFile.open.Goals as goal

pub returns : goal.returns
unfolding machine machine_in slip_state
returns c = grind (arith, common_steps, count_is)
