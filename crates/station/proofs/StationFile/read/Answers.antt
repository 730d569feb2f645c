use Rattle.station.specs.Views.{machine}
use Rattle.station.proofs.StationFile.read.Goals as goal

pub returns : goal.returns
unfolding machine
returns c = c.read_into.ensures.reads c.args.self.now.number c.args.self.now.marks.items
