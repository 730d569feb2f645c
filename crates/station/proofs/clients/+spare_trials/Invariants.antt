use Rattle.std.proofs.Common.{◌-◌, length}
use Rattle.station.specs.Views.{machine}
use Rattle.station.proofs.clients.+spare_trials.Given as goal

abbrev pub decreases-spare_trials : goal.decreases-spare_trials
decreases-spare_trials l = 8 - length (machine l.file.now).trials
