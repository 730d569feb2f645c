use Rattle.lives.proofs.Checked.{check_worth}
use Rattle.station.specs.Views.{machine}
use Rattle.checking.proofs.check.Goals as goal

pub returns-clause-worth : goal.returns-clause-worth
returns-clause-worth g c = check_worth (machine c.args.file.now) _ _ _ c.faultless.result c.faultless.ensures
