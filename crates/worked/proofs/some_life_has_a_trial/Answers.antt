use Rattle.worked.proofs.Trials.{some_trial}
use Rattle.worked.proofs.some_life_has_a_trial.Goals as goal

pub returns : goal.returns
returns c = some_trial
