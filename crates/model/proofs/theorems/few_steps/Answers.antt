use Rattle.model.proofs.Searched.{few_steps_lem}
use Rattle.model.proofs.theorems.few_steps.Goals as goal

pub returns : goal.returns
returns c = few_steps_lem
