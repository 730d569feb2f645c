use Rattle.model.proofs.Searched.{steps_argue_lem}
use Rattle.model.proofs.theorems.steps_argue.Goals as goal

pub returns : goal.returns
returns c = steps_argue_lem
