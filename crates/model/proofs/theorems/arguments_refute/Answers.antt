use Rattle.model.proofs.Resolution.{no_model}
use Rattle.model.proofs.theorems.arguments_refute.Goals as goal

pub returns : goal.returns
returns c F ss r a = no_model a
