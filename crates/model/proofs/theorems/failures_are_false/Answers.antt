use Rattle.model.proofs.Failing.{failing}
use Rattle.model.proofs.theorems.failures_are_false.Goals as goal

pub returns : goal.returns
returns c F order σ m ss r C b = failing b
