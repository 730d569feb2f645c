use Rattle.lives.proofs.Checked.{exact}
use Rattle.lives.proofs.checking_is_exact.Goals as goal

pub returns : goal.returns
returns c = exact
