use Rattle.lives.proofs.Living.{lives}
use Rattle.lives.proofs.every_life.Goals as goal

pub returns : goal.returns
returns c = lives
