use Rattle.model.proofs.Total.{ends}
use Rattle.model.proofs.theorems.search_ends.Goals as goal

pub returns : goal.returns
returns c = ends
