use Rattle.clauses.proofs.Members.{none_in}
use Rattle.clauses.proofs.LiteralSet.empty.Goals as goal

pub returns : goal.returns
returns c = none_in
