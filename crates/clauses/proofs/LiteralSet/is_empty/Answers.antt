use Rattle.clauses.proofs.Members.{emptiness}
use Rattle.clauses.proofs.LiteralSet.is_empty.Goals as goal

pub returns : goal.returns
returns c = emptiness c.args.self.now c.contains.result c.contains.ensures.cases
