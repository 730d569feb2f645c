use Rattle.texts.proofs.Rests.{rest_start}
use Rattle.texts.proofs.Reader.over.Goals as goal

pub returns-clause-all : goal.returns-clause-all
returns-clause-all c = rest_start c.args.text.now
