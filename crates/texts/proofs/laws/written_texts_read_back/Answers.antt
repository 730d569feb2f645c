use Rattle.texts.proofs.Back.{reads_back}
use Rattle.texts.proofs.laws.written_texts_read_back.Goals as goal

pub returns : goal.returns
returns c = reads_back
