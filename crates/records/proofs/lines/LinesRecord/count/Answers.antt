use Rattle.std.proofs.Common.{sym}
use Rattle.records.proofs.Steps.{steps_count}
use Rattle.records.proofs.lines.LinesRecord.count.Goals as goal

pub returns : goal.returns
returns c = sym (steps_count _ _)
