use Rattle.std.proofs.Common.{take}
use Rattle.model.specs.Writing.{literal_texts}
use Rattle.writing.specs.Sinks.{Puts}
use Rattle.writing.proofs.spelling.clause.Given as goal

abbrev pub invariant-loop-t : goal.invariant-loop-t
invariant-loop-t g l = Puts g.S.Sink.took l.initial.sink (literal_texts (take l.t-index l.literals)) l.sink
