use Rattle.model.specs.Writing.{clause_texts}
use Rattle.station.specs.Left.{clauses_left}
use Rattle.station.specs.Views.{machine}
use Rattle.writing.specs.Sinks.{Puts}
use Rattle.writing.proofs.spelling.text.Given as goal

-- where the clauses left lead from here, all clauses lead from the start
abbrev pub invariant-loop-literals : goal.invariant-loop-literals
invariant-loop-literals g l =
    (e : g.row.S.Denot) → Puts g.S.Sink.took l.sink (clause_texts (clauses_left l.literals-iterator)) e
    → Puts g.S.Sink.took l.initial.sink (clause_texts (machine l.file).clauses) e
