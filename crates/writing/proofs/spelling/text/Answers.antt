use Rattle.std.proofs.Common.{ap, ◌∙◌}
use Rattle.model.specs.Writing.{clause_texts}
use Rattle.station.specs.Left.{clauses_left}
use Rattle.station.specs.Views.{machine}
use Rattle.writing.proofs.Putting.{puts_same}
use Rattle.writing.proofs.Pieces.{clause_put, none_put, text_put}
use Rattle.writing.proofs.spelling.text.Goals as goal

pub loop-literals-init : goal.loop-literals-init
loop-literals-init g c e p =
    puts_same g.S.Sink.took _ _ _ _ (ap clause_texts (ap clauses_left c.into_iter-literals-iterator.ensures.into_iter_gives ∙ c.iter-literals-items.ensures)) p

pub loop-literals-preserved : goal.loop-literals-preserved
loop-literals-preserved g c e p =
    c.loop-literals.invariant e (clause_put g.S.Sink.took c.loop-literals.sink c.clause.new.sink e _ _ c.in-Some.literals.now c.in-Some.ensures.steps c.clause.ensures p)

pub returns : goal.returns
returns g c =
    let took = g.S.Sink.took in
    let m = machine c.args.file.now in
    let all = c.loop-literals.invariant c.loop-literals.sink (none_put took c.loop-literals.sink _ c.in-None.ensures.steps.0) in
    text_put took c.args.sink.now c.problem_line.new.sink c.loop-literals.sink m _ _ (c.from.ensures ∙ c.variables.ensures) c.clauses.ensures c.problem_line.ensures all
