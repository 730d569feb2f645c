use Rattle.std.proofs.Common.{Some, None, ◌∙◌}
use Rattle.texts.proofs.Given.{variables_none, past_word, past_token, at_problem}
use Rattle.texts.proofs.problems.variables_of.Goals as goal

pub returns-in_err-counts_of : goal.returns-in_err-counts_of
returns-in_err-counts_of c =
    c.from_residual.ensures ∙ (at_problem c.loop-p.p-iterator c.next.new.self c.in-Some.p c.in-Ok.p c.in-Problem.line None c.in-Some.ensures.steps c.in-Ok.is c.in-Problem.is c.in_err-counts_of.ensures ∙ c.loop-p.invariant)

pub returns-in-Problem : goal.returns-in-Problem
returns-in-Problem c =
    at_problem c.loop-p.p-iterator c.next.new.self c.in-Some.p c.in-Ok.p c.in-Problem.line (Some c.in_ok-counts_of.field-0) c.in-Some.ensures.steps c.in-Ok.is c.in-Problem.is c.in_ok-counts_of.ensures ∙ c.loop-p.invariant

pub loop-p-preserved-in_default : goal.loop-p-preserved-in_default
loop-p-preserved-in_default c = past_word c.loop-p.p-iterator c.next.new.self c.in-Some.p c.in_default.field-0 c.in-Some.ensures.steps c.in_default.is ∙ c.loop-p.invariant

pub loop-p-preserved : goal.loop-p-preserved
loop-p-preserved c = past_token c.loop-p.p-iterator c.next.new.self c.in-Some.p c.in-Ok.p c.in-Some.ensures.steps c.in-Ok.is c.in_default-token.not-Problem ∙ c.loop-p.invariant

pub returns : goal.returns
returns c = variables_none c.loop-p.p-iterator c.in-None.ensures.steps.0.0 ∙ c.loop-p.invariant
