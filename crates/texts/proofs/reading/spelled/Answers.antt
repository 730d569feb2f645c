use Rattle.std.proofs.Common.{sym, ap, ◌∙◌, w32, SFits, rules}
use Rattle.std.proofs.lemmas.Int.{to_z-of_z}
use Rattle.std.proofs.lemmas.Result.{err_from_is_err_and}
use Rattle.model.specs.Reading.{step_after, took}
use Rattle.texts.proofs.StepsTaken.{after_token, word_after}
use Rattle.texts.proofs.reading.spelled.Goals as goal

pub returns-in_err-place : goal.returns-in_err-place
returns-in_err-place c = λ s a t m.
    let p = err_from_is_err_and c.from_residual.result c.from_residual.ensures.1 in
    rw (p.1, p.2) (word_after s a c.args.p _ t c.in_err-place.was m)

pub returns-in-Number : goal.returns-in-Number
unfolding step_after
returns-in-Number c = λ s a t m.
    let v = c.in-Number.value in
    let fit : SFits w32 v = search rules in
    after_token s a c.args.p _ _ t c.in_ok-place.was c.in-Number.is m ∙ ap (took s c.in_ok-place.field-0.place) (sym (to_z-of_z w32 v fit))

pub returns-in-LineEnd : goal.returns-in-LineEnd
unfolding step_after
returns-in-LineEnd c = λ s a t m. after_token s a c.args.p _ _ t c.in_ok-place.was c.in-LineEnd.is m

pub returns-in-Comment : goal.returns-in-Comment
unfolding step_after
returns-in-Comment c = λ s a t m. after_token s a c.args.p _ _ t c.in_ok-place.was c.in-Comment.is m

pub returns-in-Problem : goal.returns-in-Problem
unfolding step_after
returns-in-Problem c = λ s a t m. after_token s a c.args.p _ _ t c.in_ok-place.was c.in-Problem.is m
