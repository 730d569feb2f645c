use Rattle.std.proofs.Common.{◌≡◌, None, Err, ok_or, ⊎_elim, sym, ap, ◌∙◌}
use Rattle.std.specs.Result.{result_ok}
use Rattle.std.proofs.lemmas.Result.{err_from_is_err_and}
use Rattle.model.specs.declared.TextFault.TheVariants.{Problem}
use Rattle.model.specs.declared.ReadFault.TheVariants.{InText}
use Rattle.model.specs.Reading.{stop, step, step_before}
use Rattle.texts.specs.declared.Token.{Token as Cut}
use Rattle.texts.specs.Scan.{bytes_of, kind_of}
use Rattle.texts.proofs.StepsTaken.{before_token, word_before, bad_line, other_size, good_line}
use Rattle.texts.proofs.reading.begun.Goals as goal

pub returns-in_err-p : goal.returns-in_err-p
returns-in_err-p c = λ s b t m.
    let p = err_from_is_err_and c.from_residual.result c.from_residual.ensures.1 in
    rw (p.1, p.2) (word_before c.args.n s b c.args.p _ t c.in_err-p.was m)

pub returns-in-Comment : goal.returns-in-Comment
unfolding step_before
returns-in-Comment c = λ s b t m.
    let told : (k : Cut) → c.in_ok-p.p.token ≡ k → step s t ≡ step_before s (c.in_ok-p.p.place, bytes_of k) (kind_of k) = λ k q. before_token c.args.n s b c.args.p _ k t c.in_ok-p.was q m in
    ⊎_elim (λ k. told _ k.1) (λ k. told _ k.1) c.in-Comment.is

pub returns-in-Number : goal.returns-in-Number
unfolding step_before
returns-in-Number c = λ s b t m. before_token c.args.n s b c.args.p _ _ t c.in_ok-p.was c.in-Number.is m

pub returns-in_err-counts-in-Problem : goal.returns-in_err-counts-in-Problem
returns-in_err-counts-in-Problem c = λ s b t m.
    let p = err_from_is_err_and c.from_residual-in_err-counts-in-Problem.result c.from_residual-in_err-counts-in-Problem.ensures.1 in
    let none : c.counts_of.result ≡ None = c.ok_or.ensures.ok_part ∙ ap result_ok c.in_err-counts-in-Problem.was in
    let e : Problem c.in_ok-p.p.place ≡ c.in_err-counts-in-Problem.field-0.0 = let was : c.ok_or.result ≡ Err c.in_err-counts-in-Problem.field-0.0 = c.in_err-counts-in-Problem.was in cc (c.ok_or.ensures.value, ap (λ o. ok_or o (Problem c.in_ok-p.p.place)) none) in
    rw (p.1, p.2) (bad_line c.args.n s b c.args.p _ _ t c.in_ok-p.was c.in-Problem.is m (sym none ∙ c.counts_of.ensures) ∙ ap (λ x. stop (InText x)) e)

pub returns-then-counts-n : goal.returns-then-counts-n
returns-then-counts-n c = λ s b t m.
    other_size c.args.n s b c.args.p _ _ t c.in_ok-p.was c.in-Problem.is m c.in_ok-counts-in-Problem.counts (sym (c.ok_or.ensures.ok_part ∙ ap result_ok c.in_ok-counts-in-Problem.was) ∙ c.counts_of.ensures) c.if-counts-n.true

pub returns-else-counts-n : goal.returns-else-counts-n
returns-else-counts-n c = λ s b t m.
    good_line c.args.n s b c.args.p _ _ t c.in_ok-p.was c.in-Problem.is m c.in_ok-counts-in-Problem.counts (sym (c.ok_or.ensures.ok_part ∙ ap result_ok c.in_ok-counts-in-Problem.was) ∙ c.counts_of.ensures) c.if-counts-n.false
