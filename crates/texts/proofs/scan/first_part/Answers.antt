use Rattle.std.proofs.Common.{◌≡◌, ◌≢◌, true, false, get_or, refl, sym, ap, ◌∙◌, arith, rules}
use Rattle.std.proofs.lemmas.Bool.{eqb-true}
use Rattle.model.specs.Numbers.{digit}
use Rattle.model.specs.Words.{spelt, ends_line, ends_word}
use Rattle.texts.proofs.Rests.{comment_part, problem_part, end_part, word_part, plain_part, word_token, no_word_end, number_first}
use Rattle.texts.proofs.scan.first_part.Goals as goal
use Rattle.texts.proofs.scan.first_part.Goals.{in_default-via-in-Comment+else-fresh, in_default-via-in-Problem+else-fresh-2, in_default-via-in_default}

pub returns-then-ends_line : goal.returns-then-ends_line
returns-then-ends_line c = end_part c.args.fresh c.args.rest.now _ c.requires.some (eqb-true _ 10 (sym c.ends_line.ensures ∙ c.if-ends_line.true)) refl

pub returns-in-Comment : goal.returns-in-Comment
returns-in-Comment c = rw c.if-fresh.true (comment_part c.args.rest.now c.front-line.result c.requires.some c.in-Comment.ensures (c.front-line.ensures.fronts ends_line (λ x r q k. search rules)))

pub returns-in-Problem : goal.returns-in-Problem
returns-in-Problem c = rw c.if-fresh-2.true (problem_part c.args.rest.now c.front-line-in-Problem.result c.requires.some c.in-Problem.ensures (c.front-line-in-Problem.ensures.fronts ends_line (λ x r q k. search rules)))

pub returns-in-Number : goal.returns-in-Number
returns-in-Number c =
    let e = no_word_end (get_or c.args.rest.now 0 0) (sym c.ends_line.ensures ∙ c.if-ends_line.false) c.requires.starts in
    word_part c.args.fresh c.args.rest.now c.front-word.result.now c.map.result c.requires.some e (λ _. number_first (get_or c.args.rest.now 0 0) c.in-Number.ensures) (c.front-word.ensures.fronts ends_word (λ x r q k. search rules)) (λ at. word_token at c.front-word.result c.integer.result c.map.result _ c.map.ensures.cases (λ x r k. search rules) ∙ ap (λ i. ((at, c.front-word.result.now), spelt i)) c.integer.ensures)

pub returns-in_default : goal.returns-in_default
returns-in_default c =
    let first = get_or c.args.rest.now 0 0 in
    let e = no_word_end first (sym c.ends_line.ensures ∙ c.if-ends_line.false) c.requires.starts in
    let other : (c.args.fresh ≡ true → (first ≢ 99) × (first ≢ 112)) × (digit first ≡ false) × (first ≢ 45) = elim c.in_default.branch [ in_default-via-in-Comment+else-fresh w ↦ (λ t. cc, rw w.in-Comment.ensures refl, λ e. omega (arith, w.in-Comment.ensures, e)) | in_default-via-in-Problem+else-fresh-2 w ↦ (λ t. cc, rw w.in-Problem.ensures refl, λ e. omega (arith, w.in-Problem.ensures, e)) | in_default-via-in_default w ↦ search rules ] in
    plain_part c.args.fresh c.args.rest.now c.front.result.now c.requires.some e other (c.front.ensures.fronts ends_word (λ x r q k. search rules))
