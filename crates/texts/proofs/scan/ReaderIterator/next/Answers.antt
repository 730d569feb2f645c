use Rattle.std.proofs.Common.{◌≡◌, ◌+◌, not, [], length, drop, refl, ap, ◌∙◌, arith, rules}
use Rattle.std.proofs.lemmas.List.{drop_all, take_rest, length-drop}
use Rattle.model.specs.Words.{blank}
use Rattle.texts.specs.Scan.{rest_tokens, line_begins}
use Rattle.texts.proofs.Rests.{rest_end, blanks, rest_skip, rest_part, starts}
use Rattle.texts.proofs.Given.{given_by, progress}
use Rattle.texts.proofs.scan.ReaderIterator.next.Goals as goal

pub returns-then-place-text-clause-steps : goal.returns-then-place-text-clause-steps
returns-then-place-text-clause-steps c =
    let r = c.args.self.now in
    let text = r.text.now in
    let f = blanks text r.at c.front.result.now (c.front.ensures.fronts (λ b. not (blank b)) (λ x r q k. search rules)) in
    let at = r.at + length c.front.result.now in
    let e : rest_tokens (line_begins text at) at (drop at text) ≡ [] = ap (rest_tokens (line_begins text at) at) (drop_all at text (omega arith)) ∙ rest_end (line_begins text at) at in
    ((rest_skip text r.at c.front.result.now f ∙ e, e), refl)

pub first_part-requires-clause-starts : goal.first_part-requires-clause-starts
first_part-requires-clause-starts c =
    let r = c.args.self.now in
    let text = r.text.now in
    let f = blanks text r.at c.front.result.now (c.front.ensures.fronts (λ b. not (blank b)) (λ x r q k. search rules)) in
    starts text r.at c.front.result.now _ f (omega (arith, c.front.ensures.within, ap length (take_rest text r.at), length-drop r.at text)) (take_rest text (r.at + length c.front.result.now))

pub returns-clause-steps : goal.returns-clause-steps
returns-clause-steps c =
    let r = c.args.self.now in
    let text = r.text.now in
    let f = blanks text r.at c.front.result.now (c.front.ensures.fronts (λ b. not (blank b)) (λ x r q k. search rules)) in
    let at = r.at + length c.front.result.now in
    let g = given_by at c.first_part.result.0.now c.first_part.result.1 c.map.result c.ok_or.result _ c.map.ensures.cases (λ t p k. search rules) c.ok_or.ensures.value in
    ((_, g, rest_skip text r.at c.front.result.now f ∙ rest_part text at c.first_part.result.0.now c.first_part.result.1 _ _ c.begins_line.ensures (take_rest text at) c.first_part.ensures), refl)

pub returns-clause-goes : goal.returns-clause-goes
returns-clause-goes c = progress _ _ _ (returns-clause-steps c)
