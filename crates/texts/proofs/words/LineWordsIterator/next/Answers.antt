use Rattle.std.proofs.Common.{not, length, true-eqb, false-eqb, rules}
use Rattle.std.proofs.lemmas.List.{take_rest}
use Rattle.model.specs.Words.{ends_word}
use Rattle.texts.proofs.Spellings.{no_word, next_word, progress}
use Rattle.texts.proofs.words.LineWordsIterator.next.Goals as goal

pub returns-then-is_empty-clause-steps : goal.returns-then-is_empty-clause-steps
returns-then-is_empty-clause-steps c =
    let word = c.front-word.result.now in
    let gap = c.front-blanks.ensures.fronts (λ b. not (ends_word b)) (λ x b q k. search rules) in
    no_word _ _ _ word _ gap (take_rest _ (length c.front-blanks.result.now)) (c.front-word.ensures.fronts ends_word (λ x b q k. search rules)) (take_rest _ (length word)) (true-eqb (length word) 0 c.if-is_empty.ensures)

pub returns-clause-steps : goal.returns-clause-steps
returns-clause-steps c =
    let word = c.front-word.result.now in
    let gap = c.front-blanks.ensures.fronts (λ b. not (ends_word b)) (λ x b q k. search rules) in
    next_word _ _ _ word _ gap (take_rest _ (length c.front-blanks.result.now)) (c.front-word.ensures.fronts ends_word (λ x b q k. search rules)) (take_rest _ (length word)) (false-eqb (length word) 0 c.if-is_empty.ensures)

pub returns-clause-goes : goal.returns-clause-goes
returns-clause-goes c = progress _ _ _ (returns-clause-steps c)
