use Rattle.std.proofs.Common.{◌≡◌, ◌*◌, ◌/◌, ◌≤◌, [], ◌∷◌, ◌++◌, length, drop, ap, ◌∙◌, arith, rules}
use Rattle.std.proofs.lemmas.List.{take_all}
use Rattle.model.specs.Settling.{noted}
use Rattle.records.specs.Kept.{most}
use Rattle.records.specs.Line.{lines, steps_in}
use Rattle.records.proofs.Steps.{lent_bytes}
use Rattle.records.proofs.tests.two_lines.Goals as goal

pub returns : goal.returns
returns c =
    let es = c.args.bytes.now in
    let made = c.new-steps.result in
    let end = c.put_two.new.steps in
    let ss = c.args.first ∷ c.args.second ∷ [] in
    let k = most (length es / 28) in
    let h : length ss ≤ k = omega arith in
    let held : steps_in end.used end.bytes.now ≡ ss =
    ap (λ m. m.steps) (c.put_two.ensures.noted ∙ ap (λ m. noted m ss) c.new-steps.ensures.empty) ∙ take_all k ss h in
    let w : end.bytes.now ≡ lines ss ++ drop 56 es =
    lent_bytes end.used (made.used * 28) made.bytes.now end.bytes.now ss end.exact c.put_two.ensures.tied.1 held
    ∙ ap (λ xs. lines ss ++ drop 56 xs) c.new-steps.ensures.unchanged in
    search rules
