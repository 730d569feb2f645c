use Rattle.std.proofs.Common.{◌≡◌, ◌*◌, ◌/◌, ◌%◌, [], length, get_or, take, drop, ap, ◌∙◌, arith, rules}
use Rattle.std.specs.Simd.{first_chunks}
use Rattle.records.specs.Line.{named, said, number}
use Rattle.records.proofs.Laid.{named_front}
use Rattle.records.proofs.line.read.Goals as goal

pub returns : goal.returns
unfolding said
returns c =
    let bs = c.args.bytes.now in
    let l : length bs ≡ 28 = search rules in
    let q : length bs / 12 ≡ 2 = omega arith in
    let f = c.as_chunks.ensures.front ∙ ap (λ k. first_chunks 12 k bs) q in
    let b = c.as_chunks.ensures.back ∙ ap (λ k. drop (k * 12) bs) q in
    let left = c.read_reference.ensures ∙ (ap (λ xs. named (get_or xs 0 [])) f ∙ named_front bs) in
    let right = c.read_reference-2.ensures ∙ (ap (λ xs. named (get_or xs 1 [])) f ∙ named_front (drop 12 bs)) in
    let n = c.read_number-variable.ensures ∙ ap (λ xs. number 0 (take 3 xs) % 4294967296) b in
    let v : c.read_number-variable.result % 256 ≡ number 0 (take 3 (drop 24 bs)) % 256 = omega arith in
    cc
