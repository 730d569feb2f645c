use Rattle.std.proofs.Common.{◌≡◌, ap, ◌∙◌, map, take, arith, rules}
use Rattle.std.specs.Option.{option_map}
use Rattle.records.specs.Kept.{step_at}
use Rattle.records.specs.Line.{said}
use Rattle.records.proofs.Putting.{looked}
use Rattle.records.proofs.Steps.{steps_lines}
use Rattle.records.proofs.lines.LinesRecord.look.Goals as goal

pub returns : goal.returns
returns c =
    let t = c.args.self.now in
    let xs = take t.used c.as_chunks.result.0.now in
    let m : c.map.result ≡ option_map (λ x. said x.now) c.get.result = search rules in
    let s = ap (λ ys. map said (take t.used ys)) c.as_chunks.ensures.front ∙ steps_lines t.used _ t.bytes.now (omega (arith, t.fits)) in
    m ∙ (looked said xs c.args.k c.in_ok-checked_sub.field-0 c.get.result c.get.ensures.lookup.3 c.in_ok-checked_sub.ensures.0 c.in_ok-checked_sub.ensures.1 ∙ ap (λ ss. step_at ss c.args.k) s)
