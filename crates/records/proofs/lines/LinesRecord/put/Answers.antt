use Rattle.std.proofs.Common.{ap, ◌∙◌, refl, arith}
use Rattle.records.specs.Line.{said}
use Rattle.records.proofs.Putting.{put_into}
use Rattle.records.proofs.Steps.{one_more}
use Rattle.records.proofs.lines.LinesRecord.put.Goals as goal

pub invariant_of-self : goal.invariant_of-self
invariant_of-self c =
    let t = c.args.self.now in
    let w = c.copy_from_slice.ensures.after in
    let o = one_more t.used t.bytes.now _ c.args.step (omega (arith, t.fits)) (w ∙ c.write.ensures.written) (ap said w ∙ c.write.ensures.read_back) in
    record { fits = omega (arith, t.fits, o.beyond.long); exact = o.exact t.exact }

pub returns : goal.returns
returns c =
    let t = c.args.self.now in
    let w = c.copy_from_slice.ensures.after in
    let o = one_more t.used t.bytes.now _ c.args.step (omega (arith, t.fits)) (w ∙ c.write.ensures.written) (ap said w ∙ c.write.ensures.read_back) in
    record { tied = (refl, o.beyond); puts = put_into _ _ _ _ c.args.step (omega (arith, t.fits)) o.held (omega (arith, t.fits, o.beyond.long)) }
