use Rattle.std.proofs.Common.{◌≡◌, ◌+◌, ◌-◌, arith}
use Rattle.records.specs.Line.{digits}
use Rattle.records.proofs.Digits.{digit_put}
use Rattle.records.proofs.line.write_number.Goals as goal

pub loop-i-preserved : goal.loop-i-preserved
loop-i-preserved c =
    let bs = c.loop-i.places in
    let i = c.loop-i.i in
    let e : i - 1 + 1 ≡ i = omega arith in
    digit_put (i - 1) c.loop-i.rest bs _ (omega arith) (rw e c.loop-i.invariant)

pub returns : goal.returns
unfolding digits
returns c =
    let z : c.loop-i.i ≡ 0 = omega arith in
    rw z at c.loop-i.invariant
