use Rattle.std.proofs.Common.{◌≡◌, ◌-◌, ◌/◌, length, ap, arith}
use Rattle.records.specs.Kept.{keeper, most}
use Rattle.records.specs.Line.{steps_in}
use Rattle.records.proofs.Steps.{exact_none}
use Rattle.records.proofs.lines.Lines.new.Goals as goal

pub invariant_of-result-clause-exact : goal.invariant_of-result-clause-exact
invariant_of-result-clause-exact c = exact_none c.args.bytes.now

pub returns-clause-empty : goal.returns-clause-empty
unfolding steps_in
returns-clause-empty c =
    let k = most (length c.args.bytes.now / 28) in
    let e : k - 0 ≡ k = omega arith in
    ap (keeper _) e
