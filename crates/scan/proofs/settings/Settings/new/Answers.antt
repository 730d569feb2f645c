use Rattle.std.proofs.Common.{ℕ, zero, suc, ◌≤◌, get_or, replicate, ap, ◌∙◌, arith}
use Rattle.std.proofs.lemmas.List.{take-replicate}
use Rattle.scan.proofs.settings.Settings.new.Goals as goal

twos : (m k : ℕ) → get_or (replicate m 2) k 0 ≤ 2
twos zero k = omega arith
twos (suc m) zero = omega arith
twos (suc m) (suc k) = twos m k

pub invariant_of-result : goal.invariant_of-result
invariant_of-result c = (omega arith, twos 256)

pub returns : goal.returns
returns c = take-replicate c.min.result 256 2 (omega (arith, c.min.ensures)) ∙ ap (λ k. replicate k 2) c.min.ensures
