use Rattle.std.proofs.Common.{◌≡◌, ◌^◌, ◌<◌, drop}
use Rattle.model.specs.Numbers.{digits, decimal_value}
use Rattle.texts.proofs.numbers.natural.Given as goal

abbrev pub invariant-loop-b : goal.invariant-loop-b
invariant-loop-b l = (l.v < 10 ^ l.b-index) × (digits (drop l.b-index l.w) ≡ digits l.w) × (decimal_value l.v (drop l.b-index l.w) ≡ decimal_value 0 l.w)
