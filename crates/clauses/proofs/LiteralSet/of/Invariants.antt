use Rattle.std.proofs.Common.{◌≡◌, take, ℤ}
use Rattle.clauses.specs.Sets.{member, named}
use Rattle.clauses.proofs.LiteralSet.of.Given as goal

abbrev pub invariant-loop-number : goal.invariant-loop-number
invariant-loop-number l = (u : ℤ) → member l.set u ≡ named (take l.number-index l.clause) u
