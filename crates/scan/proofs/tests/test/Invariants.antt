use Rattle.std.proofs.Common.{take}
use Rattle.scan.specs.Tests.{Tested}
use Rattle.scan.proofs.tests.test.Given as goal

abbrev pub invariant-loop-number : goal.invariant-loop-number
invariant-loop-number l = Tested l.settings (take l.number-index l.literals) l.so_far
