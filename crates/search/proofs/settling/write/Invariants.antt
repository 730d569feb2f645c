use Rattle.std.proofs.Common.{◌≡◌, ◌++◌, map, take, drop}
use Rattle.model.specs.Settling.{byte}
use Rattle.search.proofs.settling.write.Given as goal

abbrev pub invariant-loop-i : goal.invariant-loop-i
invariant-loop-i l = l.sheet ≡ map byte (take l.i l.settings) ++ drop l.i l.initial.sheet
