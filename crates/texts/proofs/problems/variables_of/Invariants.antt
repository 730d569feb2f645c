use Rattle.std.proofs.Common.{◌≡◌}
use Rattle.model.specs.Words.{tokens}
use Rattle.model.specs.Reading.{variables_in}
use Rattle.texts.specs.Scan.{rest_of}
use Rattle.texts.proofs.problems.variables_of.Given as goal

abbrev pub invariant-loop-p : goal.invariant-loop-p
invariant-loop-p l = variables_in (rest_of l.p-iterator) ≡ variables_in (tokens l.text)
