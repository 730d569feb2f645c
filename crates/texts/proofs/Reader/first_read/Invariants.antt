use Rattle.std.proofs.Common.{Ok, None}
use Rattle.model.specs.Clauses.{Each}
use Rattle.texts.proofs.Reader.first_read.Given as goal

abbrev pub invariant-loop-p : goal.invariant-loop-p
invariant-loop-p g l = Each (λ p. goal.F-post g l.reads p (Ok None)) l.yielded
