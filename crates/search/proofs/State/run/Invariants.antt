use Rattle.std.proofs.Common.{◌≡◌}
use Rattle.search.specs.States.{position, machine_of, Run, Going, weight}
use Rattle.search.proofs.State.run.Given as goal

abbrev pub invariant-loop-answer : goal.invariant-loop-answer
invariant-loop-answer g l =
    (machine_of l.self ≡ machine_of l.initial.self)
    × g.R.Record.over l.initial.record l.record
    × ((run : Run) → run.order ≡ (g.O.Order.meaning l.order).list → Going run (machine_of l.initial.self) (g.R.Record.meaning l.initial.record) (position l.initial.self)
    → Going run (machine_of l.initial.self) (g.R.Record.meaning l.record) (position l.self))

abbrev pub decreases-loop-answer : goal.decreases-loop-answer
decreases-loop-answer g l = weight (machine_of l.initial.self).variables (position l.self).marks
