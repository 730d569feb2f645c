use Rattle.std.proofs.Common.{◌≡◌, ◌≤◌, length}
use Rattle.search.specs.States.{position, machine_of, Run, Stuck, heavy}
use Rattle.search.proofs.State.unwind.Given as goal

abbrev pub invariant-loop-self : goal.invariant-loop-self
invariant-loop-self g l =
    (machine_of l.self ≡ machine_of l.initial.self)
    × g.R.Record.over l.initial.record l.record
    × ((run : Run) → Stuck run (machine_of l.initial.self) (g.R.Record.meaning l.initial.record) (position l.initial.self) l.initial.failure
    → Stuck run (machine_of l.initial.self) (g.R.Record.meaning l.record) (position l.self) l.failure)
    × (heavy (machine_of l.initial.self).variables 0 (position l.self).marks ≤ heavy (machine_of l.initial.self).variables 0 (position l.initial.self).marks)

abbrev pub decreases-loop-self : goal.decreases-loop-self
decreases-loop-self g l = length (position l.self).marks
