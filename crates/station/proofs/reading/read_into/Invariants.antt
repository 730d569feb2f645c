use Rattle.std.proofs.Common.{◌≡◌, Some, length}
use Rattle.texts.specs.Scan.{rest_of}
use Rattle.station.proofs.Going.{Going}
use Rattle.station.proofs.reading.read_into.Given as goal

abbrev pub invariant-loop-t : goal.invariant-loop-t
invariant-loop-t l =
    (l.guard.saved ≡ Some l.fn.counts)
    × (l.guard.counts.ghost_name ≡ l.initial.guard.counts.ghost_name)
    × Going l.n l.text l.initial.tables l.fn.counts l.tables l.guard.counts.now l.declared l.done l.hand (rest_of l.reader)

abbrev pub decreases-loop-t : goal.decreases-loop-t
decreases-loop-t l = length (rest_of l.reader)
