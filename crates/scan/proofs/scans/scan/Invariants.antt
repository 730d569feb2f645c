use Rattle.std.specs.Iterator.Adapters.{zip_first, zip_second}
use Rattle.station.specs.Left.{clauses_left}
use Rattle.station.specs.Views.{machine}
use Rattle.scan.proofs.Scanned.{UpTo}
use Rattle.scan.proofs.scans.scan.Given as goal

abbrev pub invariant-loop-k : goal.invariant-loop-k
invariant-loop-k l = UpTo l.settings (machine l.file).clauses (zip_first l.k-iterator).start (clauses_left (zip_second l.k-iterator)) l.so_far
