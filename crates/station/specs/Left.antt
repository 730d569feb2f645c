-- Which clauses an iterator over the clauses of a file has still to give, in their order.
use Rattle.std.specs.Prelude.{List}
use Rattle.model.specs.Clauses.{Clause}
use Rattle.station.specs.declared.clauses.Clauses.{Clauses}
use Rattle.station.specs.Cuts.{parts}

abbrev pub clauses_left : Clauses → List Clause
clauses_left c = parts c.lits.now c.from c.ends.now
