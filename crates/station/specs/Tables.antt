-- What the tables and the counts of a file say of its clauses. It names no station file, so that a ghost field of one may cite it.
use Rattle.std.specs.Prelude.{◌≡◌, ℕ, ◌≤◌, true, length, take}
use Rattle.model.specs.Machine.{every, names}
use Rattle.station.specs.declared.Counts.{Counts}
use Rattle.station.specs.declared.Tables.{Tables}
use Rattle.station.specs.Cuts.{rises, last_of}

-- the clauses that are counted end one after another, and speak of n variables only
pub record Sound (n : ℕ) (t : Tables) (k : Counts) : Type 0 where
  pub wide : length t.lits ≡ 8000
  pub tall : length t.ends ≡ 1000
  pub clauses : k.clauses ≤ 1000
  pub literals : k.literals ≤ 8000
  pub rising : rises 0 (take k.clauses t.ends) ≡ true
  pub last : last_of 0 (take k.clauses t.ends) ≡ k.literals
  pub named : every (names n) (take k.literals t.lits) ≡ true
