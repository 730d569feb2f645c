-- How clauses stand at a setting.
use Rattle.std.specs.Prelude.{◌≡◌, ℕ, List, ℤ}
use Rattle.model.specs.Clauses.{Clause, ◌∈◌, Each}
use Rattle.model.specs.Search.{Setting, value, AllFalse, UnitOn, SomeUnit, SomeTrue, First, NoneOf, Undecided}
use Rattle.clauses.specs.Sets.{code}
use Rattle.scan.specs.declared.Test.{Test}
use Rattle.scan.specs.declared.Test.TheVariants.{AllFalse as all_false, Unit as unit, SomeTrue as some_true, Open as neither}
use Rattle.scan.specs.declared.Scan.{Scan}
use Rattle.scan.specs.declared.Scan.TheVariants.{Conflict, Forced, Satisfied, Undecided as undecided}

-- an unset literal is in the clause
abbrev pub SomeUnset : Setting → Clause → Type 0
SomeUnset σ C = (t : ℤ) × (t ∈ C) × (value σ t ≡ 2)

abbrev pub Tested : Setting → Clause → Test → Type 0
Tested σ C all_false = AllFalse σ C
Tested σ C (unit t) = UnitOn σ (code t) C
Tested σ C some_true = SomeTrue σ C
Tested σ C neither = SomeUnset σ C × (SomeTrue σ C → ⊥) × (SomeUnit σ C → ⊥)

-- what the scan of the clauses F says: the search's rules 1 to 3 in their order, or that the order has to choose
abbrev pub Scanned : Setting → List Clause → Scan → Type 0
Scanned σ F (Conflict k) = (C : Clause) × First (AllFalse σ) F k C
Scanned σ F (Forced k t) = NoneOf (AllFalse σ) F × ((C : Clause) × (First (SomeUnit σ) F k C × UnitOn σ (code t) C))
Scanned σ F Satisfied = Each (SomeTrue σ) F
Scanned σ F undecided = Undecided σ F

-- the scan with one clause more, the one numbered k, which stands so
abbrev pub added : Scan → ℕ → Test → Scan
added (Conflict j) k r = Conflict j
added (Forced j t) k all_false = Conflict k
added (Forced j t) k (unit u) = Forced j t
added (Forced j t) k some_true = Forced j t
added (Forced j t) k neither = Forced j t
added Satisfied k all_false = Conflict k
added Satisfied k (unit u) = Forced k u
added Satisfied k some_true = Satisfied
added Satisfied k neither = undecided
added undecided k all_false = Conflict k
added undecided k (unit u) = Forced k u
added undecided k some_true = undecided
added undecided k neither = undecided
