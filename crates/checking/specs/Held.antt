-- What the parts of checking answer, where the clauses of steps are held as sets of literals.
use Rattle.std.specs.Prelude.{◌≡◌, ℕ, List, [], ◌∷◌, Some, None, Ok, Err, Option, Result}
use Rattle.model.specs.declared.Reference.{Reference}
use Rattle.model.specs.declared.Step.{Step}
use Rattle.model.specs.declared.Decline.{Decline}
use Rattle.model.specs.Clauses.{Clause}
use Rattle.model.specs.Checking.{named, step_clause, at_closing}
use Rattle.clauses.specs.declared.LiteralSet.{LiteralSet}
use Rattle.clauses.specs.Sets.{Holds}

-- the sets hold the clauses, one by one
abbrev pub HoldAll : List LiteralSet → List Clause → Type 0
HoldAll [] [] = Unit {0}
HoldAll [] (D ∷ Ds) = ⊥
HoldAll (s ∷ sets) [] = ⊥
HoldAll (s ∷ sets) (D ∷ Ds) = Holds s D × HoldAll sets Ds

-- a set that holds the clause, if there is one
abbrev pub Found : Option Clause → Option LiteralSet → Type 0
Found None None = Unit {0}
Found None (Some s) = ⊥
Found (Some C) None = ⊥
Found (Some C) (Some s) = Holds s C

-- a set that holds the clause, or the same decline
abbrev pub Made : Result Clause Decline → Result LiteralSet Decline → Type 0
Made (Ok E) (Ok s) = Holds s E
Made (Ok E) (Err d) = ⊥
Made (Err e) (Ok s) = ⊥
Made (Err e) (Err d) = d ≡ e

abbrev pub Refuses : Option Decline → Result (Unit {0}) Decline → Type 0
Refuses fault (Ok u) = fault ≡ None
Refuses fault (Err d) = fault ≡ Some d

-- whichever clauses the sets of the earlier steps hold

abbrev pub Finds : List Clause → List LiteralSet → Reference → Option LiteralSet → Type 0
Finds F earlier reference r = (Ds : List Clause) → HoldAll earlier Ds → Found (named F Ds reference) r

abbrev pub Resolves : List Clause → List LiteralSet → Step → ℕ → Result LiteralSet Decline → Type 0
Resolves F earlier s j r = (Ds : List Clause) → HoldAll earlier Ds → Made (step_clause j s.variable (named F Ds s.left) (named F Ds s.right)) r

abbrev pub Closing : List Clause → List LiteralSet → Reference → Result (Unit {0}) Decline → Type 0
Closing F earlier closing r = (Ds : List Clause) → HoldAll earlier Ds → Refuses (at_closing (named F Ds closing)) r
