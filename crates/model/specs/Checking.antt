-- What checking an argument answers: its first fault, or none.
use Rattle.std.specs.Prelude.{◌≡◌, ℕ, suc, ◌<◌, ◌≤◌, cond, ◌&&◌, List, [], ◌∷◌, ◌++◌, length, ℤ, Some, None, Ok, Err, Option, Result, ◌==◌, nat_lt}
use Rattle.model.specs.declared.Reference.{Reference}
use Rattle.model.specs.declared.Reference.TheVariants.{R, S}
use Rattle.model.specs.declared.Step.{Step}
use Rattle.model.specs.declared.Decline.{Decline}
use Rattle.model.specs.declared.Decline.TheVariants.{NotStarted, FewClausePlaces, NamesNothing, LacksVariable, NotClosing}
use Rattle.model.specs.Clauses.{Clause, Valuation, Model, on, off, same, has}
use Rattle.model.specs.Arguments.{Argument}
use Rattle.model.specs.Machine.{Machine, first, clause_at}

-- the clause that a reference names, among the clauses F of the file and the clauses Ds of the earlier steps
abbrev pub named : List Clause → List Clause → Reference → Option Clause
named F Ds (R k) = clause_at F k
named F Ds (S k) = clause_at Ds k

abbrev pub without : ℤ → Clause → Clause
without t [] = []
without t (u ∷ C) = cond (same u t) (without t C) (u ∷ without t C)

-- the clause of step j, on the variable k, from its left and its right: their resolvent
abbrev pub step_clause : ℕ → ℕ → Option Clause → Option Clause → Result Clause Decline
step_clause j k None N = Err (NamesNothing j)
step_clause j k (Some L) None = Err (NamesNothing j)
step_clause j k (Some L) (Some N) = cond (has L (on k) && has N (off k)) (Ok (without (on k) L ++ without (off k) N)) (Err (LacksVariable j))

-- the closing reference names the clause without a literal
abbrev pub at_closing : Option Clause → Option Decline
at_closing None = Some NotClosing
at_closing (Some []) = None
at_closing (Some (t ∷ C)) = Some NotClosing

-- the first fault after steps with the clauses Ds
unfoldable pub check_from : List Clause → List Clause → List Step → Reference → Option Decline
check_from F Ds [] closing = at_closing (named F Ds closing)
check_from F Ds (s ∷ ss) closing =
    elim (step_clause (suc (length Ds)) s.variable (named F Ds s.left) (named F Ds s.right))
    [ Ok E ↦ check_from F (Ds ++ (E ∷ [])) ss closing | Err d ↦ Some d ]

abbrev pub either_refusal : Option Decline → Option Decline → Option Decline
either_refusal (Some d) e = Some d
either_refusal None e = e

-- places: how many clauses the memory has room for
abbrev pub check_refusal : Machine → List Step → Reference → ℕ → Option Decline
check_refusal m ss closing places = either_refusal (first (
    ((m.variables == 0), NotStarted)
    ∷ (nat_lt places (length ss), FewClausePlaces)
    ∷ [])) (check_from m.clauses [] ss closing)

abbrev pub Checks : Machine → List Step → Reference → ℕ → Result (Unit {0}) Decline → Type 0
Checks m ss closing places (Ok u) = check_refusal m ss closing places ≡ None
Checks m ss closing places (Err d) = check_refusal m ss closing places ≡ Some d

-- What an answer of checking is worth. Accepted: the steps and the closing reference are an argument, so that no valuation satisfies the clauses.
-- Declined, though the file was started and the memory has a place for each step: they are none.
abbrev pub CheckWorth : Machine → List Step → Reference → ℕ → Result (Unit {0}) Decline → Type 0
CheckWorth m ss closing places (Ok u) = Argument m.clauses ss closing × ((v : Valuation) → Model v m.clauses → ⊥)
CheckWorth m ss closing places (Err d) = 0 < m.variables → length ss ≤ places → Argument m.clauses ss closing → ⊥
