-- What a hand of literals holds, and what appending it to the tables of a file does.
use Rattle.std.specs.Prelude.{◌≡◌, ℕ, ◌+◌, ◌≤◌, Bool, true, false, cond, List, [], ◌∷◌, ◌++◌, length, take, ℤ, Some, None, Ok, Err, Result, nat_lt}
use Rattle.arrayvec.specs.ArrayVec.{ArrayVec}
use Rattle.model.specs.declared.Decline.{Decline}
use Rattle.model.specs.declared.Decline.TheVariants.{BadLiteral, WideClause}
use Rattle.model.specs.Clauses.{Clause, has}
use Rattle.model.specs.Machine.{every, names, merged, enter_refusal, entered}
use Rattle.station.specs.declared.Counts.{Counts}
use Rattle.station.specs.declared.Hand.{Hand}
use Rattle.station.specs.declared.Tables.{Tables}
use Rattle.station.specs.Tables.{Sound}
use Rattle.station.specs.Views.{machine_in}

-- a clause that is not too wide
abbrev pub fitting : Clause → Result (ArrayVec ℤ) Decline
fitting C = cond (nat_lt 24 (length C)) (Err WideClause) (Ok (record { items = C }))

-- the clause of the literals ts in a file of n variables, or the decline that they alone decide
abbrev pub gathered : ℕ → List ℤ → Result (ArrayVec ℤ) Decline
gathered n ts = cond (every (names n) ts) (fitting (merged [] ts)) (Err BadLiteral)

-- such a clause, or decline, with one literal more
abbrev pub joined : ℕ → Result (ArrayVec ℤ) Decline → ℤ → Result (ArrayVec ℤ) Decline
joined n (Ok v) t = cond (names n t) (cond (has v.items t) (Ok v) (fitting (v.items ++ (t ∷ [])))) (Err BadLiteral)
joined n (Err d) t = cond (names n t) (Err d) (Err BadLiteral)

-- the hand decides the entry of ts in a file of n variables
pub record Holds (n : ℕ) (h : Hand) (ts : List ℤ) : Type 0 where
  pub size : h.variables ≡ n
  pub clause : h.clause ≡ gathered n ts

-- what stood stays: the first literals and ends
pub record Fronts (k : Counts) (t t' : Tables) (k' : Counts) : Type 0 where
  pub lits : take k.literals t'.lits ≡ take k.literals t.lits
  pub ends : take k.clauses t'.ends ≡ take k.clauses t.ends
  pub low : k.literals ≤ k'.literals
  pub count : k.clauses ≤ k'.clauses

pub record Added (n : ℕ) (t : Tables) (k : Counts) (ts : List ℤ) (t' : Tables) (k' : Counts) : Type 0 where
  pub sound : Sound n t' k'
  pub fronts : Fronts k t t' k'
  pub one : k'.clauses ≡ k.clauses + 1
  pub allowed : (number : ℕ) (trials : List ℕ) → enter_refusal (machine_in n number t k trials) ts ≡ None
  pub now_in : (number : ℕ) (trials : List ℕ) → machine_in n number t' k' trials ≡ entered (machine_in n number t k trials) ts

pub record Refused (n : ℕ) (t : Tables) (k : Counts) (ts : List ℤ) (t' : Tables) (e : Decline) : Type 0 where
  pub same : t' ≡ t
  pub refused : (number : ℕ) (trials : List ℕ) → enter_refusal (machine_in n number t k trials) ts ≡ Some e

-- the clause ts is entered at the end of the tables, or refused and nothing changes
abbrev pub Appended : ℕ → Tables → Counts → List ℤ → Tables → Result Counts Decline → Type 0
Appended n t k ts t' (Ok k') = Added n t k ts t' k'
Appended n t k ts t' (Err e) = Refused n t k ts t' e

-- b tells whether P holds
abbrev pub Tells : Bool → Type 0 → Type 0
Tells true P = P
Tells false P = P → ⊥
