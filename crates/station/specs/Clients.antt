-- What the worked clients of a station file answer and leave.
use Rattle.std.specs.Prelude.{◌≡◌, ℕ, ◌+◌, ◌-◌, cond, List, [], ◌∷◌, length, ℤ, Some, None, Ok, Err, Option, Result, ◌==◌}
use Rattle.model.specs.declared.Decline.{Decline}
use Rattle.model.specs.Clauses.{Clause}
use Rattle.model.specs.Machine.{Machine, blank, Enters, clause_at, open_refusal, enter_refusal}

-- what refuses a clause that is entered in a trial of its own: the opening, and else the entry
abbrev pub try_refusal : Option Decline → Option Decline → Option Decline
try_refusal (Some e) entry = Some e
try_refusal None entry = entry

-- the answer is that of an entry, and the file is left as it was
abbrev pub Tries : Machine → List ℤ → Machine → Result ℕ Decline → Type 0
Tries m ts m' (Ok k) = (try_refusal (open_refusal m blank) (enter_refusal m ts) ≡ None) × (k ≡ length m.clauses + 1) × (m' ≡ m)
Tries m ts m' (Err e) = (try_refusal (open_refusal m blank) (enter_refusal m ts) ≡ Some e) × (m' ≡ m)

-- none before a start, and else what is left of 8
abbrev pub spare : Machine → ℕ
spare m = cond (m.variables == 0) 0 (8 - length m.trials)

abbrev pub Spares : Machine → Machine → ℕ → Type 0
Spares m m' k = (k ≡ spare m) × (m' ≡ m)

-- the first literal of a clause
abbrev pub head_of : Option Clause → Option ℤ
head_of None = None
head_of (Some []) = None
head_of (Some (t ∷ ts)) = Some t

-- the first literal of the clause numbered k is entered, if there is one
abbrev pub FirstEntered : Machine → ℕ → Machine → Option (Result ℕ Decline) → Type 0
FirstEntered m k m' None = (head_of (clause_at m.clauses k) ≡ None) × (m' ≡ m)
FirstEntered m k m' (Some r) = (t : ℤ) × (head_of (clause_at m.clauses k) ≡ Some t) × Enters m (t ∷ []) m' r
