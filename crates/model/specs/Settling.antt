-- What orders and records mean, and what settling a file answers and leaves.
use Rattle.std.specs.Prelude.{◌≡◌, ℕ, ◌-◌, ◌<◌, ◌≤◌, Bool, true, false, cond, not, leb, ◌≢◌, List, [], ◌∷◌, ◌++◌, map, length, take, drop, Some, None, Ok, Err, Option, Result, ◌==◌, nat_le}
use Rattle.model.specs.declared.Step.{Step}
use Rattle.model.specs.declared.Answer.{Answer}
use Rattle.model.specs.declared.Answer.TheVariants.{Fits, Cannot}
use Rattle.model.specs.declared.Decline.{Decline}
use Rattle.model.specs.declared.Decline.TheVariants.{NotStarted, OtherSize, FewPlaces, RecordUsed, RecordFull}
use Rattle.model.specs.Clauses.{Member, Each, Valuation, Model}
use Rattle.model.specs.Search.{Setting, entry, Chosen, Branch, Outcome, fits, fails}
use Rattle.model.specs.Arguments.{unset, reads}
use Rattle.model.specs.Machine.{Machine, first, Does, every}

-- orders

-- what an order means: a size n, and a list of the variables 1 to n
pub record OrderMeaning : Type 0 where
  pub size : ℕ
  pub list : List ℕ

-- the list has n places and each of 1 to n, so each once and nothing else
abbrev pub Lists : OrderMeaning → Type 0
Lists o = (length o.list ≡ o.size) × ((k : ℕ) → 0 < k → k ≤ o.size → Member k o.list)

-- a choice: the first variable of the list that is unset, or none if none is
abbrev pub Chooses : Setting → List ℕ → Option ℕ → Type 0
Chooses σ list (Some k) = Chosen σ list k
Chooses σ list None = Each (λ k. entry σ k ≢ 2) list

-- records

-- what a record means: whether it keeps steps, those it holds, and how many more it takes, None if there is no end
pub record RecordMeaning : Type 0 where
  pub keeps : Bool
  pub steps : List Step
  pub room : Option ℕ

abbrev pub Limited : Option ℕ → Type 0
Limited None = ⊥
Limited (Some k) = k ≤ 65535

-- a record that keeps takes a number of steps, at most 65,535
abbrev pub Keeps : RecordMeaning → Type 0
Keeps rec = rec.keeps ≡ true → Limited rec.room

abbrev pub takes : Option ℕ → List Step → List Step
takes None ss = ss
takes (Some k) ss = take k ss

abbrev pub left_of : Option ℕ → ℕ → Option ℕ
left_of None k = None
left_of (Some r) k = Some (r - k)

-- the record after these steps were put into it, or as many of them as it takes
abbrev pub noted : RecordMeaning → List Step → RecordMeaning
noted rec ss = record { keeps = rec.keeps; steps = cond rec.keeps (rec.steps ++ takes rec.room ss) rec.steps; room = left_of rec.room (length ss) }

-- it takes all of them
abbrev pub takes_all : Option ℕ → List Step → Bool
takes_all None ss = true
takes_all (Some k) ss = nat_le (length ss) k

-- it takes no more
abbrev pub is_full : Option ℕ → Bool
is_full None = false
is_full (Some k) = k == 0

-- put: declined exactly where it takes no more
abbrev pub put_refusal : RecordMeaning → Option Decline
put_refusal rec = first ((is_full rec.room, RecordFull) ∷ [])

abbrev pub Puts : RecordMeaning → Step → RecordMeaning → Result (Unit {0}) Decline → Type 0
Puts rec s rec' r = Does (put_refusal rec) tt rec (noted rec (s ∷ [])) rec' r

-- settle

abbrev pub byte : ℕ → ℕ
byte b = cond (b == 1) 1 0

-- 1 for on, 0 for off and unset, in the first places of the sheet; the others stay
abbrev pub written : Setting → List ℕ → List ℕ
written τ sheet = map byte τ ++ drop (length τ) sheet

-- how many places the sheet has, and each stack
abbrev pub settle_refusal : Machine → OrderMeaning → RecordMeaning → ℕ → List ℕ → Option Decline
settle_refusal m o rec sheet memory = first (
    ((m.variables == 0), NotStarted)
    ∷ (not (o.size == m.variables), OtherSize)
    ∷ (not (every (leb m.variables) (sheet ∷ memory)), FewPlaces)
    ∷ (not (length rec.steps == 0), RecordUsed)
    ∷ [])

-- what is said of the search's end, where the record takes every step or not; and the sheet afterwards
abbrev pub told : Bool → Outcome → List ℕ → Result Answer Decline × List ℕ
told false out sheet = (Err RecordFull, sheet)
told true (fits τ) sheet = (Ok Fits, written τ sheet)
told true (fails ref C) sheet = (Ok (Cannot ref), sheet)

abbrev pub Settled : Option Decline → Machine → OrderMeaning → RecordMeaning → List ℕ → Result Answer Decline → RecordMeaning → List ℕ → Type 0
Settled (Some d) m o rec sheet r rec' sheet' = (r ≡ Err d) × (rec' ≡ rec) × (sheet' ≡ sheet)
Settled None m o rec sheet r rec' sheet' = (ss : List Step) × (out : Outcome) × Branch m.clauses o.list (unset m.variables) 0 ss out
    × (rec' ≡ noted rec ss) × (r ≡ (told (takes_all rec.room ss) out sheet).0) × (sheet' ≡ (told (takes_all rec.room ss) out sheet).1)

-- either it is refused, and nothing changes; or the search makes its steps and ends, and answer, record and sheet are as its end says
abbrev pub Settles : Machine → OrderMeaning → RecordMeaning → List ℕ → List ℕ → Result Answer Decline → RecordMeaning → List ℕ → Type 0
Settles m o rec sheet memory r rec' sheet' = Settled (settle_refusal m o rec (length sheet) memory) m o rec sheet r rec' sheet'

-- What an answer is worth: after "fits" the first n bytes of the sheet are a model of the clauses, after "cannot" there is none.
abbrev pub Worth : Machine → Result Answer Decline → List ℕ → Type 0
Worth m (Ok Fits) sheet = Model (reads (take m.variables sheet)) m.clauses
Worth m (Ok (Cannot ref)) sheet = (v : Valuation) → Model v m.clauses → ⊥
Worth m (Err d) sheet = Unit {0}
