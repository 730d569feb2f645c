-- What the parts of reading answer, each by the step that it takes from every state.
use Rattle.std.specs.Prelude.{◌≡◌, ℕ, List, [], ◌∷◌, ◌++◌, Some, None, Ok, Err, Option, Result}
use Rattle.std.specs.Iterator.{Yields}
use Rattle.model.specs.declared.TextFault.{TextFault}
use Rattle.model.specs.declared.ReadFault.TheVariants.{InText}
use Rattle.model.specs.Clauses.{Each}
use Rattle.model.specs.Words.{Placed}
use Rattle.model.specs.Reading.{State, Step, on, stop, headed, took, step}
use Rattle.texts.specs.declared.Reader.{Reader}
use Rattle.texts.specs.declared.Placed.{Placed as Read}
use Rattle.texts.specs.declared.Numeral.{Numeral}
use Rattle.model.specs.declared.WordFault.{WordFault}
use Rattle.texts.specs.Scan.{Means, Gives, rest_of}

-- the problem line is still to come, to a file of n variables
pub record Before (n : ℕ) (s : State) : Type 0 where
  pub none : s.declared ≡ None
  pub size : s.machine.variables ≡ n

-- it came
abbrev pub After : State → Type 0
After s = (c : ℕ) × (s.declared ≡ Some c)

-- one token before the problem line: nothing, or the clause count of that line
abbrev pub began : State → Result (Option ℕ) TextFault → Step
began s (Ok None) = on s
began s (Ok (Some c)) = on (headed s c)
began s (Err e) = stop (InText e)

-- one token after it: nothing, or a number at a place
abbrev pub spoke : State → Result (Option Numeral) TextFault → Step
spoke s (Ok None) = on s
spoke s (Ok (Some t)) = took s t.place t.value
spoke s (Err e) = stop (InText e)

-- what is read of one token is the step that it takes, from every state of which P holds
abbrev pub Tells : {X : Type 0} → (State → Type 0) → (State → X → Step) → Result Read WordFault → X → Type 0
Tells P says r x = (s : State) → P s → (t : Placed) → Means r t → step s t ≡ says s x

abbrev pub Begins : ℕ → Result Read WordFault → Result (Option ℕ) TextFault → Type 0
Begins n = Tells (Before n) began

abbrev pub Spells : Result Read WordFault → Result (Option Numeral) TextFault → Type 0
Spells = Tells After spoke

-- tokens that leave the state as it is
abbrev pub Idle : State → List Placed → Type 0
Idle s ts = Each (λ t. step s t ≡ on s) ts

-- of the tokens, some leave the state as it is, the next takes the step, and the others are left
pub record Takes (s : State) (ts : List Placed) (left : List Placed) (st : Step) : Type 0 where
  pub idle : List Placed
  pub token : Placed
  pub tokens : ts ≡ idle ++ (token ∷ left)
  pub passed : Idle s idle
  pub stepped : step s token ≡ st

-- all of the tokens leave the state as it is
abbrev pub Ends : State → List Placed → List Placed → Type 0
Ends s ts left = Idle s ts × (left ≡ [])

-- nothing was read of the tokens before t, and r of the next, or nothing comes
abbrev pub FoundAt : {X : Type 0} → (Result Read WordFault → Result (Option X) TextFault → Type 0) → Reader → Reader → Result (Option X) TextFault → Type 0
FoundAt reads t b (Ok None) = Gives t None b
FoundAt reads t b (Ok (Some x)) = (p : Result Read WordFault) × Gives t (Some p) b × reads p (Ok (Some x))
FoundAt reads t b (Err e) = (p : Result Read WordFault) × Gives t (Some p) b × reads p (Err e)

pub record Found {X : Type 0} (reads : Result Read WordFault → Result (Option X) TextFault → Type 0) (a b : Reader) (r : Result (Option X) TextFault) : Type 0 where
  pub passed : List (Result Read WordFault)
  pub there : Reader
  pub given : Yields Gives a passed there
  pub nothing : Each (λ p. reads p (Ok None)) passed
  pub last : FoundAt reads there b r

-- up to the first token of which something is read, if one comes
abbrev pub Finds : {X : Type 0} → (State → Result (Option X) TextFault → Step) → State → List Placed → List Placed → Result (Option X) TextFault → Type 0
Finds says s ts left (Ok None) = Ends s ts left
Finds says s ts left (Ok (Some x)) = Takes s ts left (says s (Ok (Some x)))
Finds says s ts left (Err e) = Takes s ts left (says s (Err e))

-- up to the problem line: its clause count, if it comes
abbrev pub Heading : State → List Placed → List Placed → Result (Option ℕ) TextFault → Type 0
Heading = Finds began

abbrev pub Heads : ℕ → Reader → Reader → Result (Option ℕ) TextFault → Type 0
Heads n a b r = (s : State) → Before n s → Heading s (rest_of a) (rest_of b) r

-- up to the next number after it, if one comes
abbrev pub Counting : State → List Placed → List Placed → Result (Option Numeral) TextFault → Type 0
Counting = Finds spoke

abbrev pub Counts : Reader → Reader → Result (Option Numeral) TextFault → Type 0
Counts a b r = (s : State) → After s → Counting s (rest_of a) (rest_of b) r
