-- Where the search stands, as the code holds it, and what one move of it makes of that.
use Rattle.std.specs.Prelude.{◌≡◌, ℕ, suc, ◌+◌, ◌-◌, ◌^◌, ◌<◌, ◌≤◌, min, Bool, true, false, cond, ◌⊎◌, List, [], ◌∷◌, ◌++◌, length, ℤ, Some, None, Ok, Err, Option, Result}
use Rattle.model.specs.declared.Step.{Step}
use Rattle.model.specs.declared.Reference.TheVariants.{S}
use Rattle.model.specs.declared.Answer.{Answer}
use Rattle.model.specs.declared.Answer.TheVariants.{Fits, Cannot}
use Rattle.model.specs.declared.Decline.{Decline}
use Rattle.model.specs.declared.Decline.TheVariants.{RecordFull}
use Rattle.model.specs.Clauses.{Clause, on, off, opposite}
use Rattle.model.specs.Search.{Setting, make_true, Outcome, fits, fails, Branch, made}
use Rattle.model.specs.Arguments.{unset}
use Rattle.model.specs.Machine.{Machine}
use Rattle.model.specs.Settling.{RecordMeaning, noted, takes_all, Puts}
use Rattle.model.specs.Way.{Entry, by_clause, on_side, off_side, Way}
use Rattle.clauses.specs.Sets.{code, member, left_over, Holds}
use Rattle.station.specs.Views.{machine}
use Rattle.search.specs.declared.Why.{Why}
use Rattle.search.specs.declared.Why.TheVariants.{Clause as Forcing, On, Off}
use Rattle.search.specs.declared.Mark.{Mark}
use Rattle.search.specs.declared.Frame.{Frame}
use Rattle.search.specs.declared.State.{State}
use Rattle.search.specs.declared.Turn.{Turn}
use Rattle.search.specs.declared.Turn.TheVariants.{Failing, Turned}
use Rattle.search.specs.Stacks.{items}

-- where the search stands: the setting, the trail and the frames from the lowest, and the steps made
pub record Position : Type 0 where
  pub settings : Setting
  pub marks : List Mark
  pub frames : List Frame
  pub made : ℕ

abbrev pub position : State → Position
position s = record { settings = s.settings; marks = items s.trail; frames = items s.frames; made = s.made }

abbrev pub machine_of : State → Machine
machine_of s = machine s.file.now

-- the search that is run: its order, and what the record meant before it
pub record Run : Type 0 where
  pub order : List ℕ
  pub before : RecordMeaning

-- trail and frames hold these entries
abbrev pub Held : List Entry → List Mark → List Frame → Type 0
Held [] ms fs = (ms ≡ []) × (fs ≡ [])
Held (by_clause t k ∷ T) ms fs = (rest : List Mark) × (m : Mark) × (ms ≡ rest ++ (m ∷ [])) × (code m.literal ≡ t) × (m.why ≡ Forcing k) × Held T rest fs
Held (on_side k ∷ T) ms fs = (rest : List Mark) × (m : Mark) × (ms ≡ rest ++ (m ∷ [])) × (code m.literal ≡ on k) × (m.why ≡ On) × Held T rest fs
Held (off_side k r C ∷ T) ms fs = (rest : List Mark) × (m : Mark) × (ms ≡ rest ++ (m ∷ [])) × (code m.literal ≡ off k) × (m.why ≡ Off)
    × (low : List Frame) × (f : Frame) × (fs ≡ low ++ (f ∷ [])) × (f.by ≡ r) × Holds f.clause C × Held T rest low

-- the record took each of these steps, and this is their number as 32 bits tell it
pub record Logged (run : Run) (rec : RecordMeaning) (count : ℕ) (ss : List Step) : Type 0 where
  pub noted_is : rec ≡ noted run.before ss
  pub all : takes_all run.before.room ss ≡ true
  pub count_is : count ≡ min (length ss) 4294967295

-- the search stands at a setting, and goes on from it
pub record Going (run : Run) (m : Machine) (rec : RecordMeaning) (p : Position) : Type 0 where
  pub entries : List Entry
  pub done : List Step
  pub way : Way m.clauses run.order m.variables entries p.settings done
  pub held : Held entries p.marks p.frames
  pub logged : Logged run rec p.made done

-- the search from a setting has failed with the clause of a frame
pub record Stuck (run : Run) (m : Machine) (rec : RecordMeaning) (p : Position) (f : Frame) : Type 0 where
  pub entries : List Entry
  pub done : List Step
  pub ss : List Step
  pub D : Clause
  pub way : Way m.clauses run.order m.variables entries p.settings done
  pub held : Held entries p.marks p.frames
  pub branch : Branch m.clauses run.order p.settings (length done) ss (fails f.by D)
  pub holds : Holds f.clause D
  pub logged : Logged run rec p.made (done ++ ss)

-- the record is full, and the search has made a further step
pub record Halted (run : Run) (m : Machine) (rec : RecordMeaning) : Type 0 where
  pub entries : List Entry
  pub σ : Setting
  pub done : List Step
  pub ss : List Step
  pub s : Step
  pub out : Outcome
  pub way : Way m.clauses run.order m.variables entries σ done
  pub branch : Branch m.clauses run.order σ (length done) (ss ++ (s ∷ [])) out
  pub noted_is : rec ≡ noted run.before (done ++ ss)
  pub room_is : run.before.room ≡ Some (length (done ++ ss))

-- the whole search was made, and ended so
pub record Ended (run : Run) (m : Machine) (rec : RecordMeaning) (out : Outcome) : Type 0 where
  pub ss : List Step
  pub branch : Branch m.clauses run.order (unset m.variables) 0 ss out
  pub noted_is : rec ≡ noted run.before ss
  pub all : takes_all run.before.room ss ≡ true

-- what the trail may still ask for: a choice that is on at depth d stands for the search of its other side
abbrev pub is_on : Why → Bool
is_on (Forcing k) = false
is_on On = true
is_on Off = false

abbrev pub heavy : ℕ → ℕ → List Mark → ℕ
heavy n d [] = 0
heavy n d (m ∷ ms) = cond (is_on m.why) (3 ^ (n - suc d)) 0 + heavy n (suc d) ms

abbrev pub weight : ℕ → List Mark → ℕ
weight n ms = 3 ^ (n - length ms) + heavy n 0 ms

-- a failing clause goes past the literal t, which the clause of the frame s made true: as it is if it lacks the opposite of t, else by a step
abbrev pub Passes : ℤ → Frame → ℕ → RecordMeaning → Frame → ℕ → RecordMeaning → Type 0
Passes t f count rec f' count' rec' = (member f.clause (opposite t) ≡ false) × (f' ≡ f) × (count' ≡ count) × (rec' ≡ rec)

pub record Joins (t : ℤ) (s f : Frame) (count : ℕ) (rec : RecordMeaning) (f' : Frame) (count' : ℕ) (rec' : RecordMeaning) : Type 0 where
  pub speaks : member f.clause (opposite t) ≡ true
  pub puts : Puts rec (made t s.by f.by) rec' (Ok tt)
  pub count_is : count' ≡ min (count + 1) 4294967295
  pub by_is : f'.by ≡ S count'
  pub clause_is : (u : ℤ) → member f'.clause u ≡ left_over s.clause f.clause t u

abbrev pub Past : ℤ → Frame → Frame → ℕ → RecordMeaning → Frame → ℕ → RecordMeaning → Result (Unit {0}) Decline → Type 0
Past t s f count rec f' count' rec' (Ok _) = Passes t f count rec f' count' rec' ⊎ Joins t s f count rec f' count' rec'
Past t s f count rec f' count' rec' (Err d) = (member f.clause (opposite t) ≡ true) × Puts rec (made t s.by f.by) rec' (Err d)

-- a failing clause comes back to a choice that is on: it is passed up if it lacks the choice's off literal, else the off side is next
abbrev pub AtChoice : ℤ → Frame → Position → Position → Turn → Type 0
AtChoice t f p p' Failing = (member f.clause (opposite t) ≡ false) × (p' ≡ p)
AtChoice t f p p' Turned = (member f.clause (opposite t) ≡ true) × ((m : Mark) × (code m.literal ≡ opposite t) × (m.why ≡ Off)
    × (p' ≡ record { settings = make_true p.settings (opposite t); marks = p.marks ++ (m ∷ []); frames = p.frames ++ (f ∷ []); made = p.made }))

-- one setting was taken back
abbrev pub Stepped : Run → Machine → Position → RecordMeaning → Position → Frame → Result Turn Decline → Type 0
Stepped run m p rec' p' f' (Ok Failing) = Stuck run m rec' p' f' × (length p'.marks < length p.marks) × (heavy m.variables 0 p'.marks ≤ heavy m.variables 0 p.marks)
Stepped run m p rec' p' f' (Ok Turned) = Going run m rec' p' × (weight m.variables p'.marks ≤ heavy m.variables 0 p.marks)
Stepped run m p rec' p' f' (Err d) = Halted run m rec' × (d ≡ RecordFull)

-- the search was taken back to a choice, or to the root
abbrev pub Unwound : Run → Machine → Position → RecordMeaning → Position → Frame → Result Turn Decline → Type 0
Unwound run m p rec' p' f' (Ok Failing) = Stuck run m rec' p' f' × (length p'.marks ≡ 0)
Unwound run m p rec' p' f' (Ok Turned) = Going run m rec' p' × (weight m.variables p'.marks ≤ heavy m.variables 0 p.marks)
Unwound run m p rec' p' f' (Err d) = Halted run m rec' × (d ≡ RecordFull)

-- the search has ended with this answer
abbrev pub Answered : Run → Machine → RecordMeaning → Position → Answer → Type 0
Answered run m rec' p' Fits = Ended run m rec' (fits p'.settings) × (length p'.settings ≡ m.variables)
Answered run m rec' p' (Cannot r) = (D : Clause) × Ended run m rec' (fails r D)

-- one turn of the search
abbrev pub Advanced : Run → Machine → Position → RecordMeaning → Position → Result (Option Answer) Decline → Type 0
Advanced run m p rec' p' (Ok None) = Going run m rec' p' × (weight m.variables p'.marks < weight m.variables p.marks)
Advanced run m p rec' p' (Ok (Some a)) = Answered run m rec' p' a
Advanced run m p rec' p' (Err d) = Halted run m rec' × (d ≡ RecordFull)

-- the whole search was run
abbrev pub Ran : Run → Machine → RecordMeaning → Position → Result Answer Decline → Type 0
Ran run m rec' p' (Ok a) = Answered run m rec' p' a
Ran run m rec' p' (Err d) = Halted run m rec' × (d ≡ RecordFull)

-- the checks of a call: nothing is refused, or this is the first refusal
abbrev pub Refuses : Option Decline → Result (Unit {0}) Decline → Type 0
Refuses refusal (Ok _) = refusal ≡ None
Refuses refusal (Err d) = refusal ≡ Some d
