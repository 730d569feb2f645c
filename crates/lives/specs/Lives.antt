-- The life of a station file: any calls in any mixture after an accepted start, and what can be relied on throughout.
use Rattle.std.specs.Prelude.{◌≡◌, ℕ, ◌-◌, ◌^◌, ◌<◌, ◌≤◌, true, cond, ◌≢◌, List, [], ◌∷◌, ◌++◌, length, take, drop, ℤ, Ok, Err, Result, ◌==◌}
use Rattle.model.specs.declared.Reference.{Reference}
use Rattle.model.specs.declared.Step.{Step}
use Rattle.model.specs.declared.Answer.{Answer}
use Rattle.model.specs.declared.Answer.TheVariants.{Fits, Cannot}
use Rattle.model.specs.declared.Decline.{Decline}
use Rattle.model.specs.declared.Decline.TheVariants.{RecordFull}
use Rattle.model.specs.declared.ReadFault.{ReadFault}
use Rattle.model.specs.Clauses.{Valuation, Model, Each}
use Rattle.model.specs.Arguments.{reads, Argument}
use Rattle.model.specs.Machine.{Machine, fresh, SlipState, filled, Enters, Opens, Closes}
use Rattle.model.specs.Reading.{accepted, reading, Reads}
use Rattle.model.specs.Settling.{OrderMeaning, Lists, RecordMeaning, Keeps, Settles}
use Rattle.model.specs.Checking.{Checks}
use Rattle.model.specs.Writing.{text_of}
use Rattle.texts.specs.Laws.{copy}

-- a file and the slips about it, each slip by a name
pub record World : Type 0 where
  pub file : Machine
  pub slips : ℕ → SlipState

abbrev pub with_slip : (ℕ → SlipState) → ℕ → SlipState → ℕ → SlipState
with_slip slips s x i = cond (i == s) x (slips i)

-- a call, with what is handed in: to settle an order, a record, the sheet, and how many places each stack has
pub data Call : Type 0 where
  enter : List ℤ → Call
  read : List ℕ → Call
  open_trial : ℕ → Call
  close_trial : ℕ → Call
  settle : OrderMeaning → RecordMeaning → List ℕ → List ℕ → Call

-- a reply, with all that is given back: of settle the record and the sheet as they then are
pub data Reply : Type 0 where
  enter_said : Result ℕ Decline → Reply
  read_said : Result ℕ ReadFault → Reply
  trial_said : Result (Unit {0}) Decline → Reply
  settle_said : Result Answer Decline → RecordMeaning → List ℕ → Reply

-- at a world, a call has a reply and leads to a world: each case is the definition that the call's own contract cites
pub data Happens (w : World) : Call → Reply → World → Type 0 where
  enters : {ts : List ℤ} {r : Result ℕ Decline} {m : Machine} → Enters w.file ts m r
      → Happens w (enter ts) (enter_said r) (record { file = m; slips = w.slips })
  reads_in : {text : List ℕ} {r : Result ℕ ReadFault} {m : Machine} → Reads w.file text m r
      → Happens w (read text) (read_said r) (record { file = m; slips = w.slips })
  opens : {s : ℕ} (x : SlipState) {r : Result (Unit {0}) Decline} {m : Machine} → Opens w.file (w.slips s) m x r
      → Happens w (open_trial s) (trial_said r) (record { file = m; slips = with_slip w.slips s x })
  closes : {s : ℕ} (x : SlipState) {r : Result (Unit {0}) Decline} {m : Machine} → Closes w.file (w.slips s) m x r
      → Happens w (close_trial s) (trial_said r) (record { file = m; slips = with_slip w.slips s x })
  settles : {o : OrderMeaning} {rec rec' : RecordMeaning} {sheet sheet' memory : List ℕ} {r : Result Answer Decline} → Lists o → Keeps rec
      → Settles w.file o rec sheet memory r rec' sheet' → Happens w (settle o rec sheet memory) (settle_said r rec' sheet') w

-- m' stands at some moment of a life that began with m, whatever the slips were at each call
pub data Reached (m : Machine) : Machine → Type 0 where
  began : Reached m m
  went_on : {w z : World} {c : Call} {r : Reply} → Reached m w.file → Happens w c r z → Reached m z.file

-- what an order and a record must show
abbrev pub Handed : Call → Type 0
Handed (enter ts) = Unit {0}
Handed (read text) = Unit {0}
Handed (open_trial s) = Unit {0}
Handed (close_trial s) = Unit {0}
Handed (settle o rec sheet memory) = Lists o × Keeps rec

abbrev pub Declined : Reply → Type 0
Declined (enter_said (Ok k)) = ⊥
Declined (enter_said (Err d)) = Unit {0}
Declined (read_said (Ok k)) = ⊥
Declined (read_said (Err f)) = Unit {0}
Declined (trial_said (Ok u)) = ⊥
Declined (trial_said (Err d)) = Unit {0}
Declined (settle_said (Ok a) rec sheet) = ⊥
Declined (settle_said (Err d) rec sheet) = Unit {0}

-- (a) each call has one reply, and leads to one world; what is declined leaves file and slips, and record but for 25; only "fits" writes the sheet, in
-- its first n bytes, which are a model; "cannot" is said only where there is none
pub record Right (w : World) : Type 0 where
  pub some_reply : (c : Call) → Handed c → (r : Reply) × (z : World) × Happens w c r z
  pub one_reply : (c : Call) (r q : Reply) (y z : World) → Happens w c r y → Happens w c q z → (r ≡ q) × (y ≡ z)
  pub declined : (c : Call) (r : Reply) (z : World) → Happens w c r z → Declined r → z ≡ w
  pub record_stays : (o : OrderMeaning) (rec rec' : RecordMeaning) (sheet sheet' memory : List ℕ) (d : Decline) (z : World)
      → Happens w (settle o rec sheet memory) (settle_said (Err d) rec' sheet') z → d ≢ RecordFull → rec' ≡ rec
  pub sheet_stays : (o : OrderMeaning) (rec rec' : RecordMeaning) (sheet sheet' memory : List ℕ) (r : Result Answer Decline) (z : World)
      → Happens w (settle o rec sheet memory) (settle_said r rec' sheet') z → r ≢ Ok Fits → sheet' ≡ sheet
  pub obeys : (o : OrderMeaning) (rec rec' : RecordMeaning) (sheet sheet' memory : List ℕ) (z : World)
      → Happens w (settle o rec sheet memory) (settle_said (Ok Fits) rec' sheet') z
      → Model (reads (take w.file.variables sheet')) w.file.clauses × Each (λ b. b ≤ 1) (take w.file.variables sheet')
      × (drop w.file.variables sheet' ≡ drop w.file.variables sheet)
  pub none_obeys : (o : OrderMeaning) (rec rec' : RecordMeaning) (sheet sheet' memory : List ℕ) (ref : Reference) (z : World)
      → Happens w (settle o rec sheet memory) (settle_said (Ok (Cannot ref)) rec' sheet') z → (v : Valuation) → Model v w.file.clauses → ⊥

-- (b) after "cannot" in a record that keeps, checking accepts the steps that it holds, given a place for each, and they are at most 2 ^ n - 1
abbrev pub Argued : World → Type 0
Argued w = (o : OrderMeaning) (rec rec' : RecordMeaning) (sheet sheet' memory : List ℕ) (ref : Reference) (z : World)
    → Happens w (settle o rec sheet memory) (settle_said (Ok (Cannot ref)) rec' sheet') z → rec'.keeps ≡ true
    → ((places : ℕ) → length rec'.steps ≤ places → Checks w.file rec'.steps ref places (Ok tt))
    × (length rec'.steps ≤ 2 ^ w.file.variables - 1)

abbrev pub Event : Type 0
Event = Call × Reply

pub data Run : World → List Event → World → Type 0 where
  rests : {w : World} → Run w [] w
  goes : {w y z : World} {c : Call} {r : Reply} {es : List Event} → Happens w c r y → Run y es z → Run w ((c, r) ∷ es) z

-- from a to d: a trial is opened, stands at every moment between, and is dropped by its close
pub record Trial (a d : World) : Type 0 where
  pub slip_opened : ℕ
  pub slip_closed : ℕ
  pub after_open : World
  pub before_close : World
  pub between : List Event
  pub opens_it : Happens a (open_trial slip_opened) (trial_said (Ok tt)) after_open
  pub goes_on : Run after_open between before_close
  pub stands : (es fs : List Event) (w : World) → between ≡ es ++ fs → Run after_open es w → length a.file.trials < length w.file.trials
  pub closes_it : Happens before_close (close_trial slip_closed) (trial_said (Ok tt)) d
  pub drops_it : length d.file.trials ≡ length a.file.trials

-- the same is handed in; of a sheet, the same length
pub data Like : Call → Call → Type 0 where
  like_all : {c : Call} → Like c c
  like_sheet : {o : OrderMeaning} {rec : RecordMeaning} {sheet sheet' memory : List ℕ} → length sheet ≡ length sheet'
      → Like (settle o rec sheet memory) (settle o rec sheet' memory)

-- the same is replied; of a sheet, the first n bytes at "fits"
pub data Same (n : ℕ) : Reply → Reply → Type 0 where
  same_all : {r : Reply} → Same n r r
  same_sheet : {r : Result Answer Decline} {rec : RecordMeaning} {sheet sheet' : List ℕ} → (r ≡ Ok Fits → take n sheet ≡ take n sheet')
      → Same n (settle_said r rec sheet) (settle_said r rec sheet')

abbrev pub Pairs : {A : Type 0} → (A → A → Type 0) → List A → List A → Type 0
Pairs P [] [] = Unit {0}
Pairs P [] (y ∷ ys) = ⊥
Pairs P (x ∷ xs) [] = ⊥
Pairs P (x ∷ xs) (y ∷ ys) = P x y × Pairs P xs ys

-- (c) a life with a trial that was closed, and a life without it that is handed the same: the same replies, and the same end, slips included; no slip
-- from before the life carries the file's number
abbrev pub NoTrace : Machine → Type 0
NoTrace m = (slips : ℕ → SlipState) (before after others : List Event) (a d y z : World) → ((i depth : ℕ) → slips i ≢ filled m.number depth)
    → Run (record { file = m; slips = slips }) before a → Trial a d → Run d after z
    → Run (record { file = m; slips = slips }) others y → Pairs (λ e f. Like e.0 f.0) others (before ++ after)
    → Pairs (λ e f. Same m.variables e.1 f.1) others (before ++ after) × (y ≡ z)

-- (d) the text of a file that stands reads back, into a fresh file of as many variables under any number, as the same clauses
abbrev pub WrittenBack : Machine → Type 0
WrittenBack m = (f : ℕ) → reading (fresh m.variables f) (text_of m) ≡ accepted (length m.clauses) (copy m f)

-- what holds of every life that begins with m
pub record Lives (m : Machine) : Type 0 where
  pub right : (w : World) → Reached m w.file → Right w
  pub argued : (w : World) → Reached m w.file → Argued w
  pub no_trace : NoTrace m
  pub written_back : (m' : Machine) → Reached m m' → WrittenBack m'

-- an accepted start begins a life, at the machine that it leaves
abbrev pub BeginsLife : Machine → Result (Unit {0}) Decline → Type 0
BeginsLife m (Ok u) = Lives m
BeginsLife m (Err d) = Unit {0}

-- every life that begins with an accepted start
abbrev pub EveryLife : Type 0
EveryLife = (n f : ℕ) → 0 < n → n ≤ 200 → Lives (fresh n f)

-- checking accepts exactly the arguments, where the file was started and the memory has a place for each step
abbrev pub Exact : Type 0
Exact = (m : Machine) (ss : List Step) (closing : Reference) (places : ℕ) → 0 < m.variables → length ss ≤ places
    → (Argument m.clauses ss closing → Checks m ss closing places (Ok tt)) × (Checks m ss closing places (Ok tt) → Argument m.clauses ss closing)
