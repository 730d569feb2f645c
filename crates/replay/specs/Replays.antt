-- What replaying a list of calls replies and leaves: each call is an event of the file's life, or is not made where what it names is missing.
use Rattle.std.specs.Prelude.{◌≡◌, ℕ, ◌<◌, ◌≤◌, List, [], ◌∷◌, ◌++◌, length, ℤ, Some, None, Ok, Err, Option, Result, slice_set}
use Rattle.std.specs.Borrow.{Bor}
use Rattle.std.specs.List.{slice_get}
use Rattle.model.specs.declared.Answer.{Answer}
use Rattle.model.specs.declared.Decline.{Decline}
use Rattle.model.specs.declared.ReadFault.{ReadFault}
use Rattle.model.specs.Machine.{Machine, SlipState, blank}
use Rattle.model.specs.Settling.{OrderMeaning, RecordMeaning}
use Rattle.lives.specs.Lives.{World, Event, Run, enter, read, open_trial, close_trial, settle, enter_said, read_said, trial_said, settle_said}
use Rattle.station.specs.declared.trials.Slip.{Slip}
use Rattle.station.specs.Views.{slip_state}
use Rattle.replay.specs.declared.Call.{Call}
use Rattle.replay.specs.declared.Call.TheVariants.{Enter, Read, Open, Close, Settle}
use Rattle.replay.specs.declared.Reply.{Reply}
use Rattle.replay.specs.declared.Reply.TheVariants.{Entered, Taken, Trial, Settled, Missing}

abbrev pub slip_at : Option Slip → SlipState
slip_at None = blank
slip_at (Some s) = slip_state s

-- the world of a file and its slips, each named by its place from 0
unfoldable pub world_of : Machine → List Slip → World
world_of m xs = record { file = m; slips = λ i. slip_at (slice_get xs i) }

-- A call of the list and its reply, where there are so many slips, the records mean this and the sheet holds that: the event that it is, and what the
-- records mean and the sheet holds afterwards. A call that names a slip or a record beyond the last is no event.
pub data Makes (o : OrderMeaning) (memory : List ℕ) (slips : ℕ) : Call → Reply → List RecordMeaning → List ℕ → List Event → List RecordMeaning → List ℕ → Type 0 where
  entering : {ts : Bor (List ℤ)} {r : Result ℕ Decline} {recs : List RecordMeaning} {sheet : List ℕ}
      → Makes o memory slips (Enter ts) (Entered r) recs sheet ((enter ts.now, enter_said r) ∷ []) recs sheet
  reading : {text : Bor (List ℕ)} {r : Result ℕ ReadFault} {recs : List RecordMeaning} {sheet : List ℕ}
      → Makes o memory slips (Read text) (Taken r) recs sheet ((read text.now, read_said r) ∷ []) recs sheet
  opening : {i : ℕ} {r : Result (Unit {0}) Decline} {recs : List RecordMeaning} {sheet : List ℕ} → i < slips
      → Makes o memory slips (Open i) (Trial r) recs sheet ((open_trial i, trial_said r) ∷ []) recs sheet
  closing : {i : ℕ} {r : Result (Unit {0}) Decline} {recs : List RecordMeaning} {sheet : List ℕ} → i < slips
      → Makes o memory slips (Close i) (Trial r) recs sheet ((close_trial i, trial_said r) ∷ []) recs sheet
  settling : {i : ℕ} {r : Result Answer Decline} {rec rec' : RecordMeaning} {recs : List RecordMeaning} {sheet sheet' : List ℕ} → slice_get recs i ≡ Some rec
      → Makes o memory slips (Settle i) (Settled r) recs sheet ((settle o rec sheet memory, settle_said r rec' sheet') ∷ []) (slice_set recs i rec') sheet'
  no_slip_to_open : {i : ℕ} {recs : List RecordMeaning} {sheet : List ℕ} → slips ≤ i → Makes o memory slips (Open i) Missing recs sheet [] recs sheet
  no_slip_to_close : {i : ℕ} {recs : List RecordMeaning} {sheet : List ℕ} → slips ≤ i → Makes o memory slips (Close i) Missing recs sheet [] recs sheet
  no_record : {i : ℕ} {recs : List RecordMeaning} {sheet : List ℕ} → length recs ≤ i → Makes o memory slips (Settle i) Missing recs sheet [] recs sheet

-- the calls in turn, each with its reply
pub data Replays (o : OrderMeaning) (memory : List ℕ) (slips : ℕ) : List Call → List Reply → List RecordMeaning → List ℕ → List Event → List RecordMeaning → List ℕ → Type 0 where
  done : {recs : List RecordMeaning} {sheet : List ℕ} → Replays o memory slips [] [] recs sheet [] recs sheet
  then : {c : Call} {r : Reply} {cs : List Call} {rs : List Reply} {recs recs₁ recs₂ : List RecordMeaning} {sheet sheet₁ sheet₂ : List ℕ} {es fs : List Event}
      → Makes o memory slips c r recs sheet es recs₁ sheet₁ → Replays o memory slips cs rs recs₁ sheet₁ fs recs₂ sheet₂
      → Replays o memory slips (c ∷ cs) (r ∷ rs) recs sheet (es ++ fs) recs₂ sheet₂

-- one call: it is the event that it should be, and a run of the file's life
abbrev pub Made : OrderMeaning → List ℕ → Call → Reply → Machine → List Slip → List RecordMeaning → List ℕ → Machine → List Slip → List RecordMeaning → List ℕ → Type 0
Made o memory c r m xs recs sheet m' xs' recs' sheet' =
    (es : List Event) × Makes o memory (length xs) c r recs sheet es recs' sheet' × Run (world_of m xs) es (world_of m' xs')

-- all calls: their events are a run of the file's life, from the file and the slips as they were to what they are now
abbrev pub Replayed : OrderMeaning → List ℕ → List Call → List Reply → Machine → List Slip → List RecordMeaning → List ℕ → Machine → List Slip → List RecordMeaning → List ℕ → Type 0
Replayed o memory cs rs m xs recs sheet m' xs' recs' sheet' =
    (es : List Event) × Replays o memory (length xs) cs rs recs sheet es recs' sheet' × Run (world_of m xs) es (world_of m' xs')

-- the reply to each call; or want of memory, and nothing changed
abbrev pub Replied : {V E : Type 0} → (V → List Reply) → OrderMeaning → List ℕ → List Call → Result V E → Machine → List Slip → List RecordMeaning → List ℕ → Machine → List Slip → List RecordMeaning → List ℕ → Type 0
Replied items o memory cs (Ok rs) m xs recs sheet m' xs' recs' sheet' = Replayed o memory cs (items rs) m xs recs sheet m' xs' recs' sheet'
Replied items o memory cs (Err e) m xs recs sheet m' xs' recs' sheet' = (m' ≡ m) × (xs' ≡ xs) × (recs' ≡ recs) × (sheet' ≡ sheet)
