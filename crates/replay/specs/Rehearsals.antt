-- What a rehearsal replies and leaves: the calls are made in a trial of their own, which is closed again.
use Rattle.std.specs.Prelude.{◌≡◌, ℕ, List, [], Some, None, Ok, Err, Option, Result, codes}
use Rattle.model.specs.Machine.{Machine, blank, open_refusal, opened}
use Rattle.model.specs.Settling.{OrderMeaning, RecordMeaning}
use Rattle.station.specs.declared.trials.Slip.{Slip}
use Rattle.replay.specs.declared.Call.{Call}
use Rattle.replay.specs.declared.Reply.{Reply}
use Rattle.replay.specs.declared.NotRehearsed.{NotRehearsed}
use Rattle.replay.specs.declared.NotRehearsed.TheVariants.{Declined, Memory}
use Rattle.replay.specs.Replays.{Replayed}

-- a trial can be opened, the calls are replayed in it without slips, and the file is left as it was; else nothing changes
abbrev pub Rehearsed : {V : Type 0} → (V → List Reply) → OrderMeaning → List ℕ → List Call → Result V NotRehearsed → Machine → List RecordMeaning → List ℕ → Machine → List RecordMeaning → List ℕ → Type 0
Rehearsed items o memory cs (Ok rs) m recs sheet m' recs' sheet' =
    (open_refusal m blank ≡ None) × (m' ≡ m) × ((n : Machine) × (xs : List Slip) × Replayed o memory cs (items rs) (opened m) [] recs sheet n xs recs' sheet')
Rehearsed items o memory cs (Err (Declined d)) m recs sheet m' recs' sheet' = (open_refusal m blank ≡ Some d) × (m' ≡ m) × (recs' ≡ recs) × (sheet' ≡ sheet)
Rehearsed items o memory cs (Err (Memory e)) m recs sheet m' recs' sheet' = (open_refusal m blank ≡ None) × (m' ≡ m) × (recs' ≡ recs) × (sheet' ≡ sheet)

-- what `{}` prints of such an error; the words on want of memory are std's own
abbrev pub shown : NotRehearsed → Option (List ℕ)
shown (Declined _) = Some (codes "the trial was declined")
shown (Memory _) = None
