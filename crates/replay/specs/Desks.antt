-- What is lent to the calls of a life: its sizes, what the calls keep of it, and what they do with it.
use Rattle.std.specs.Prelude.{◌≡◌, ℕ, List, [], ◌∷◌, length, map, Result}
use Rattle.model.specs.Machine.{Machine}
use Rattle.model.specs.Settling.{OrderMeaning, RecordMeaning}
use Rattle.station.specs.declared.trials.Slip.{Slip}
use Rattle.replay.specs.declared.Call.{Call}
use Rattle.replay.specs.declared.Desk.{Desk}
use Rattle.replay.specs.declared.NotRehearsed.{NotRehearsed}
use Rattle.replay.specs.declared.Reply.{Reply}
use Rattle.replay.specs.Rehearsals.{Rehearsed}
use Rattle.replay.specs.Replays.{Made, Replied}

-- how many places the memory of the two stacks has
abbrev pub stacks : {O R : Type 0} → Desk O R → List ℕ
stacks d = length d.trail.now ∷ length d.frames.now ∷ []

-- the same order, and as many places of the same memory
pub record Kept {O R : Type 0} (a b : Desk O R) : Type 0 where
  pub order : b.order ≡ a.order
  pub records : b.records.ghost_name ≡ a.records.ghost_name
  pub sheet : b.sheet.ghost_name ≡ a.sheet.ghost_name
  pub trail : b.trail.ghost_name ≡ a.trail.ghost_name
  pub frames : b.frames.ghost_name ≡ a.frames.ghost_name
  pub many_records : length b.records.now ≡ length a.records.now
  pub wide : length b.sheet.now ≡ length a.sheet.now
  pub room : stacks b ≡ stacks a

-- `Made`, `Replied` and `Rehearsed` of a desk before and after, where its order and its records have these meanings
module _ {O R : Type 0} (order : O → OrderMeaning) (meaning : R → RecordMeaning) (a b : Desk O R) where
  abbrev pub MadeAt : Call → Reply → Machine → List Slip → Machine → List Slip → Type 0
  MadeAt c r m xs m' xs' =
      Made (order a.order.now) (stacks a) c r m xs (map meaning a.records.now) a.sheet.now m' xs' (map meaning b.records.now) b.sheet.now

  abbrev pub RepliedAt : {V E : Type 0} → (V → List Reply) → List Call → Result V E → Machine → List Slip → Machine → List Slip → Type 0
  RepliedAt items cs r m xs m' xs' =
      Replied items (order a.order.now) (stacks a) cs r m xs (map meaning a.records.now) a.sheet.now m' xs' (map meaning b.records.now) b.sheet.now

  abbrev pub RehearsedAt : {V : Type 0} → (V → List Reply) → List Call → Result V NotRehearsed → Machine → Machine → Type 0
  RehearsedAt items cs r m m' =
      Rehearsed items (order a.order.now) (stacks a) cs r m (map meaning a.records.now) a.sheet.now m' (map meaning b.records.now) b.sheet.now
