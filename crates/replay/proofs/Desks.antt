-- A slip or a record among others: what a call at its place leaves, as an event of the file's life.
use Rattle.std.proofs.Common.{◌≡◌, ℕ, zero, suc, ◌+◌, ◌<◌, ◌≤◌, List, [], ◌∷◌, ◌++◌, map, length, get_or, take, set, ℤ, Result, sym, refl, ap, ◌∙◌, subst, cond, ◌==◌, append_assoc, append-nil, arith, Bor}
use mathlib.Core.Path.{fun_ext}
use lib.ListN.{length-map}
use Rattle.std.specs.List.{slice_get}
use Rattle.std.proofs.lemmas.List.{take_more, map-set}
use Rattle.std.proofs.lemmas.Option.{slice_get-get_or, slice_get-map}
use Rattle.std.specs.Option.{option_map}
use Rattle.std.proofs.lemmas.Bool.{ne_eqb}
use Rattle.model.specs.declared.Decline.{Decline}
use Rattle.model.specs.declared.Answer.{Answer}
use Rattle.model.specs.declared.ReadFault.{ReadFault}
use Rattle.model.specs.Machine.{Machine, SlipState, Enters, Opens, Closes}
use Rattle.model.specs.Reading.{Reads}
use Rattle.model.specs.Settling.{OrderMeaning, Lists, RecordMeaning, Keeps, Settles}
use Rattle.lives.specs.Lives.{with_slip, Event, Run, rests, goes, enters, reads_in, opens, closes, settles, open_trial, close_trial, trial_said}
use Rattle.lives.proofs.Traceless.{run_join}
use Rattle.station.specs.declared.trials.Slip.{Slip}
use Rattle.station.specs.Views.{slip_state}
use Rattle.replay.specs.declared.Call.{Call}
use Rattle.replay.specs.declared.Call.TheVariants.{Enter, Read, Settle}
use Rattle.replay.specs.declared.Reply.{Reply}
use Rattle.replay.specs.declared.Reply.TheVariants.{Entered, Taken, Settled, Missing}
use Rattle.replay.specs.declared.Desk.{Desk}
use Rattle.replay.specs.Desks.{Kept}
use Rattle.replay.specs.Replays.{slip_at, world_of, Makes, entering, reading, settling, no_record, Replays, done, then, Made, Replayed}

-- a slip changed at its place is a slip changed under its name
set_at : (xs : List Slip) (i j : ℕ) (y : Slip) → i < length xs → cond (j == i) (slip_state y) (slip_at (slice_get xs j)) ≡ slip_at (slice_get (set xs i y) j)
set_at [] i j y h = absurd (omega arith)
set_at (x ∷ xs) zero zero y h = refl
set_at (x ∷ xs) zero (suc j) y h = rw (ne_eqb (suc j) 0 (omega arith))
set_at (x ∷ xs) (suc i) zero y h = rw (ne_eqb 0 (suc i) (omega arith))
set_at (x ∷ xs) (suc i) (suc j) y h = let e : (suc j == suc i) ≡ (j == i) = grind arith in rw e (set_at xs i j y (omega arith))

module _ (m m' : Machine) (xs : List Slip) (i : ℕ) (d y : Slip) (r : Result (Unit {0}) Decline) (h : i < length xs) where
  changed : record { file = m'; slips = with_slip (world_of m xs).slips i (slip_state y) } ≡ world_of m' (set xs i y)
  unfolding world_of
  changed = ap (λ (f : ℕ → SlipState). record { file = m'; slips = f }) (fun_ext (λ (j : ℕ). set_at xs i j y h))

  slip_is : slip_state (get_or xs i d) ≡ (world_of m xs).slips i
  unfolding world_of
  slip_is = sym (ap slip_at (slice_get-get_or xs i d h))

  pub run_open : Opens m (slip_state (get_or xs i d)) m' (slip_state y) r → Run (world_of m xs) ((open_trial i, trial_said r) ∷ []) (world_of m' (set xs i y))
  unfolding world_of
  run_open o =
      subst (Run (world_of m xs) ((open_trial i, trial_said r) ∷ [])) changed (goes (opens (slip_state y) (subst (λ (s : SlipState). Opens m s m' (slip_state y) r) slip_is o)) rests)

  pub run_close : Closes m (slip_state (get_or xs i d)) m' (slip_state y) r → Run (world_of m xs) ((close_trial i, trial_said r) ∷ []) (world_of m' (set xs i y))
  unfolding world_of
  run_close o =
      subst (Run (world_of m xs) ((close_trial i, trial_said r) ∷ [])) changed (goes (closes (slip_state y) (subst (λ (s : SlipState). Closes m s m' (slip_state y) r) slip_is o)) rests)

-- calls that name no slip

module _ (o : OrderMeaning) (memory : List ℕ) (m m' : Machine) (xs : List Slip) (recs : List RecordMeaning) (sheet : List ℕ) where
  pub made_enter : (ts : Bor (List ℤ)) (r : Result ℕ Decline) → Enters m ts.now m' r → Made o memory (Enter ts) (Entered r) m xs recs sheet m' xs recs sheet
  unfolding world_of
  made_enter ts r e = (_ ∷ [], entering, goes (enters {ts = ts.now} {r = r} {m = m'} e) rests)

  pub made_read : (text : Bor (List ℕ)) (r : Result ℕ ReadFault) → Reads m text.now m' r → Made o memory (Read text) (Taken r) m xs recs sheet m' xs recs sheet
  unfolding world_of
  made_read text r e = (_ ∷ [], reading, goes (reads_in {text = text.now} {r = r} {m = m'} e) rests)

module _ {A : Type 0} (meaning : A → RecordMeaning) (o : OrderMeaning) (memory : List ℕ) (m : Machine) (xs : List Slip) (recs : List A) (i : ℕ) (sheet : List ℕ) where
  pub made_settle : (sheet' : List ℕ) (d y : A) (r : Result Answer Decline) → Lists o → Keeps (meaning (get_or recs i d)) → i < length recs → Settles m o (meaning (get_or recs i d)) sheet memory r (meaning y) sheet'
      → Made o memory (Settle i) (Settled r) m xs (map meaning recs) sheet m xs (map meaning (set recs i y)) sheet'
  unfolding world_of
  made_settle sheet' d y r l k h e = (_ ∷ [], rw map-set (settling (slice_get-map meaning recs i ∙ ap (option_map meaning) (slice_get-get_or recs i d h))), goes (settles l k e) rests)

  pub made_nothing : length recs ≤ i → Made o memory (Settle i) Missing m xs (map meaning recs) sheet m xs (map meaning recs) sheet
  made_nothing h = ([], no_record (let l = length-map recs meaning in omega arith), rests)

-- one call more

module _ {o : OrderMeaning} {memory : List ℕ} {slips : ℕ} where
  replays_more : {cs : List Call} {rs : List Reply} {recs recs₁ recs₂ : List RecordMeaning} {sheet sheet₁ sheet₂ : List ℕ} {es fs : List Event} {c : Call} {r : Reply}
      → Replays o memory slips cs rs recs sheet es recs₁ sheet₁ → Makes o memory slips c r recs₁ sheet₁ fs recs₂ sheet₂
      → Replays o memory slips (cs ++ (c ∷ [])) (rs ++ (r ∷ [])) recs sheet (es ++ fs) recs₂ sheet₂
  replays_more done m = rw append-nil at (then m done)
  replays_more (then x p) m = rw append_assoc (then x (replays_more p m))

pub replayed_more : (o o₁ : OrderMeaning) (memory memory₁ : List ℕ) (cs : List Call) (rs : List Reply) (i : ℕ) (d : Call) (r : Reply) (m m₁ m₂ : Machine) (xs xs₁ xs₂ : List Slip)
    (recs recs₁ recs₂ : List RecordMeaning) (sheet sheet₁ sheet₂ : List ℕ) → o₁ ≡ o → memory₁ ≡ memory → length xs₁ ≡ length xs → i < length cs
    → Replayed o memory (take i cs) rs m xs recs sheet m₁ xs₁ recs₁ sheet₁ → Made o₁ memory₁ (get_or cs i d) r m₁ xs₁ recs₁ sheet₁ m₂ xs₂ recs₂ sheet₂
    → Replayed o memory (take (i + 1) cs) (rs ++ (r ∷ [])) m xs recs sheet m₂ xs₂ recs₂ sheet₂
replayed_more o o₁ memory memory₁ cs rs i d r m m₁ m₂ xs xs₁ xs₂ recs recs₁ recs₂ sheet sheet₁ sheet₂ eo em ex hc p q =
    let made : Makes o memory (length xs) (get_or cs i d) r recs₁ sheet₁ q.0 recs₂ sheet₂ = rw (← eo, ← em, ← ex) q.1 in (
      p.0 ++ q.0,
      rw (take_more cs i d hc) (replays_more p.1 made),
      run_join p.2 q.2,
    )

pub kept_joins : {O R : Type 0} (a b c : Desk O R) → Kept a b → Kept b c → Kept a c
kept_joins a b c p q = record {
  order = q.order ∙ p.order;
  records = q.records ∙ p.records;
  sheet = q.sheet ∙ p.sheet;
  trail = q.trail ∙ p.trail;
  frames = q.frames ∙ p.frames;
  many_records = q.many_records ∙ p.many_records;
  wide = q.wide ∙ p.wide;
  room = q.room ∙ p.room;
}
