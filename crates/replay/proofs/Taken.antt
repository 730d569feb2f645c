-- Calls without slips only add clauses, so that the trial around them can be closed and leaves the file as it was.
use Rattle.std.proofs.Common.{◌≡◌, ℕ, List, [], ◌++◌, None, Ok, Err, Result, sym, refl, ◌∙◌, subst, arith}
use Rattle.model.specs.declared.Decline.{Decline}
use Rattle.model.specs.Machine.{Machine, SlipState, blank, open_refusal, opened, Opens, close_refusal, Closes}
use Rattle.model.specs.Settling.{OrderMeaning, RecordMeaning}
use Rattle.model.proofs.Calls.{open_allowed}
use Rattle.model.proofs.Trials.{Longer, same_longer, entry_longer, trial_closes, trial_leaves}
use Rattle.lives.specs.Lives.{World, Event, Run, rests, goes, enters, reads_in, settles}
use Rattle.lives.proofs.Traceless.{longer_more, reads_longer}
use Rattle.station.specs.declared.StationFile.{StationFile}
use Rattle.station.specs.declared.trials.Slip.{Slip}
use Rattle.station.specs.Views.{machine, slip_state}
use Rattle.replay.specs.declared.Call.{Call}
use Rattle.replay.specs.declared.Reply.{Reply}
use Rattle.replay.specs.Replays.{world_of, Makes, entering, reading, opening, closing, settling, no_slip_to_open, no_slip_to_close, no_record, Replays, done, then, Replayed}

module _ {o : OrderMeaning} {memory : List ℕ} {slips : ℕ} (none : slips ≡ 0) where
  -- an event of a call without slips
  make_longer : {c : Call} {r : Reply} {recs recs₁ : List RecordMeaning} {sheet sheet₁ : List ℕ} {es fs : List Event} {w z : World}
      → Makes o memory slips c r recs sheet es recs₁ sheet₁ → Run w (es ++ fs) z → (y : World) × Longer w.file y.file × Run y fs z
  make_longer entering (goes (enters {ts = ts} p) q) = (_, entry_longer _ _ ts _ p, q)
  make_longer reading (goes (reads_in {text = text} p) q) = (_, reads_longer _ text _ _ p, q)
  make_longer (opening h) q = absurd (omega arith)
  make_longer (closing h) q = absurd (omega arith)
  make_longer (settling e) (goes (settles l k p) q) = (_, same_longer _ _ refl, q)
  make_longer (no_slip_to_open h) q = (_, same_longer _ _ refl, q)
  make_longer (no_slip_to_close h) q = (_, same_longer _ _ refl, q)
  make_longer (no_record h) q = (_, same_longer _ _ refl, q)

  calls_longer : {cs : List Call} {rs : List Reply} {recs recs₁ : List RecordMeaning} {sheet sheet₁ : List ℕ} {es : List Event} {w z : World}
      → Replays o memory slips cs rs recs sheet es recs₁ sheet₁ → Run w es z → Longer w.file z.file
  calls_longer done rests = same_longer _ _ refl
  calls_longer (then x p) q = let y = make_longer x q in longer_more _ y.0.file _ y.1 (calls_longer p y.2)

-- a trial opened with a blank slip, clauses added in it, and its close
pub record Back (m m₁ m₃ : Machine) (s₂ : SlipState) : Type 0 where
  pub allowed : open_refusal m blank ≡ None
  pub inside : m₁ ≡ opened m
  pub same : m₃ ≡ m
  pub is_blank : s₂ ≡ blank

taken_back : (m m₁ m₂ m₃ : Machine) (s₀ s₁ s₂ : SlipState) (u : Unit {0}) (b : Result (Unit {0}) Decline) → s₀ ≡ blank → Opens m s₀ m₁ s₁ (Ok u) → Longer m₁ m₂ → Closes m₂ s₁ m₃ s₂ b → Back m m₁ m₃ s₂
taken_back m m₁ m₂ m₃ s₀ s₁ s₂ u b e o l c = by b c
  where
    free : open_refusal m blank ≡ None
    free = subst (λ (s : SlipState). open_refusal m s ≡ None) e o.0.0

    longer : Longer (opened m) m₂
    longer = subst (λ (n : Machine). Longer n m₂) o.0.2 l

    closes_now : close_refusal m₂ s₁ ≡ None
    closes_now = subst (λ (s : SlipState). close_refusal m₂ s ≡ None) (sym o.1.2) (trial_closes m m₂ longer (open_allowed m blank free).some)

    by : (b : Result (Unit {0}) Decline) → Closes m₂ s₁ m₃ s₂ b → Back m m₁ m₃ s₂
    by (Ok v) c = record { allowed = free; inside = o.0.2; same = c.0.2 ∙ trial_leaves m m₂ longer; is_blank = c.1.2 }
    by (Err d) c = absurd (let h = sym c.0.0 ∙ closes_now in cc)

-- the same of a file and a slip, where the calls were replayed without slips
pub rehearsed_back : (o : OrderMeaning) (memory : List ℕ) (cs : List Call) (rs : List Reply) (f₀ f₁ f₂ f₃ : StationFile) (p₀ p₁ p₂ : Slip) (xs' : List Slip) (recs recs' : List RecordMeaning) (sheet sheet' : List ℕ)
    (u : Unit {0}) (b : Result (Unit {0}) Decline) → slip_state p₀ ≡ blank → Opens (machine f₀) (slip_state p₀) (machine f₁) (slip_state p₁) (Ok u)
    → Replayed o memory cs rs (machine f₁) [] recs sheet (machine f₂) xs' recs' sheet' → Closes (machine f₂) (slip_state p₁) (machine f₃) (slip_state p₂) b
    → Back (machine f₀) (machine f₁) (machine f₃) (slip_state p₂)
unfolding world_of
rehearsed_back o memory cs rs f₀ f₁ f₂ f₃ p₀ p₁ p₂ xs' recs recs' sheet sheet' u b e op re cl =
    taken_back (machine f₀) (machine f₁) (machine f₂) (machine f₃) (slip_state p₀) (slip_state p₁) (slip_state p₂) u b e op (calls_longer refl re.1 re.2) cl
