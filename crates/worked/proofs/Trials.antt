-- A trial that is opened and closed at once.
use Rattle.std.proofs.Common.{◌≡◌, ℕ, ◌<◌, List, [], ◌∷◌, ◌++◌, length, Ok, refl, arith}
use Rattle.model.specs.Machine.{fresh, blank, filled}
use Rattle.lives.specs.Lives.{World, with_slip, Happens, opens, closes, open_trial, close_trial, trial_said, Event, Run, rests}
use Rattle.worked.specs.Trials.{beginning, SomeTrial}

abbrev one_open : World
one_open = record { file = record { variables = 1; number = 7; clauses = []; trials = 0 ∷ [] }; slips = with_slip (λ i. blank) 3 (filled 7 1) }

abbrev closed_again : World
closed_again = record { file = fresh 1 7; slips = with_slip (with_slip (λ i. blank) 3 (filled 7 1)) 3 blank }

opened : Happens beginning (open_trial 3) (trial_said (Ok tt)) one_open
opened = opens (filled 7 1) ((refl, refl, refl), (refl, refl, refl))

closed : Happens one_open (close_trial 3) (trial_said (Ok tt)) closed_again
closed = closes blank ((refl, refl, refl), (refl, refl, refl))

early : (es fs : List Event) (w : World) → [] ≡ es ++ fs → Run one_open es w → 0 < length w.file.trials
early [] fs w e rests = omega arith
early (x ∷ es) fs w e r = let z : ◌≡◌ {A = ℕ} 0 1 = cc in absurd (omega arith)

pub some_trial : SomeTrial
some_trial = (
  closed_again,
  record {
    slip_opened = 3;
    slip_closed = 3;
    after_open = one_open;
    before_close = one_open;
    between = [];
    opens_it = opened;
    goes_on = rests;
    stands = early;
    closes_it = closed;
    drops_it = refl;
  },
)
