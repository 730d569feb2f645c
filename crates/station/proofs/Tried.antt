-- A clause entered in a trial of its own: the trial closes, and the file is as it was.
use Rattle.std.proofs.Common.{◌≡◌, ℕ, List, ℤ, Some, None, Ok, Err, Option, Result, sym, refl, ap, ◌∙◌, subst, arith}
use Rattle.std.specs.Result.{result_and}
use Rattle.model.specs.declared.Decline.{Decline}
use Rattle.model.specs.Machine.{Machine, SlipState, blank, Enters, Opens, Closes, opened, close_refusal, open_refusal, enter_refusal}
use Rattle.model.proofs.Calls.{open_allowed}
use Rattle.model.proofs.Trials.{Longer, entry_longer, trial_closes, trial_leaves}
use Rattle.station.specs.Clients.{Tries, try_refusal}

none_some : {x : Option Decline} {d : Decline} → x ≡ None → x ≡ Some d → ⊥
none_some a b = let z : ◌≡◌ {A = ℕ} 0 1 = cc in omega arith

-- m where the trial is opened, m₁ where it is open, m₂ where clauses may have been added, m₃ where it is closed
module _ (m m₁ m₂ m₃ : Machine) (s s₁ s₃ : SlipState) (q : Result (Unit {0}) Decline) (o : Opens m s m₁ s₁ (Ok tt)) (l : Longer m₁ m₂) (c : Closes m₂ s₁ m₃ s₃ q) where
  longer : Longer (opened m) m₂
  longer = subst (λ (x : Machine). Longer x m₂) o.0.2 l

  closes_then : close_refusal m₂ s₁ ≡ None
  closes_then = ap (close_refusal m₂) o.1.2 ∙ trial_closes m m₂ longer (open_allowed m s o.0.0).some

  pub taken_back : (q ≡ Ok tt) × (s₃ ≡ blank) × (m₃ ≡ m)
  taken_back = look q c
    where
      look : (q : Result (Unit {0}) Decline) → Closes m₂ s₁ m₃ s₃ q → (q ≡ Ok tt) × (s₃ ≡ blank) × (m₃ ≡ m)
      look (Ok u) w = (refl, w.1.2, w.0.2 ∙ trial_leaves m m₂ longer)
      look (Err d) w = absurd (none_some closes_then w.1.0)

-- a clause entered in the trial
module _ (m m₁ m₂ m₃ : Machine) (s s₁ s₃ : SlipState) (ts : List ℤ) (r : Result ℕ Decline) (q : Result (Unit {0}) Decline) (b : s ≡ blank) (o : Opens m s m₁ s₁ (Ok tt)) (e : Enters m₁ ts m₂ r) (c : Closes m₂ s₁ m₃ s₃ q) where
  back : (q ≡ Ok tt) × (s₃ ≡ blank) × (m₃ ≡ m)
  back = taken_back m m₁ m₂ m₃ s s₁ s₃ q o (entry_longer m₁ m₂ ts r e) c

  pub tried : Tries m ts m₃ (result_and q r)
  tried = rw back.0 (look r (subst (λ (x : Machine). Enters x ts m₂ r) o.0.2 e))
    where
      allowed : open_refusal m blank ≡ None
      allowed = ap (open_refusal m) (sym b) ∙ o.0.0

      look : (r : Result ℕ Decline) → Enters (opened m) ts m₂ r → Tries m ts m₃ r
      look (Ok k) v = (ap (λ (x : Option Decline). try_refusal x (enter_refusal m ts)) allowed ∙ v.0, v.1, back.2)
      look (Err d) v = (ap (λ (x : Option Decline). try_refusal x (enter_refusal m ts)) allowed ∙ v.0, back.2)
