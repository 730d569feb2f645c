-- What stood stays: clauses appended behind others leave those as they were, also when the counts are put back.
use Rattle.std.proofs.Common.{◌≡◌, ℕ, List, take, refl, ap, ◌∙◌, arith}
use Rattle.model.specs.Machine.{every, names}
use Rattle.station.specs.declared.Counts.{Counts}
use Rattle.station.specs.declared.Tables.{Tables}
use Rattle.station.specs.Cuts.{parts, last_of, rises}
use Rattle.station.specs.Tables.{Sound}
use Rattle.station.specs.Views.{machine_in}
use Rattle.station.specs.Hands.{Fronts}
use Rattle.station.proofs.Cuts.{parts_same, front_same}

pub fronts_none : (k : Counts) (t : Tables) → Fronts k t t k
fronts_none k t = record { lits = refl; ends = refl; low = omega arith; count = omega arith }

pub fronts_more : (k k₁ k₂ : Counts) (t t₁ t₂ : Tables) → Fronts k t t₁ k₁ → Fronts k₁ t₁ t₂ k₂ → Fronts k t t₂ k₂
fronts_more k k₁ k₂ t t₁ t₂ f g = record {
  lits = front_same k.literals k₁.literals t₂.lits t₁.lits f.low g.lits ∙ f.lits;
  ends = front_same k.clauses k₁.clauses t₂.ends t₁.ends f.count g.ends ∙ f.ends;
  low = omega (arith, f.low, g.low);
  count = omega (arith, f.count, g.count);
}

-- the counts put back
module _ (n : ℕ) (t t' : Tables) (k k' : Counts) (s : Sound n t k) (s' : Sound n t' k') (f : Fronts k t t' k') where
  pub left_sound : Sound n t' k
  left_sound = record {
    wide = s'.wide;
    tall = s'.tall;
    clauses = s.clauses;
    literals = s.literals;
    rising = ap (rises 0) f.ends ∙ s.rising;
    last = ap (last_of 0) f.ends ∙ s.last;
    named = ap (every (names n)) f.lits ∙ s.named;
  }

  pub left_machine : (number : ℕ) (trials : List ℕ) → machine_in n number t' k trials ≡ machine_in n number t k trials
  unfolding machine_in
  left_machine number trials =
      let same : parts t'.lits 0 (take k.clauses t'.ends) ≡ parts t.lits 0 (take k.clauses t.ends) = ap (parts t'.lits 0) f.ends ∙ parts_same 0 k.literals (take k.clauses t.ends) t'.lits t.lits s.rising (omega (arith, s.last)) f.lits in
      ap (λ F. record { variables = n; number = number; clauses = F; trials = trials }) same
