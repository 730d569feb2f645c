-- What every station file is: its clauses speak of its variables, and there are few of both.
use Rattle.std.proofs.Common.{◌≡◌, ℕ, suc, ◌-◌, ◌<◌, ◌≤◌, List, length, get_or, take, drop, Some, sym, ap, ◌∙◌, arith}
use Rattle.std.specs.List.{slice_get}
use Rattle.std.proofs.lemmas.List.{length-take-le, get_or-take}
use Rattle.model.specs.Clauses.{Over}
use Rattle.model.specs.Machine.{names, literals}
use Rattle.model.proofs.Merging.{clauses_over}
use Rattle.station.specs.declared.Counts.{Counts}
use Rattle.station.specs.declared.StationFile.{StationFile}
use Rattle.station.specs.declared.Tables.{Tables}
use Rattle.station.specs.Cuts.{start_of}
use Rattle.station.specs.Tables.{Sound}
use Rattle.station.specs.Views.{standing, machine_in, machine}
use Rattle.station.proofs.Cuts.{length_parts, literals_parts, parts_pass, start_is, nth_part, place_bounds}

module _ (n : ℕ) (t : Tables) (k : Counts) (s : Sound n t k) where
  pub sound_over : Over n (standing t k)
  sound_over = clauses_over n _ (parts_pass (names n) 0 k.literals (take k.clauses t.ends) t.lits s.rising (omega (arith, s.last)) s.named)

  pub literals_are : literals (standing t k) ≡ k.literals
  literals_are = omega (arith, literals_parts 0 (take k.clauses t.ends) t.lits s.rising (omega (arith, s.last, s.literals, s.wide)), s.last)

  pub clauses_are : length (standing t k) ≡ k.clauses
  clauses_are = length_parts 0 (take k.clauses t.ends) t.lits ∙ length-take-le k.clauses t.ends (omega (arith, s.tall, s.clauses))

pub over_file : (f : StationFile) → Over (machine f).variables (machine f).clauses
unfolding machine machine_in
over_file f = sound_over f.variables f.tables f.counts f.sound

pub small_file : (f : StationFile) → (machine f).variables ≤ 200
unfolding machine machine_in
small_file f = f.few_variables

pub count_is : (f : StationFile) → length (machine f).clauses ≡ f.counts.clauses
unfolding machine machine_in
count_is f = clauses_are f.variables f.tables f.counts f.sound

pub few_clauses : (f : StationFile) → length (machine f).clauses ≤ 1000
few_clauses f = omega (arith, count_is f, f.sound.clauses)

pub few_literals : (f : StationFile) → literals (machine f).clauses ≤ 8000
unfolding machine machine_in
few_literals f = omega (arith, literals_are f.variables f.tables f.counts f.sound, f.sound.literals)

abbrev pub ends_of : StationFile → List ℕ
ends_of f = take f.counts.clauses f.tables.ends

module _ (f : StationFile) where
  many : length (ends_of f) ≡ f.counts.clauses
  many = length-take-le f.counts.clauses f.tables.ends (omega (arith, f.sound.tall, f.sound.clauses))

  pub start_before : (i : ℕ) → (i ≡ 0 → ⊥) → i ≤ f.counts.clauses → get_or f.tables.ends (i - 1) 0 ≡ start_of 0 (ends_of f) i
  start_before i h l =
      let e : i ≡ suc (i - 1) = omega arith in
      let k : i - 1 < length (ends_of f) = omega (arith, many) in
      let b : i - 1 < f.counts.clauses = omega arith in
      sym (ap (start_of 0 (ends_of f)) e ∙ (start_is 0 (ends_of f) (i - 1) k ∙ get_or-take f.counts.clauses f.tables.ends (i - 1) 0 b))

  module _ (i : ℕ) (low : i < f.counts.clauses) where
    inside : i < length (ends_of f)
    inside = rw many low

    here : get_or (ends_of f) i 0 ≡ get_or f.tables.ends i 0
    here = get_or-take f.counts.clauses f.tables.ends i 0 low

    bounds : (start_of 0 (ends_of f) i ≤ get_or f.tables.ends i 0) × (get_or f.tables.ends i 0 ≤ 8000)
    bounds =
        let b = place_bounds 0 (ends_of f) i inside f.sound.rising in
        (omega (arith, b.0, here), omega (arith, b.1, here, f.sound.last, f.sound.literals))

    pub shown : slice_get (machine f).clauses i ≡ Some (take (get_or f.tables.ends i 0 - start_of 0 (ends_of f) i) (drop (start_of 0 (ends_of f) i) f.tables.lits))
    unfolding machine machine_in
    shown = nth_part 0 (ends_of f) i f.tables.lits inside ∙ ap (λ e. Some (take (e - start_of 0 (ends_of f) i) (drop (start_of 0 (ends_of f) i) f.tables.lits))) here

  -- where the clause numbered k lies
  pub lies : (k from : ℕ) → (k ≡ 0 → ⊥) → k ≤ f.counts.clauses → from ≡ start_of 0 (ends_of f) (k - 1) → (from ≤ get_or f.tables.ends (k - 1) 0) × (get_or f.tables.ends (k - 1) 0 ≤ 8000)
  lies k from h l e =
      let low : k - 1 < f.counts.clauses = omega arith in
      let b = bounds (k - 1) low in
      (omega (arith, b.0), b.1)
