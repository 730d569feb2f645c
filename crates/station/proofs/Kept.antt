-- What cutting a file back leaves.
use Rattle.std.proofs.Common.{◌≡◌, ℕ, ◌<◌, ◌≤◌, take, sym, ap, ◌∙◌, arith}
use Rattle.std.proofs.lemmas.List.{length-take-le, take-take, take_all}
use Rattle.model.specs.Machine.{names}
use Rattle.model.proofs.Merging.{every_first}
use Rattle.station.specs.declared.StationFile.{StationFile}
use Rattle.station.specs.Cuts.{parts, last_of, start_of}
use Rattle.station.specs.Tables.{Sound}
use Rattle.station.specs.Views.{standing, machine_in, machine, cut_to}
use Rattle.station.proofs.Cuts.{parts_take, rises_take, last_take, start_low}
use Rattle.station.proofs.Files.{ends_of, count_is}

-- the first clauses only
module _ (f : StationFile) (kept : ℕ) (low : kept < f.counts.clauses) where
  fewer : take kept f.tables.ends ≡ take kept (ends_of f)
  fewer = sym (take-take kept f.counts.clauses f.tables.ends (omega arith))

  pub start_fits : start_of 0 (ends_of f) kept ≤ f.counts.literals
  start_fits = omega (arith, start_low kept 0 (ends_of f) f.sound.rising, f.sound.last)

  pub cut_sound : (literals : ℕ) → literals ≡ start_of 0 (ends_of f) kept → Sound f.variables f.tables (record { clauses = kept; literals = literals })
  cut_sound literals e =
      let l = length-take-le f.counts.clauses f.tables.ends (omega (arith, f.sound.tall, f.sound.clauses)) in
      let b : literals ≤ f.counts.literals = omega (arith, start_fits) in
      record {
        wide = f.sound.wide;
        tall = f.sound.tall;
        clauses = omega (arith, f.sound.clauses);
        literals = omega (arith, f.sound.literals);
        rising = rw fewer (rises_take kept 0 (ends_of f) f.sound.rising);
        last = ap (last_of 0) fewer ∙ (last_take kept 0 (ends_of f) (omega (arith, l)) ∙ sym e);
        named = rw (sym (take-take literals f.counts.literals f.tables.lits b)) (every_first (names f.variables) literals (take f.counts.literals f.tables.lits) f.sound.named);
      }

  pub cut_machine : (literals : ℕ) → machine_in f.variables f.number f.tables (record { clauses = kept; literals = literals }) f.marks.items ≡ cut_to kept (machine f)
  unfolding machine machine_in
  cut_machine literals =
      let e : parts f.tables.lits 0 (take kept f.tables.ends) ≡ take kept (standing f.tables f.counts) = ap (parts f.tables.lits 0) fewer ∙ sym (parts_take kept f.tables.lits 0 (ends_of f)) in
      rw e

-- no fewer clauses
pub cut_past : (f : StationFile) (kept : ℕ) → f.counts.clauses ≤ kept → cut_to kept (machine f) ≡ machine f
unfolding machine machine_in
cut_past f kept l = rw (take_all kept (standing f.tables f.counts) (omega (arith, count_is f, l)))
