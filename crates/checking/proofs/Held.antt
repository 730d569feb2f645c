-- Sets that hold clauses, one by one, and what a reference finds among them.
use Rattle.std.proofs.Common.{◌≡◌, ℕ, zero, suc, ◌<◌, ◌≤◌, List, [], ◌∷◌, ◌++◌, length, ℤ, Some, None, Option, Bor, sym, refl, ap, ◌∙◌, arith}
use Rattle.std.specs.List.{slice_get, HoldsAt}
use Rattle.std.specs.Option.{MatchOption, option_copied}
use Rattle.std.proofs.lemmas.Option.{slice_get_past, slice_get-get_or}
use Rattle.model.specs.Clauses.{Clause, ◌∈◌, Within}
use Rattle.model.specs.Machine.{clause_at}
use Rattle.model.proofs.Numbered.{numbered_each}
use Rattle.clauses.specs.declared.LiteralSet.{LiteralSet}
use Rattle.clauses.specs.Sets.{member, Holds, named as in_clause}
use Rattle.clauses.proofs.Members.{holds_named}
use Rattle.station.specs.declared.StationFile.{StationFile}
use Rattle.station.specs.Views.{machine}
use Rattle.station.proofs.Files.{over_file, small_file}
use Rattle.checking.specs.Held.{HoldAll, Found}

pub held_length : (sets : List LiteralSet) (Ds : List Clause) → HoldAll sets Ds → length Ds ≡ length sets
held_length [] [] h = refl
held_length [] (D ∷ Ds) h = absurd h
held_length (s ∷ sets) [] h = absurd h
held_length (s ∷ sets) (D ∷ Ds) h = ap suc (held_length sets Ds h.1)

pub held_more : (sets : List LiteralSet) (Ds : List Clause) (s : LiteralSet) (E : Clause) → HoldAll sets Ds → Holds s E → HoldAll (sets ++ s ∷ []) (Ds ++ E ∷ [])
held_more [] [] s E h k = (k, tt)
held_more [] (D ∷ Ds) s E h k = absurd h
held_more (x ∷ sets) [] s E h k = absurd h
held_more (x ∷ sets) (D ∷ Ds) s E h k = (h.0, held_more sets Ds s E h.1 k)

found_nth : (sets : List LiteralSet) (Ds : List Clause) (i : ℕ) → HoldAll sets Ds → Found (slice_get Ds i) (slice_get sets i)
found_nth [] [] i h = tt
found_nth [] (D ∷ Ds) i h = absurd h
found_nth (s ∷ sets) [] i h = absurd h
found_nth (s ∷ sets) (D ∷ Ds) zero h = h.0
found_nth (s ∷ sets) (D ∷ Ds) (suc i) h = found_nth sets Ds i h.1

-- what `get` finds, copied
pub copied_at : (sets : List LiteralSet) (i : ℕ) (o : Option (Bor LiteralSet)) → MatchOption o (length sets ≤ i)
    (λ x. (i < length sets) × HoldsAt (λ y. x.now ≡ y) sets i) → slice_get sets i ≡ option_copied o
copied_at sets i None h = slice_get_past sets i h
copied_at sets i (Some x) h = slice_get-get_or sets i x.now h.0 ∙ ap Some (sym (h.1 x.now))

-- the step numbered k, from 1
pub found_step : (sets : List LiteralSet) (Ds : List Clause) (k i : ℕ) → HoldAll sets Ds → k ≡ suc i → Found (clause_at Ds k) (slice_get sets i)
found_step sets Ds k i h e = rw e (found_nth sets Ds i h)

-- the set of a clause that stands in a file
pub holds_shown : (f : StationFile) (k : ℕ) (C : Clause) (s : LiteralSet) → clause_at (machine f).clauses k ≡ Some C → ((u : ℤ) → member s u ≡ in_clause C u) → Holds s C
holds_shown f k C s e h =
    let within = numbered_each (λ D. (t : ℤ) → t ∈ D → Within (machine f).variables t) (machine f).clauses k C (over_file f) e in
    let few = small_file f in
    holds_named s C h (λ t i. let w = within t i in (w.0, omega (arith, w.1, few)))
