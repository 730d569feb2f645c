-- What appending a hand to the tables of a file does, refusal by refusal, and what an entry leaves.
use Rattle.std.proofs.Common.{◌≡◌, ℕ, ◌+◌, ◌-◌, ◌<◌, ◌≤◌, Bool, true, false, cond, not, ltb, List, [], ◌∷◌, ◌++◌, length, take, drop, set, ℤ, Some, Ok, Err, Option, Result, sym, refl, ap, ◌∙◌, arith}
use Rattle.std.proofs.lemmas.List.{take-set, length-set, length-take-le, take_more_set, take-take, take_at, drop_at, drop-take}
use Rattle.std.proofs.lemmas.Bool.{ne_eqb, lt-ltb, le-ltb, ltb-false, le-leb, lt-leb}
use Rattle.std.specs.Borrow.{Bor}
use Rattle.std.specs.Result.{MatchResult, IsErrAnd, result_copied}
use Rattle.arrayvec.specs.ArrayVec.{ArrayVec}
use Rattle.model.specs.declared.Decline.{Decline}
use Rattle.model.specs.declared.Decline.TheVariants.{BadLiteral, WideClause, ClausesFull, LiteralsFull}
use Rattle.model.specs.Clauses.{Clause}
use Rattle.model.specs.Machine.{Machine, every, names, merged, literals, enter_refusal}
use Rattle.model.proofs.Merging.{every_both, every_merged}
use Rattle.model.proofs.Calls.{machine_path, enter_goes}
use Rattle.station.specs.declared.Counts.{Counts}
use Rattle.station.specs.declared.Hand.{Hand}
use Rattle.station.specs.declared.Tables.{Tables}
use Rattle.station.specs.Cuts.{parts, last_of}
use Rattle.station.specs.Tables.{Sound}
use Rattle.station.specs.Views.{standing, machine_in}
use Rattle.station.specs.Hands.{gathered, Holds, Fronts, Added}
use Rattle.station.proofs.Cuts.{parts_same, parts_push, last_push, rises_push}
use Rattle.station.proofs.Files.{clauses_are, literals_are}
use Rattle.station.proofs.Passed.{ok_before}

-- what a clause in hand says of its literals
pub record Fits (n : ℕ) (ts : List ℤ) (C : Clause) : Type 0 where
  pub named : every (names n) ts ≡ true
  pub short : length C ≤ 24
  pub all : merged [] ts ≡ C

module _ (n : ℕ) (ts : List ℤ) where
  -- a decline that the literals decide
  pub declined : (d : Decline) → gathered n ts ≡ Err d → (n ≡ 0 → ⊥) → (t : Tables) (k : Counts) (number : ℕ) (trials : List ℕ) → enter_refusal (machine_in n number t k trials) ts ≡ Some d
  unfolding machine_in
  declined d g some t k number trials = rw (ne_eqb n 0 some) (look (every (names n) ts) (ltb 24 (length (merged [] ts))) _ _ g)
    where
      look : (a b : Bool) (v : ArrayVec ℤ) (rest : Option Decline) → cond a (cond b (Err WideClause) (Ok v)) (Err BadLiteral) ≡ Err d → cond (not a) (Some BadLiteral) (cond b (Some WideClause) rest) ≡ Some d
      look true true v rest e = cc
      look true false v rest e = cc
      look false b v rest e = cc

  pub fits : (v : ArrayVec ℤ) → gathered n ts ≡ Ok v → Fits n ts v.items
  fits v g = look (every (names n) ts) (ltb 24 (length (merged [] ts))) refl refl g
    where
      look : (a b : Bool) → every (names n) ts ≡ a → ltb 24 (length (merged [] ts)) ≡ b → cond a (cond b (Err WideClause) (Ok (record { items = merged [] ts }))) (Err BadLiteral) ≡ Ok v → Fits n ts v.items
      look true true p q e = absurd (let z : ◌≡◌ {A = ℕ} 0 1 = cc in omega arith)
      look true false p q e =
          let m : merged [] ts ≡ v.items = ap (λ (x : ArrayVec ℤ). x.items) (let z : record { items = merged [] ts } ≡ v = cc in z) in
          record { named = p; short = omega (arith, ltb-false 24 (length (merged [] ts)) q, ap length m); all = m }
      look false b p q e = absurd (let z : ◌≡◌ {A = ℕ} 0 1 = cc in omega arith)

-- the clause of a hand, as it is borrowed
pub in_hand : (Q : Bor Decline → Decline → Type 0) (n : ℕ) (ts : List ℤ) (h : Hand) (r : Result (Bor (ArrayVec ℤ)) (Bor Decline)) (r' : Result (Bor (ArrayVec ℤ)) Decline) (v : Bor (ArrayVec ℤ)) → Holds n h ts → result_copied r ≡ h.clause → MatchResult r (λ x. r' ≡ Ok x) (λ e. IsErrAnd r' (Q e)) → r' ≡ Ok v → Fits n ts v.now.items
in_hand Q n ts h r r' v g e m o = fits n ts v.now (sym g.clause ∙ (sym e ∙ ap result_copied (ok_before Q r r' m v o)))

module _ (n : ℕ) (t : Tables) (k : Counts) (s : Sound n t k) (ts : List ℤ) (C : Clause) (f : Fits n ts C) (some : n ≡ 0 → ⊥) where
  wide : ltb 24 (length (merged [] ts)) ≡ false
  wide = le-ltb 24 (length (merged [] ts)) (omega (arith, ap length f.all, f.short))

  pub is_full : 1000 ≤ k.clauses → (number : ℕ) (trials : List ℕ) → enter_refusal (machine_in n number t k trials) ts ≡ Some ClausesFull
  unfolding machine_in
  is_full c number trials =
      let q : 1000 ≤ length (standing t k) = omega (arith, clauses_are n t k s) in
      rw (ne_eqb n 0 some, f.named, wide, le-leb 1000 (length (standing t k)) q)

  pub is_long : k.clauses < 1000 → 8000 < k.literals + length C → (number : ℕ) (trials : List ℕ) → enter_refusal (machine_in n number t k trials) ts ≡ Some LiteralsFull
  unfolding machine_in
  is_long c w number trials =
      let q : length (standing t k) < 1000 = omega (arith, clauses_are n t k s) in
      let v : 8000 < literals (standing t k) + length (merged [] ts) = omega (arith, literals_are n t k s, ap length f.all) in
      rw (ne_eqb n 0 some, f.named, wide, lt-leb 1000 (length (standing t k)) q, lt-ltb 8000 (literals (standing t k) + length (merged [] ts)) v)

  -- the clause stands after the others, and one end more
  module _ (to : ℕ) (top : to ≡ k.literals + length C) (c : k.clauses < 1000) (w : to ≤ 8000) (t' : Tables) (size : length t'.lits ≡ 8000) (l : take to t'.lits ≡ take k.literals t.lits ++ C) (b : t'.ends ≡ set t.ends k.clauses to) where
    abbrev more : Counts
    more = record { clauses = k.clauses + 1; literals = to }

    low : length (take k.literals t.lits) ≡ k.literals
    low = length-take-le k.literals t.lits (omega (arith, s.wide, s.literals))

    front : take k.literals t'.lits ≡ take k.literals t.lits
    front =
        let a : k.literals ≤ to = omega arith in
        sym (take-take k.literals to t'.lits a) ∙ (ap (take k.literals) l ∙ take_at (take k.literals t.lits) C k.literals low)

    ends_more : take (k.clauses + 1) t'.ends ≡ take k.clauses t.ends ++ (to ∷ [])
    ends_more = ap (take (k.clauses + 1)) b ∙ take_more_set t.ends k.clauses to (omega (arith, s.tall))

    last_part : take (to - k.literals) (drop k.literals t'.lits) ≡ C
    last_part =
        let z : k.literals + (to - k.literals) ≡ to = omega arith in
        sym (drop-take k.literals (to - k.literals) t'.lits) ∙ (ap (λ x. drop k.literals (take x t'.lits)) z ∙ (ap (drop k.literals) l ∙ drop_at (take k.literals t.lits) C k.literals low))

    new_sound : every (names n) C ≡ true → Sound n t' more
    new_sound e = record {
      wide = size;
      tall = ap length b ∙ (length-set t.ends k.clauses to ∙ s.tall);
      clauses = omega arith;
      literals = w;
      rising = rw ends_more (rises_push 0 (take k.clauses t.ends) to s.rising (omega (arith, s.last)));
      last = ap (last_of 0) ends_more ∙ last_push 0 (take k.clauses t.ends) to;
      named = rw l (every_both (names n) (take k.literals t.lits) C s.named e);
    }

    new_fronts : Fronts k t t' more
    new_fronts = record { lits = front; ends = ap (take k.clauses) b ∙ take-set t.ends k.clauses to; low = omega arith; count = omega arith }

    new_standing : standing t' more ≡ standing t k ++ (C ∷ [])
    new_standing =
        let old : parts t'.lits 0 (take k.clauses t.ends) ≡ parts t.lits 0 (take k.clauses t.ends) = parts_same 0 k.literals (take k.clauses t.ends) t'.lits t.lits s.rising (omega (arith, s.last)) front in
        let e : take (to - last_of 0 (take k.clauses t.ends)) (drop (last_of 0 (take k.clauses t.ends)) t'.lits) ≡ C = ap (λ x. take (to - x) (drop x t'.lits)) s.last ∙ last_part in
        ap (parts t'.lits 0) ends_more ∙ (parts_push 0 (take k.clauses t.ends) to t'.lits ∙ (ap (λ x. x ++ (take (to - last_of 0 (take k.clauses t.ends)) (drop (last_of 0 (take k.clauses t.ends)) t'.lits) ∷ [])) old ∙ ap (λ x. parts t.lits 0 (take k.clauses t.ends) ++ (x ∷ [])) e))

    pub added : Added n t k ts t' more
    unfolding machine_in
    added = record {
      sound = new_sound (ap (every (names n)) (sym f.all) ∙ every_merged (names n) [] ts refl f.named);
      fronts = new_fronts;
      one = refl;
      allowed = λ number trials.
          let m : Machine = machine_in n number t k trials in
          enter_goes m ts (record { some = omega arith; named = f.named; short = omega (arith, ap length f.all, f.short); few = omega (arith, clauses_are n t k s); room = omega (arith, literals_are n t k s, ap length f.all) });
      now_in = λ number trials. machine_path _ _ refl refl (new_standing ∙ ap (λ x. standing t k ++ (x ∷ [])) (sym f.all)) refl;
    }
