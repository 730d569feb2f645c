-- The courses of the worked cabinets, computed, and that there is no other.
use Rattle.std.proofs.Common.{◌≡◌, ℕ, ◌+◌, ◌<◌, ◌≤◌, Bool, true, false, eqb, ltb, leb, List, [], ◌∷◌, ◌++◌, length, Some, None, Ok, Err, Option, Result, sym, refl, ap, ◌∙◌, arith, le-ltb, eq-eqb, ne_eqb, le-leb}
use borrow.Author.Tests.{lt-leb}
use Rattle.model.specs.declared.Step.{Step}
use Rattle.model.specs.declared.Answer.{Answer}
use Rattle.model.specs.declared.Answer.TheVariants.{Fits, Cannot}
use Rattle.model.specs.declared.Decline.{Decline}
use Rattle.model.specs.declared.Reference.{Reference}
use Rattle.model.specs.Clauses.{Clause, Each, on, off}
use Rattle.model.specs.Search.{Setting, Outcome, fits, fails, Branch}
use Rattle.model.specs.Arguments.{unset, Alike}
use Rattle.model.specs.Machine.{Machine, every, names, literals, Does, enter_refusal}
use Rattle.model.specs.Settling.{OrderMeaning, RecordMeaning, takes_all, noted, written, told, settle_refusal, Settled, Settles}
use Rattle.model.proofs.Merging.{clauses_over, both}
use Rattle.model.proofs.Same.{one_course_lem}
use Rattle.model.proofs.Total.{ends}
use Rattle.orders.specs.Listed.{numbers, by_number}
use Rattle.orders.specs.Whole.{by_number_lists}
use Rattle.worked.specs.Worked.{Only, holding, keeping, all_pairs, five_rules, WorkedCases}

-- what settling can answer and leave

abbrev Said : Type 0
Said = Result Answer Decline × RecordMeaning × List ℕ

abbrev saying : RecordMeaning → List ℕ → List Step → Outcome → Said
saying rec sheet ss out = ((told (takes_all rec.room ss) out sheet).0, noted rec ss, (told (takes_all rec.room ss) out sheet).1)

told_alike : (b : Bool) (a c : Outcome) (sheet : List ℕ) → Alike a c → told b a sheet ≡ told b c sheet
told_alike false a c sheet e = refl
told_alike true (fits σ) (fits τ) sheet e = ap (λ (x : Setting). (Ok Fits, written x sheet)) e
told_alike true (fits σ) (fails q D) sheet e = absurd e
told_alike true (fails r C) (fits τ) sheet e = absurd e
told_alike true (fails r C) (fails q D) sheet e = ap (λ (x : Reference). (Ok (Cannot x), sheet)) e.0

triple : (r q : Result Answer Decline) (rec rec' : RecordMeaning) (s t : List ℕ) → r ≡ q → rec ≡ rec' → s ≡ t → ◌≡◌ {A = Said} (r, rec, s) (q, rec', t)
triple r q rec rec' s t a b c = cc

module _ (m : Machine) (o : OrderMeaning) (rec : RecordMeaning) (sheet : List ℕ) (ss : List Step) (out : Outcome)
    (b : Branch m.clauses o.list (unset m.variables) 0 ss out) where
  told_same : (us : List Step) (end : Outcome) → ss ≡ us → Alike out end → saying rec sheet us end ≡ saying rec sheet ss out
  told_same us end e a =
      let t = told_alike (takes_all rec.room ss) out end sheet a in
      triple _ _ _ _ _ _
      (rw (sym e) (ap (λ (x : Result Answer Decline × List ℕ). x.0) (sym t)))
      (rw (sym e))
      (rw (sym e) (ap (λ (x : Result Answer Decline × List ℕ). x.1) (sym t)))

  settled : (d : Option Decline) → d ≡ None → Only (λ (x : Said). Settled d m o rec sheet x.0 x.1 x.2) (saying rec sheet ss out)
  settled None e = (
    (ss, out, b, refl, refl, refl),
    λ x p.
        let w = one_course_lem b p.2 in
        triple _ _ _ _ _ _ p.4 p.3 p.5 ∙ told_same p.0 p.1 w.0 w.1,
  )
  settled (Some d) e = absurd (let z : ◌≡◌ {A = ℕ} 0 1 = cc in omega arith)

-- the cabinets

each_names : (n : ℕ) (F : List Clause) → every (every (names n)) F ≡ true → Each (λ C. every (names n) C ≡ true) F
each_names n [] h = tt
each_names n (C ∷ F) h = let w = both (every (names n) C) (every (every (names n)) F) h in (w.0, each_names n F w.1)

course : (n : ℕ) (F : List Clause) → every (every (names n)) F ≡ true → (ss : List Step) × (out : Outcome) × Branch F (numbers n) (unset n) 0 ss out
course n F h = ends n F (numbers n) (clauses_over n F (each_names n F h)) (by_number_lists n).1

accepts : (f n : ℕ) (F : List Clause) (room : ℕ) (sheet memory : List ℕ) → eqb n 0 ≡ false → every (leb n) (length sheet ∷ memory) ≡ true
    → settle_refusal (holding f n F) (by_number n) (keeping [] room) (length sheet) memory ≡ None
accepts f n F room sheet memory z h = rw (z, eq-eqb n n refl, h) refl

comes : (n : ℕ) (F : List Clause) (room : ℕ) → eqb n 0 ≡ false → (h : every (every (names n)) F ≡ true)
    → (f : ℕ) (sheet memory : List ℕ) → every (leb n) (length sheet ∷ memory) ≡ true
    → Only (λ (x : Said). Settles (holding f n F) (by_number n) (keeping [] room) sheet memory x.0 x.1 x.2)
    (saying (keeping [] room) sheet (course n F h).0 (course n F h).1)
comes n F room z h f sheet memory l =
    let c = course n F h in
    settled (holding f n F) (by_number n) (keeping [] room) sheet c.0 c.1 c.2 _ (accepts f n F room sheet memory z l)

-- a call that is not refused answers and leaves what is said, and nothing else
done : (refusal : Option Decline) (answer : ℕ) (before after : Machine) → refusal ≡ None
    → Only (λ (x : Machine × Result ℕ Decline). Does refusal answer before after x.0 x.1) (after, Ok answer)
done refusal answer before after e = ((e, refl, refl), λ x p. alone x.0 x.1 p)
  where
    alone : (now : Machine) (r : Result ℕ Decline) → Does refusal answer before after now r → ◌≡◌ {A = Machine × Result ℕ Decline} (now, r) (after, Ok answer)
    alone now (Ok u) p = let a = p.1 in let b = p.2 in cc
    alone now (Err d) p = let q = p.0 in absurd (let z : ◌≡◌ {A = ℕ} 0 1 = cc in omega arith)

takes_five : (f n : ℕ) (F : List Clause) → 5 ≤ n → length F < 1000 → literals F + 2 ≤ 8000
    → enter_refusal (holding f n F) (on 5 ∷ on 5 ∷ off 5 ∷ []) ≡ None
takes_five f n F a b c =
    let z : eqb n 0 ≡ false = ne_eqb n 0 (omega arith) in
    let l : leb 5 n ≡ true = le-leb 5 n a in
    let k : leb 1000 (length F) ≡ false = lt-leb 1000 (length F) b in
    let w : ltb 8000 (literals F + 2) ≡ false = le-ltb 8000 (literals F + 2) c in
    rw (z, l, k, w) refl

pub cases : WorkedCases
unfolding ends course
cases = record {
  no_clauses = comes 1 [] 2000 refl refl;
  on_and_off = comes 1 ((on 1 ∷ []) ∷ (off 1 ∷ []) ∷ []) 2000 refl refl;
  no_literals = comes 1 ([] ∷ []) 2000 refl refl;
  every_pair_shut_out = comes 2 all_pairs 2000 refl refl;
  five_fit = comes 4 five_rules 2000 refl refl;
  one_more_does_not = comes 4 (five_rules ++ ((on 1 ∷ off 2 ∷ []) ∷ [])) 2000 refl refl;
  record_full = comes 2 all_pairs 2 refl refl;
  equal_literals_merge = λ f n F a b c. done _ (length F + 1) (holding f n F) _ (takes_five f n F a b c);
}
