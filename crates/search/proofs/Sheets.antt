-- The sheet, and what settling says of the search's end.
use Rattle.std.proofs.Common.{◌≡◌, ℕ, zero, suc, ◌+◌, ◌-◌, ◌<◌, ◌≤◌, Bool, true, false, cond, eqb, leb, List, [], ◌∷◌, ◌++◌, map, length, get_or, take, drop, set, Some, None, Ok, Err, Option, Result, sym, refl, ap, ◌∙◌, subst, append_assoc, add-one, arith, length-append, leb-true}
use borrow.Author.Tests.{lt-leb}
use mir.Val.{bool_byte}
use Rattle.std.proofs.lemmas.Bool.{eqb-true, eq-eqb, not-false}
use Rattle.model.proofs.Merging.{both}
use Rattle.model.specs.declared.Step.{Step}
use Rattle.model.specs.declared.Answer.{Answer}
use Rattle.model.specs.declared.Answer.TheVariants.{Fits, Cannot}
use Rattle.model.specs.declared.Reference.{Reference}
use Rattle.model.specs.declared.Decline.{Decline}
use Rattle.model.specs.declared.Decline.TheVariants.{RecordFull}
use Rattle.model.specs.Clauses.{Clause, Over}
use Rattle.model.specs.Search.{Setting, Branch, Outcome, fits, fails}
use Rattle.model.specs.Arguments.{unset}
use Rattle.model.specs.Machine.{Machine}
use Rattle.model.specs.Settling.{OrderMeaning, Lists, RecordMeaning, byte, written, left_of, takes_all, is_full, noted, told, settle_refusal, Settled, Settles, Worth}
use Rattle.model.proofs.Worths.{worth}
use Rattle.model.proofs.Noted.{noted_noted, noted_full}
use Rattle.model.proofs.Ways.{finish}
use Rattle.search.proofs.GoingOn.{going_start}
use Rattle.search.specs.States.{Position, Run, Going, Ended, Halted, Ran}

more : (σ sheet : List ℕ) (i : ℕ) → i < length σ → i < length sheet → set (map byte (take i σ) ++ drop i sheet) i (byte (get_or σ i 0)) ≡ map byte (take (suc i) σ) ++ drop (suc i) sheet
more [] sheet i h k = absurd (omega arith)
more (b ∷ σ) [] i h k = absurd (omega arith)
more (b ∷ σ) (x ∷ sheet) zero h k = refl
more (b ∷ σ) (x ∷ sheet) (suc i) h k = ap (λ (l : List ℕ). byte b ∷ l) (more σ sheet i (omega arith) (omega arith))

bool_byte_cond : (b : Bool) → bool_byte b ≡ cond b 1 0
bool_byte_cond true = refl
bool_byte_cond false = refl

-- one place more is written
pub written_more : (σ sheet now : List ℕ) (i b : ℕ) → i < length σ → length σ ≤ length sheet → now ≡ map byte (take i σ) ++ drop i sheet → b ≡ bool_byte (eqb (get_or σ i 0) 1)
    → set now i b ≡ map byte (take (i + 1) σ) ++ drop (i + 1) sheet
written_more σ sheet now i b h k e q = rw (e, q, bool_byte_cond, add-one) (more σ sheet i h (omega arith))

-- what is not refused

row_false : {A : Type 0} (b : Bool) (x : A) (rest : Option A) → cond b (Some x) rest ≡ None → (b ≡ false) × (rest ≡ None)
row_false true x rest e = absurd (let z : ◌≡◌ {A = ℕ} 0 1 = cc in omega arith)
row_false false x rest e = (refl, e)

pub record Allowed (m : Machine) (o : OrderMeaning) (sheet : ℕ) : Type 0 where
  pub size_is : o.size ≡ m.variables
  pub sheet_long : m.variables ≤ sheet

pub allowed : (m : Machine) (o : OrderMeaning) (rec : RecordMeaning) (sheet trail frames : ℕ) → settle_refusal m o rec sheet (trail ∷ frames ∷ []) ≡ None → Allowed m o sheet
allowed m o rec sheet trail frames e =
    let a = row_false _ _ _ e in
    let b = row_false _ _ _ a.1 in
    let c = row_false _ _ _ b.1 in
    let every_long = not-false _ c.0 in
    let x = both (leb m.variables sheet) _ every_long in
    record {
      size_is = eqb-true o.size m.variables (not-false (eqb o.size m.variables) b.0);
      sheet_long = leb-true m.variables sheet x.0;
    }

module _ (m : Machine) (o : OrderMeaning) (rec rec' : RecordMeaning) (sheet : List ℕ) where
  -- the sheet is written where the answer is "fits"
  abbrev pub sheet_after : Result Answer Decline → Setting → List ℕ
  sheet_after (Ok Fits) τ = written τ sheet
  sheet_after (Ok (Cannot r)) τ = sheet
  sheet_after (Err d) τ = sheet

  abbrev this_run : Run
  this_run = record { order = o.list; before = rec }

  told_all : (ss : List Step) (out : Outcome) → takes_all rec.room ss ≡ true → told (takes_all rec.room ss) out sheet ≡ told true out sheet
  told_all ss out e = ap (λ (b : Bool). told b out sheet) e

  settled_fits : (τ : Setting) → Ended this_run m rec' (fits τ) → Settled None m o rec sheet (Ok Fits) rec' (written τ sheet)
  settled_fits τ e =
      let t = told_all e.ss (fits τ) e.all in
      (e.ss, fits τ, e.branch, e.noted_is, sym (ap (λ (x : Result Answer Decline × List ℕ). x.0) t), sym (ap (λ (x : Result Answer Decline × List ℕ). x.1) t))

  settled_fails : (r : Reference) (D : Clause) → Ended this_run m rec' (fails r D) → Settled None m o rec sheet (Ok (Cannot r)) rec' sheet
  settled_fails r D e =
      let t = told_all e.ss (fails r D) e.all in
      (e.ss, fails r D, e.branch, e.noted_is, sym (ap (λ (x : Result Answer Decline × List ℕ). x.0) t), sym (ap (λ (x : Result Answer Decline × List ℕ). x.1) t))

  -- a record that took all it takes is full, and does not take one more
  full : (room : Option ℕ) (xs ys : List Step) (y : Step) → room ≡ Some (length xs) → (is_full (left_of room (length xs)) ≡ true) × (takes_all room (xs ++ (y ∷ ys)) ≡ false)
  full None xs ys y e = absurd (let z : ◌≡◌ {A = ℕ} 0 1 = cc in omega arith)
  full (Some k) xs ys y e =
      let q : k ≡ length xs = cc in
      let l = length-append xs (y ∷ ys) in
      (eq-eqb (k - length xs) 0 (omega arith), lt-leb (length (xs ++ (y ∷ ys))) k (omega arith))

  -- the record was full: the whole search makes a further step
  settled_full : Over m.variables m.clauses → Lists o → o.size ≡ m.variables → Halted this_run m rec' → Settled None m o rec sheet (Err RecordFull) rec' sheet
  settled_full over lists size h =
      let covers = λ (k : ℕ) (a : 0 < k) (b : k ≤ m.variables). lists.1 k a (let s = size in omega arith) in
      let w = finish m.clauses o.list m.variables over covers (h.ss ++ (h.s ∷ [])) h.out h.way h.branch in
      let xs = h.done ++ h.ss in
      let zs = xs ++ (h.s ∷ w.0) in
      let split : (h.done ++ (h.ss ++ (h.s ∷ []))) ++ w.0 ≡ zs = simp append_assoc in
      let b = full rec.room xs w.0 h.s h.room_is in (
        zs,
        w.1,
        subst (λ (ys : List Step). Branch m.clauses o.list (unset m.variables) 0 ys w.1) split w.2,
        h.noted_is ∙ sym (noted_full (noted rec xs) (h.s ∷ w.0) b.0) ∙ noted_noted rec xs (h.s ∷ w.0),
        sym (ap (λ (c : Bool). (told c w.1 sheet).0) b.1),
        sym (ap (λ (c : Bool). (told c w.1 sheet).1) b.1),
      )

  pub settled_ran : Over m.variables m.clauses → Lists o → o.size ≡ m.variables → (p : Position) (r : Result Answer Decline) → Ran this_run m rec' p r → Settled None m o rec sheet r rec' (sheet_after r p.settings)
  settled_ran over lists size p (Ok Fits) q = settled_fits p.settings q.0
  settled_ran over lists size p (Ok (Cannot r)) q = settled_fails r q.0 q.1
  settled_ran over lists size p (Err d) q = subst (λ (x : Decline). Settled None m o rec sheet (Err x) rec' sheet) (sym q.1) (settled_full over lists size q.0)

  -- the search was run from nothing set, by a state of the same file
  module _ (m' : Machine) (same : m' ≡ m) (p : Position) (begun : p ≡ record { settings = unset m.variables; marks = []; frames = []; made = 0 }) where
    pub going_begun : Going this_run m' rec p
    going_begun = rw (same, begun) (going_start this_run m rec (record { settings = unset m.variables; marks = []; frames = []; made = 0 }) refl refl refl refl refl)

    module _ (p' : Position) (r : Result Answer Decline) (ran : (run : Run) → run.order ≡ o.list → Going run m' rec p → Ran run m' rec' p' r) where
      pub ran_begun : Ran this_run m rec' p' r
      ran_begun = subst (λ (k : Machine). Ran this_run k rec' p' r) same (ran this_run refl going_begun)

      -- what the whole search comes to
      pub settled_begun : (trail frames : ℕ) → settle_refusal m o rec (length sheet) (trail ∷ frames ∷ []) ≡ None → Over m.variables m.clauses → Lists o → (sheet' : List ℕ) → sheet' ≡ sheet_after r p'.settings
          → Settles m o rec sheet (trail ∷ frames ∷ []) r rec' sheet' × Worth m r sheet'
      settled_begun trail frames none over lists sheet' e =
          let a = allowed m o rec (length sheet) trail frames none in
          let s = settled_ran over lists a.size_is p' r ran_begun in
          rw (e, none) (s, worth m o rec rec' sheet (sheet_after r p'.settings) over None r s)
