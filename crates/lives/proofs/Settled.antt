-- What settling says, what it writes and what it notes.
use Rattle.std.proofs.Common.{◌≡◌, ℕ, ◌^◌, ◌<◌, ◌≤◌, Bool, true, false, cond, eqb, ◌≢◌, List, [], ◌∷◌, ◌++◌, map, length, take, drop, Some, None, Ok, Err, Option, Result, sym, refl, ap, ◌∙◌, subst, arith}
use lib.ListN.{length-replicate, length-map}
use Rattle.std.proofs.lemmas.Bool.{leb-true, eqb-true, not-false}
use Rattle.std.proofs.lemmas.List.{take_all, drop_at}
use Rattle.model.specs.declared.Reference.{Reference}
use Rattle.model.specs.declared.Step.{Step}
use Rattle.model.specs.declared.Answer.{Answer}
use Rattle.model.specs.declared.Answer.TheVariants.{Fits, Cannot}
use Rattle.model.specs.declared.Decline.{Decline}
use Rattle.model.specs.declared.Decline.TheVariants.{RecordFull}
use Rattle.model.specs.Clauses.{Over, Each}
use Rattle.model.specs.Search.{Setting, Outcome, fits, fails, Branch}
use Rattle.model.specs.Arguments.{unset, Argument, Alike}
use Rattle.model.specs.Machine.{Machine}
use Rattle.model.specs.Settling.{OrderMeaning, Lists, RecordMeaning, Keeps, Limited, takes, noted, takes_all, byte, written, settle_refusal, told, Settled, Settles}
use Rattle.model.proofs.Same.{one_course_lem}
use Rattle.model.proofs.Total.{ends}
use Rattle.model.proofs.Searched.{steps_argue_lem, few_steps_lem}
use Rattle.model.proofs.Worths.{Long, long, written_take, told_fits, told_cannot}
use Rattle.lives.proofs.Refusals.{row_false}

low_bit : (c : Bool) → cond c 1 0 ≤ 1
low_bit true = omega arith
low_bit false = omega arith

bits : (τ : Setting) → Each (λ (k : ℕ). k ≤ 1) (map byte τ)
bits [] = tt
bits (b ∷ τ) = (low_bit (eqb b 1), bits τ)

pub written_drop : (n : ℕ) (τ : Setting) (sheet : List ℕ) → length τ ≡ n → drop n (written τ sheet) ≡ drop n sheet
written_drop n τ sheet e = drop_at (map byte τ) (drop (length τ) sheet) n (length-map τ byte ∙ e) ∙ ap (λ (k : ℕ). drop k sheet) e

-- what was told

told_stays : (t : Bool) (out : Outcome) (sheet : List ℕ) → (told t out sheet).0 ≢ Ok Fits → (told t out sheet).1 ≡ sheet
told_stays false out sheet n = refl
told_stays true (fits τ) sheet n = absurd (n refl)
told_stays true (fails r C) sheet n = refl

told_full : (t : Bool) (out : Outcome) (sheet : List ℕ) (d : Decline) → Err d ≡ (told t out sheet).0 → d ≢ RecordFull → ⊥
told_full false out sheet d e n = let q : d ≡ RecordFull = cc in n q
told_full true (fits τ) sheet d e n = let z : ◌≡◌ {A = ℕ} 0 1 = cc in omega arith
told_full true (fails r C) sheet d e n = let z : ◌≡◌ {A = ℕ} 0 1 = cc in omega arith

told_alike : (n : ℕ) (t : Bool) (a b : Outcome) (A B : List ℕ) → Long n a → Long n b → Alike a b
    → ((told t a A).0 ≡ (told t b B).0) × ((told t a A).0 ≡ Ok Fits → take n (told t a A).1 ≡ take n (told t b B).1) × (A ≡ B → (told t a A).1 ≡ (told t b B).1)
told_alike n false a b A B la lb e = (refl, (λ q. let z : ◌≡◌ {A = ℕ} 0 1 = cc in absurd (omega arith)), λ q. q)
told_alike n true (fits σ) (fits τ) A B la lb e =
    (refl, (λ q. written_take n σ A la ∙ ap (map byte) e ∙ sym (written_take n τ B lb)), λ q. ap (λ (x : Setting). written x A) e ∙ ap (written τ) q)
told_alike n true (fits σ) (fails r C) A B la lb e = absurd e
told_alike n true (fails r C) (fits τ) A B la lb e = absurd e
told_alike n true (fails r C) (fails q D) A B la lb e = (ap (λ (x : Reference). Ok (Cannot x)) e.0, (λ z. let y : ◌≡◌ {A = ℕ} 0 1 = cc in absurd (omega arith)), λ z. z)

module _ (m : Machine) (o : OrderMeaning) (rec : RecordMeaning) where
  pub settled_stays : (q : Option Decline) (sheet : List ℕ) (r : Result Answer Decline) (rec' : RecordMeaning) (sheet' : List ℕ) → Settled q m o rec sheet r rec' sheet' → r ≢ Ok Fits → sheet' ≡ sheet
  settled_stays (Some d) sheet r rec' sheet' p n = p.2
  settled_stays None sheet r rec' sheet' p n = p.5 ∙ told_stays (takes_all rec.room p.0) p.1 sheet (λ e. n (p.4 ∙ e))

  pub settled_bits : (q : Option Decline) (sheet : List ℕ) (rec' : RecordMeaning) (sheet' : List ℕ) → Settled q m o rec sheet (Ok Fits) rec' sheet'
      → Each (λ b. b ≤ 1) (take m.variables sheet') × (drop m.variables sheet' ≡ drop m.variables sheet)
  settled_bits (Some d) sheet rec' sheet' p = let e = p.0 in let z : ◌≡◌ {A = ℕ} 0 1 = cc in absurd (omega arith)
  settled_bits None sheet rec' sheet' p =
      let x = told_fits (takes_all rec.room p.0) p.1 sheet p.4 in
      let l : length x.0 ≡ m.variables = subst (Long m.variables) x.1 (long m.variables (length-replicate m.variables 2) p.2) in
      let e : take m.variables sheet' ≡ map byte x.0 = ap (take m.variables) (p.5 ∙ x.2) ∙ written_take m.variables x.0 sheet l in
      (subst (Each (λ (k : ℕ). k ≤ 1)) (sym e) (bits x.0), ap (drop m.variables) (p.5 ∙ x.2) ∙ written_drop m.variables x.0 sheet l)

  pub settled_record : (q : Option Decline) (sheet : List ℕ) (d : Decline) (rec' : RecordMeaning) (sheet' : List ℕ) → Settled q m o rec sheet (Err d) rec' sheet' → d ≢ RecordFull → rec' ≡ rec
  settled_record (Some c) sheet d rec' sheet' p n = p.1
  settled_record None sheet d rec' sheet' p n = absurd (told_full (takes_all rec.room p.0) p.1 sheet d p.4 n)

  pub settled_alike : (q : Option Decline) (A B : List ℕ) (r r₂ : Result Answer Decline) (rec' rec₂ : RecordMeaning) (A' B' : List ℕ) → Settled q m o rec A r rec' A' → Settled q m o rec B r₂ rec₂ B'
      → (r ≡ r₂) × (rec' ≡ rec₂) × (r ≡ Ok Fits → take m.variables A' ≡ take m.variables B') × (A ≡ B → A' ≡ B')
  settled_alike (Some d) A B r r₂ rec' rec₂ A' B' p s =
      (p.0 ∙ sym s.0, p.1 ∙ sym s.1, (λ e. let x = p.0 in let z : ◌≡◌ {A = ℕ} 0 1 = cc in absurd (omega arith)), λ e. p.2 ∙ e ∙ sym s.2)
  settled_alike None A B r r₂ rec' rec₂ A' B' p s =
      let c = one_course_lem p.2 s.2 in
      let lp = long m.variables (length-replicate m.variables 2) p.2 in
      let ls = long m.variables (length-replicate m.variables 2) s.2 in
      let a = told_alike m.variables (takes_all rec.room p.0) p.1 s.1 A B lp ls c.1 in
      let t : takes_all rec.room p.0 ≡ takes_all rec.room s.0 = ap (takes_all rec.room) c.0 in
      let r_is : r₂ ≡ (told (takes_all rec.room p.0) s.1 B).0 = s.4 ∙ ap (λ (x : Bool). (told x s.1 B).0) (sym t) in
      let B-is : B' ≡ (told (takes_all rec.room p.0) s.1 B).1 = s.5 ∙ ap (λ (x : Bool). (told x s.1 B).1) (sym t) in (
        p.4 ∙ a.0 ∙ sym r_is,
        p.3 ∙ ap (noted rec) c.0 ∙ sym s.3,
        (λ e. ap (take m.variables) p.5 ∙ a.1 (sym p.4 ∙ e) ∙ ap (take m.variables) (sym B-is)),
        λ e. p.5 ∙ a.2 e ∙ sym B-is,
      )

-- what is not refused

pub not_refused : (m : Machine) (o : OrderMeaning) (rec : RecordMeaning) (places : ℕ) (memory : List ℕ) → settle_refusal m o rec places memory ≡ None → (o.size ≡ m.variables) × (length rec.steps ≡ 0)
not_refused m o rec places memory e =
    let x = row_false _ _ _ e in
    let y = row_false _ _ _ x.1 in
    let z = row_false _ _ _ y.1 in
    let u = row_false _ _ _ z.1 in
    (eqb-true o.size m.variables (not-false (eqb o.size m.variables) y.0), eqb-true (length rec.steps) 0 (not-false (eqb (length rec.steps) 0) u.0))

pub settle_answers : (m : Machine) (o : OrderMeaning) (rec : RecordMeaning) (sheet memory : List ℕ) → Over m.variables m.clauses → Lists o
    → (r : Result Answer Decline) × (rec' : RecordMeaning) × (sheet' : List ℕ) × Settles m o rec sheet memory r rec' sheet'
settle_answers m o rec sheet memory over l = by (settle_refusal m o rec (length sheet) memory) (λ e. (not_refused m o rec (length sheet) memory e).0)
  where
    by : (q : Option Decline) → (q ≡ None → o.size ≡ m.variables) → (r : Result Answer Decline) × (rec' : RecordMeaning) × (sheet' : List ℕ) × Settled q m o rec sheet r rec' sheet'
    by (Some d) f = (Err d, rec, sheet, (refl, refl, refl))
    by None f =
        let s = f refl in
        let x = ends m.variables m.clauses o.list over (λ k p h. l.1 k p (omega arith)) in
        let t = told (takes_all rec.room x.0) x.1 sheet in
        (t.0, noted rec x.0, t.1, (x.0, x.1, x.2, refl, refl, refl))

-- the record after "cannot", where it keeps

empty_list : {A : Type 0} (xs : List A) → length xs ≡ 0 → xs ≡ []
empty_list [] e = refl
empty_list (x ∷ xs) e = absurd (omega arith)

keeps_all : (room : Option ℕ) (ss : List Step) → Limited room → takes_all room ss ≡ true → (takes room ss ≡ ss) × (length ss ≤ 65535)
keeps_all None ss l t = absurd l
keeps_all (Some k) ss l t = let h = leb-true (length ss) k t in (take_all k ss h, omega arith)

-- the steps held are an argument, fewer than 2 ^ n
pub record Stands (m : Machine) (ss : List Step) (ref : Reference) : Type 0 where
  pub argument : Argument m.clauses ss ref
  pub bound : length ss < 2 ^ m.variables

pub settled_argued : (m : Machine) (o : OrderMeaning) (rec : RecordMeaning) (q : Option Decline) (sheet : List ℕ) (rec' : RecordMeaning) (sheet' : List ℕ) (ref : Reference) → Over m.variables m.clauses → Keeps rec
    → (q ≡ None → length rec.steps ≡ 0) → Settled q m o rec sheet (Ok (Cannot ref)) rec' sheet' → rec'.keeps ≡ true → Stands m rec'.steps ref
settled_argued m o rec (Some d) sheet rec' sheet' ref over keeps none p k = let e = p.0 in let z : ◌≡◌ {A = ℕ} 0 1 = cc in absurd (omega arith)
settled_argued m o rec None sheet rec' sheet' ref over keeps none p k =
    let x = told_cannot (takes_all rec.room p.0) p.1 sheet ref p.4 in
    let b : Branch m.clauses o.list (unset m.variables) 0 p.0 (fails ref x.0) = subst (λ (out : Outcome). Branch m.clauses o.list (unset m.variables) 0 p.0 out) x.1 p.2 in
    let kept : rec.keeps ≡ true = sym (ap (λ (y : RecordMeaning). y.keeps) p.3) ∙ k in
    let all = keeps_all rec.room p.0 (keeps kept) x.2 in
    let e : rec'.steps ≡ p.0 =
    ap (λ (y : RecordMeaning). y.steps) p.3 ∙ ap (λ (c : Bool). cond c (rec.steps ++ takes rec.room p.0) rec.steps) kept
    ∙ ap (λ (xs : List Step). xs ++ takes rec.room p.0) (empty_list rec.steps (none refl)) ∙ all.0 in
    let l = all.1 in
    subst (λ (ss : List Step). Stands m ss ref) (sym e)
    (record { argument = steps_argue_lem m.variables m.clauses o.list p.0 ref x.0 over (omega arith) b; bound = few_steps_lem m.variables m.clauses o.list p.0 (fails ref x.0) b })
