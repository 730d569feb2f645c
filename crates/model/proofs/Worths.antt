-- What an answer of settling is worth.
use Rattle.std.proofs.Common.{◌≡◌, ℕ, zero, suc, Bool, true, false, cond, eqb, List, [], map, length, get_or, take, drop, ℤ, pos, negsuc, Some, None, Ok, Err, Option, Result, sym, refl, ap, ◌∙◌, subst, arith}
use mathlib.Core.Path.{fun_ext}
use lib.ListN.{length-replicate, length-map, get_or-map}
use Rattle.std.proofs.lemmas.List.{take_at}
use Rattle.model.specs.declared.Answer.{Answer}
use Rattle.model.specs.declared.Answer.TheVariants.{Fits, Cannot}
use Rattle.model.specs.declared.Decline.{Decline}
use Rattle.model.specs.Clauses.{Clause, Valuation, Satisfies, Model, Over, off}
use Rattle.model.specs.Search.{Setting, Reference, Step, Outcome, fits, fails, Joined, Back, passes, joins, Branch, conflict, forced, satisfied, on_ends, then_off}
use Rattle.model.specs.Arguments.{unset, reads}
use Rattle.model.specs.Machine.{Machine}
use Rattle.model.specs.Settling.{OrderMeaning, RecordMeaning, takes_all, byte, written, told, Settled, Worth}
use Rattle.model.proofs.Resolution.{resolvent_sound}
use Rattle.model.proofs.Root.{first_each, root_empty}
use Rattle.model.proofs.Fitted.{fitted}
use Rattle.model.proofs.Ways.{length_true}

-- whatever a branch fails with follows from the rules, however many steps there were

abbrev Follows : Valuation → Outcome → Type 0
Follows v (fits τ) = Unit {0}
Follows v (fails r C) = Satisfies v C

joined_sound : (v : Valuation) (t : ℤ) (C D E : Clause) → Joined t C D E → Satisfies v C → Satisfies v D → Satisfies v E
joined_sound v (pos k) C D E j c d = resolvent_sound v j c d
joined_sound v (negsuc k) C D E j c d = resolvent_sound v j d c

back_follows : (v : Valuation) {t : ℤ} {setter : Reference} {C : Clause} {m : ℕ} {below : Outcome} {us : List Step} {out : Outcome} → Satisfies v C → Follows v below → Back t setter C m below us out → Follows v out
back_follows v c f (passes l) = f
back_follows v {t} {C = C} c f (joins {D = D} {E = E} j) = joined_sound v t C D E j c f

follows : (v : Valuation) {F : List Clause} {order : List ℕ} {σ : Setting} {m : ℕ} {ss : List Step} {out : Outcome} → Model v F → Branch F order σ m ss out → Follows v out
follows v f (conflict x) = first_each (Satisfies v) f x
follows v f (forced n x u b back) = back_follows v (first_each (Satisfies v) f x) (follows v f b) back
follows v f (satisfied s) = tt
follows v f (on_ends un c b l) = follows v f b
follows v f (then_off un c b h d back) = back_follows v (follows v f b) (follows v f d) back

-- a setting keeps its length

abbrev pub Long : ℕ → Outcome → Type 0
Long n (fits τ) = length τ ≡ n
Long n (fails r C) = Unit {0}

back_long : (n : ℕ) {t : ℤ} {setter : Reference} {C : Clause} {m : ℕ} {below : Outcome} {us : List Step} {out : Outcome} → Long n below → Back t setter C m below us out → Long n out
back_long n l (passes p) = l
back_long n l (joins j) = tt

pub long : (n : ℕ) {F : List Clause} {order : List ℕ} {σ : Setting} {m : ℕ} {ss : List Step} {out : Outcome} → length σ ≡ n → Branch F order σ m ss out → Long n out
long n e (conflict x) = tt
long n e (forced {σ = σ} {t = t} m x u b back) = back_long n (long n (length_true σ t ∙ e) b) back
long n e (satisfied s) = e
long n e (on_ends {σ = σ} {k = k} un c b l) = long n (length_true σ (pos k) ∙ e) b
long n e (then_off {σ = σ} {k = k} un c b h d back) = back_long n (long n (length_true σ (off k) ∙ e) d) back

-- the sheet

one_bit : (c : Bool) → eqb (cond c 1 0) 1 ≡ c
one_bit true = refl
one_bit false = refl

reads_bytes : (τ : Setting) (k : ℕ) → reads (map byte τ) k ≡ reads τ k
reads_bytes τ zero = refl
reads_bytes τ (suc k) = ap (λ (b : ℕ). eqb b 1) (get_or-map byte τ k 0) ∙ one_bit (eqb (get_or τ k 0) 1)

pub written_take : (n : ℕ) (τ : Setting) (sheet : List ℕ) → length τ ≡ n → take n (written τ sheet) ≡ map byte τ
written_take n τ sheet e = take_at (map byte τ) (drop (length τ) sheet) n (length-map τ byte ∙ e)

-- what was told

pub told_fits : (t : Bool) (out : Outcome) (sheet : List ℕ) → Ok Fits ≡ (told t out sheet).0 → (τ : Setting) × (out ≡ fits τ) × ((told t out sheet).1 ≡ written τ sheet)
told_fits false out sheet e = let z : ◌≡◌ {A = ℕ} 0 1 = cc in absurd (omega arith)
told_fits true (fits τ) sheet e = (τ, refl, refl)
told_fits true (fails r C) sheet e = let z : ◌≡◌ {A = ℕ} 0 1 = cc in absurd (omega arith)

pub told_cannot : (t : Bool) (out : Outcome) (sheet : List ℕ) (ref : Reference) → Ok (Cannot ref) ≡ (told t out sheet).0 → (C : Clause) × (out ≡ fails ref C) × (t ≡ true)
told_cannot false out sheet ref e = let z : ◌≡◌ {A = ℕ} 0 1 = cc in absurd (omega arith)
told_cannot true (fits τ) sheet ref e = let z : ◌≡◌ {A = ℕ} 0 1 = cc in absurd (omega arith)
told_cannot true (fails r C) sheet ref e = let q : r ≡ ref = cc in (C, ap (λ (x : Reference). fails x C) q, refl)

module _ (m : Machine) (o : OrderMeaning) (rec rec' : RecordMeaning) (sheet sheet' : List ℕ) (over : Over m.variables m.clauses) where
  -- every answer that settling gives has its worth
  pub worth : (q : Option Decline) (r : Result Answer Decline) → Settled q m o rec sheet r rec' sheet' → Worth m r sheet'
  worth q (Err d) p = tt
  worth (Some d) (Ok Fits) p = absurd (let e = p.0 in let z : ◌≡◌ {A = ℕ} 0 1 = cc in omega arith)
  worth (Some d) (Ok (Cannot ref)) p = absurd (let e = p.0 in let z : ◌≡◌ {A = ℕ} 0 1 = cc in omega arith)
  worth None (Ok Fits) p =
      let x = told_fits (takes_all rec.room p.0) p.1 sheet p.4 in
      let b : Branch m.clauses o.list (unset m.variables) 0 p.0 (fits x.0) = subst (λ (out : Outcome). Branch m.clauses o.list (unset m.variables) 0 p.0 out) x.1 p.2 in
      let l : length x.0 ≡ m.variables = long m.variables (length-replicate m.variables 2) b in
      let e : take m.variables sheet' ≡ map byte x.0 = ap (take m.variables) (p.5 ∙ x.2) ∙ written_take m.variables x.0 sheet l in
      let f : reads (take m.variables sheet') ≡ reads x.0 = ap reads e ∙ fun_ext (reads_bytes x.0) in
      subst (λ (v : Valuation). Model v m.clauses) (sym f) (fitted b)
  worth None (Ok (Cannot ref)) p =
      λ v f.
      let x = told_cannot (takes_all rec.room p.0) p.1 sheet ref p.4 in
      let b : Branch m.clauses o.list (unset m.variables) 0 p.0 (fails ref x.0) = subst (λ (out : Outcome). Branch m.clauses o.list (unset m.variables) 0 p.0 out) x.1 p.2 in
      let s : Satisfies v [] = subst (Satisfies v) (root_empty m.variables over b) (follows v f b) in
      s.1
