-- Accepted texts are those of the stated form whose clauses the machine takes.
use Rattle.std.proofs.Common.{◌≡◌, ℕ, zero, suc, ◌+◌, Bool, true, false, cond, eqb, ◌≢◌, List, [], ◌∷◌, ◌++◌, length, ℤ, pos, negsuc, Some, None, Option, sym, refl, ap, ◌∙◌, arith}
use Rattle.std.proofs.lemmas.Bool.{eqb-true, eqb-false, eq-eqb, ne_eqb}
use Rattle.model.specs.declared.Decline.{Decline}
use Rattle.model.specs.declared.Decline.TheVariants.{NotStarted}
use Rattle.model.specs.declared.ProblemLine.{ProblemLine}
use Rattle.model.specs.declared.ReadFault.{ReadFault}
use Rattle.model.specs.Faults.{clauses_fault, variables_fault, file_fault}
use Rattle.model.specs.Words.{Placed, number, no_number, comment, problem, line_end, tokens}
use Rattle.model.specs.Machine.{Machine, enter_refusal, entered}
use Rattle.model.specs.Reading.{State, Step, on, stop, accepted, faulty, counts, spellings, head, enter_hand, took, step_before, step_after, step_on, step, finish_on, finish, run, begun, reading}
use Rattle.texts.proofs.Course.{holds_literal}
use Rattle.texts.specs.Form.{Clauses, all, new_line, literal, ended, Form, remark, empty_line, headed, TakesAll, Accepts}

abbrev st : ℕ → Machine → ℕ → List ℤ → State
st c m d h = record { declared = Some c; machine = m; done = d; hand = h }

not_both : {X : Type 0} (f : ReadFault) (k : ℕ) (m : Machine) → faulty f ≡ accepted k m → X
not_both f k m e = absurd (let z : ◌≡◌ {A = ℕ} 0 1 = cc in omega arith)

-- what an accepted end of reading says, after the problem line
record Rest (c : ℕ) (m : Machine) (d : ℕ) (h : List ℤ) (ts : List Placed) (k : ℕ) (m' : Machine) : Type 0 where
  pub clauses : List (List ℤ)
  pub spelled : Clauses h ts clauses
  pub taken : TakesAll m clauses m'
  pub count : k ≡ d + length clauses
  pub told : c ≡ d + length clauses

at_end : (size c : ℕ) (m : Machine) (d : ℕ) (h : List ℤ) (k : ℕ) (m' : Machine) → finish size (st c m d h) ≡ accepted k m' → Rest c m d h [] k m'
unfolding finish finish_on
at_end size c m d [] k m' e = look (eqb d c) refl e
  where
    look : (b : Bool) → eqb d c ≡ b → cond b (accepted d m) (faulty (clauses_fault size)) ≡ accepted k m' → Rest c m d [] [] k m'
    look true t q =
        let same : m ≡ m' = cc in
        let kd : d ≡ k = cc in
        record { clauses = []; spelled = all; taken = same; count = omega arith; told = omega (arith, eqb-true d c t) }
    look false t q = not_both (clauses_fault size) k m' q
at_end size c m d (t ∷ h) k m' e = not_both (clauses_fault size) k m' e

not_zero : (k : ℕ) → pos (suc k) ≢ pos 0
not_zero k e = let z : suc k ≡ 0 = cc in omega arith

not_neg : (k : ℕ) → negsuc k ≢ pos 0
not_neg k e = absurd (let z : ◌≡◌ {A = ℕ} 0 1 = cc in omega arith)

after : (size c : ℕ) (m : Machine) (d : ℕ) (h : List ℤ) (ts : List Placed) (k : ℕ) (m' : Machine) → run size (on (st c m d h)) ts ≡ accepted k m' → Rest c m d h ts k m'
unfolding run step step_on step_after took enter_hand
after size c m d h [] k m' e = at_end size c m d h k m' e
after size c m d h ((p, comment) ∷ ts) k m' e = not_both _ k m' e
after size c m d h ((p, problem) ∷ ts) k m' e = not_both _ k m' e
after size c m d h ((p, no_number) ∷ ts) k m' e = not_both _ k m' e
after size c m d h ((p, line_end) ∷ ts) k m' e =
    let r = after size c m d h ts k m' e in
    record { clauses = r.clauses; spelled = new_line h p ts r.clauses r.spelled; taken = r.taken; count = r.count; told = r.told }
after size c m d h ((p, number t) ∷ ts) k m' e = look (λ m₁ d₁ h₁. after size c m₁ d₁ h₁ ts k m') t e
  where
    Again : Type 0
    Again = (m₁ : Machine) (d₁ : ℕ) (h₁ : List ℤ) → run size (on (st c m₁ d₁ h₁)) ts ≡ accepted k m' → Rest c m₁ d₁ h₁ ts k m'

    more : Again → (t : ℤ) → t ≢ pos 0 → run size (on (st c m d (h ++ (t ∷ [])))) ts ≡ accepted k m' → Rest c m d h ((p, number t) ∷ ts) k m'
    more again t z q =
        let r = again m d (h ++ (t ∷ [])) q in
        record { clauses = r.clauses; spelled = literal h p t ts r.clauses z r.spelled; taken = r.taken; count = r.count; told = r.told }

    close : Again → (o : Option Decline) → enter_refusal m h ≡ o → run size (enter_hand (st c m d h) p.0 o) ts ≡ accepted k m' → Rest c m d h ((p, number (pos 0)) ∷ ts) k m'
    close again (Some x) z q = not_both _ k m' q
    close again None z q =
        let r = again (entered m h) (suc d) [] q in
        record { clauses = h ∷ r.clauses; spelled = ended h p ts r.clauses r.spelled; taken = (z, r.taken); count = omega (arith, r.count); told = omega (arith, r.told) }

    look : Again → (t : ℤ) → run size (took (st c m d h) p.0 t) ts ≡ accepted k m' → Rest c m d h ((p, number t) ∷ ts) k m'
    look again (pos zero) q = close again (enter_refusal m h) refl q
    look again (pos (suc j)) q = more again (pos (suc j)) (not_zero j) q
    look again (negsuc j) q = more again (negsuc j) (not_neg j) q

record Whole (m : Machine) (ts : List Placed) (k : ℕ) (m' : Machine) : Type 0 where
  pub clauses : List (List ℤ)
  pub form : Form m.variables ts clauses
  pub taken : TakesAll m clauses m'
  pub count : k ≡ length clauses

before : (size : ℕ) (m : Machine) (ts : List Placed) (k : ℕ) (m' : Machine) → run size (on (begun m)) ts ≡ accepted k m' → Whole m ts k m'
unfolding run step step_on step_before head finish finish_on
before size m [] k m' e = not_both _ k m' e
before size m ((p, comment) ∷ ts) k m' e =
    let r = before size m ts k m' e in
    record { clauses = r.clauses; form = remark m.variables p ts r.clauses r.form; taken = r.taken; count = r.count }
before size m ((p, line_end) ∷ ts) k m' e =
    let r = before size m ts k m' e in
    record { clauses = r.clauses; form = empty_line m.variables p ts r.clauses r.form; taken = r.taken; count = r.count }
before size m ((p, number t) ∷ ts) k m' e = not_both _ k m' e
before size m ((p, no_number) ∷ ts) k m' e = not_both _ k m' e
before size m ((p, problem) ∷ ts) k m' e = look (counts (spellings p.1)) refl e
  where
    fits : (v c : ℕ) (b : Bool) → eqb v m.variables ≡ b → counts (spellings p.1) ≡ Some (record { variables = v; clauses = c }) → run size (cond b (on (st c m 0 [])) (stop (variables_fault p.0))) ts ≡ accepted k m' → Whole m ((p, problem) ∷ ts) k m'
    fits v c true t n q =
        let r = after size c m 0 [] ts k m' q in
        let z : c ≡ length r.clauses = omega (arith, r.told) in
        let y : counts (spellings p.1) ≡ Some (record { variables = m.variables; clauses = length r.clauses }) = n ∙ (ap (λ (x : ℕ). Some (record { variables = x; clauses = c })) (eqb-true v m.variables t) ∙ ap (λ (x : ℕ). Some (record { variables = m.variables; clauses = x })) z) in
        record { clauses = r.clauses; form = headed m.variables p ts r.clauses y r.spelled; taken = r.taken; count = omega (arith, r.count) }
    fits v c false t n q = not_both _ k m' q

    look : (o : Option ProblemLine) → counts (spellings p.1) ≡ o → run size (head (begun m) p.0 o) ts ≡ accepted k m' → Whole m ((p, problem) ∷ ts) k m'
    look None n q = not_both _ k m' q
    look (Some line) n q = fits line.variables line.clauses (eqb line.variables m.variables) refl n q

pub there : (m : Machine) (text : List ℕ) (k : ℕ) (m' : Machine) → reading m text ≡ accepted k m' → Accepts m text k m'
unfolding reading
there m text k m' e = look (eqb m.variables 0) refl e
  where
    look : (b : Bool) → eqb m.variables 0 ≡ b → cond b (faulty (file_fault 0 NotStarted)) (run (length text) (on (begun m)) (tokens text)) ≡ accepted k m' → Accepts m text k m'
    look true t q = not_both _ k m' q
    look false t q =
        let r = before (length text) m (tokens text) k m' q in
        let ne : m.variables ≢ 0 = eqb-false m.variables 0 t in
        record { clauses = r.clauses; started = omega arith; form = r.form; taken = r.taken; count = r.count }

after_back : (size c : ℕ) (m : Machine) (d : ℕ) (h : List ℤ) (ts : List Placed) (cs : List (List ℤ)) (m' : Machine) → Clauses h ts cs → TakesAll m cs m' → c ≡ d + length cs → run size (on (st c m d h)) ts ≡ accepted c m'
unfolding run step step_on step_after took enter_hand finish finish_on
after_back size c m d h ts cs m' all t e =
    let z : c ≡ d = omega arith in
    rw (eq-eqb d c (sym z)) (ap (λ x. accepted x m) (sym z) ∙ ap (accepted c) t)
after_back size c m d h' ts' cs' m' (new_line h p ts cs r) k e = after_back size c m d h ts cs m' r k e
after_back size c m d h' ts' cs' m' (literal h p t ts cs z r) k e =
    ap (λ (s : Step). run size s ts) (holds_literal (st c m d h) p.0 t z) ∙ after_back size c m d (h ++ (t ∷ [])) ts cs m' r k e
after_back size c m d h' ts' cs' m' (ended h p ts cs r) k e =
    ap (λ (o : Option Decline). run size (enter_hand (st c m d h) p.0 o) ts) k.0 ∙ after_back size c (entered m h) (suc d) [] ts cs m' r k.1 (omega arith)

before_back : (size : ℕ) (m : Machine) (n : ℕ) (ts : List Placed) (cs : List (List ℤ)) (m' : Machine) → Form n ts cs → m.variables ≡ n → TakesAll m cs m' → run size (on (begun m)) ts ≡ accepted (length cs) m'
unfolding run step step_on step_before head
before_back size m n' ts' cs' m' (remark n p ts cs r) e k = before_back size m n ts cs m' r e k
before_back size m n' ts' cs' m' (empty_line n p ts cs r) e k = before_back size m n ts cs m' r e k
before_back size m n' ts' cs' m' (headed n p ts cs q r) e k =
    ap (λ (o : Option ProblemLine). run size (head (begun m) p.0 o) ts) q ∙ rw (eq-eqb n m.variables (sym e)) (after_back size (length cs) m 0 [] ts cs m' r k (omega arith))

pub back : (m : Machine) (text : List ℕ) (k : ℕ) (m' : Machine) → Accepts m text k m' → reading m text ≡ accepted k m'
unfolding reading
back m text k m' a =
    rw (ne_eqb m.variables 0 (λ e. omega (arith, a.started))) (before_back (length text) m m.variables (tokens text) a.clauses m' a.form refl a.taken ∙ ap (λ x. accepted x m') (sym a.count))
