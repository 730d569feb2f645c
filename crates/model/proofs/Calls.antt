-- When a call on the machine is refused and when not: the tables of refusals, read both ways.
use Rattle.std.proofs.Common.{◌≡◌, ℕ, ◌+◌, ◌<◌, ◌≤◌, Bool, true, false, cond, not, eqb, List, [], length, ℤ, Some, None, Option, sym, refl, ap₂, arith}
use Rattle.std.proofs.lemmas.Bool.{eq-eqb, ne_eqb, eqb-true, eqb-false, le-ltb, ltb-false, leb-false, lt-leb}
use Rattle.model.specs.declared.Decline.{Decline}
use Rattle.model.specs.Machine.{Machine, SlipState, blank, filled, is_blank, file_of, depth_of, every, names, merged, literals, start_refusal, enter_refusal, open_refusal, close_refusal}

pub machine_path : (a b : Machine) → a.variables ≡ b.variables → a.number ≡ b.number → a.clauses ≡ b.clauses → a.trials ≡ b.trials → a ≡ b
machine_path a b p q r t = λ i. record { variables = p i; number = q i; clauses = r i; trials = t i }

-- the first row does not apply, and the others refuse nothing
row : (b : Bool) (d : Decline) (rest : Option Decline) → cond b (Some d) rest ≡ None → (b ≡ false) × (rest ≡ None)
row true d rest e = absurd (let z : ◌≡◌ {A = ℕ} 0 1 = cc in omega arith)
row false d rest e = (refl, e)

off : (b : Bool) → not b ≡ false → b ≡ true
off true e = refl
off false e = sym e

some_variables : (n : ℕ) → eqb n 0 ≡ false → 0 < n
some_variables n e = let h = eqb-false n 0 e in omega arith

-- start

pub record StartAllowed (m : Machine) (n : ℕ) : Type 0 where
  pub some : 0 < n
  pub few : n ≤ 200
  pub bare : length m.trials ≡ 0

pub start_allowed : (m : Machine) (n : ℕ) → start_refusal m n ≡ None → StartAllowed m n
start_allowed m n e =
    let a = row _ _ _ e in
    let b = row _ _ _ a.1 in
    let c = row _ _ _ b.1 in
    record { some = some_variables n a.0; few = ltb-false 200 n b.0; bare = eqb-true (length m.trials) 0 (off _ c.0) }

-- enter

pub record EnterAllowed (m : Machine) (ts : List ℤ) : Type 0 where
  pub some : 0 < m.variables
  pub named : every (names m.variables) ts ≡ true
  pub short : length (merged [] ts) ≤ 24
  pub few : length m.clauses < 1000
  pub room : literals m.clauses + length (merged [] ts) ≤ 8000

pub enter_allowed : (m : Machine) (ts : List ℤ) → enter_refusal m ts ≡ None → EnterAllowed m ts
enter_allowed m ts e =
    let a = row _ _ _ e in
    let b = row _ _ _ a.1 in
    let c = row _ _ _ b.1 in
    let d = row _ _ _ c.1 in
    let f = row _ _ _ d.1 in
    record { some = some_variables m.variables a.0; named = off _ b.0; short = ltb-false 24 (length (merged [] ts)) c.0; few = leb-false 1000 (length m.clauses) d.0; room = ltb-false 8000 (literals m.clauses + length (merged [] ts)) f.0 }

pub enter_goes : (m : Machine) (ts : List ℤ) → EnterAllowed m ts → enter_refusal m ts ≡ None
enter_goes m ts s =
    rw (ne_eqb m.variables 0 (λ e. omega (arith, s.some)), s.named, le-ltb 24 (length (merged [] ts)) s.short, lt-leb 1000 (length m.clauses) s.few, le-ltb 8000 (literals m.clauses + length (merged [] ts)) s.room)

-- open

pub record OpenAllowed (m : Machine) (s : SlipState) : Type 0 where
  pub some : 0 < m.variables
  pub is : s ≡ blank
  pub few : length m.trials < 8

blank_is : (s : SlipState) → is_blank s ≡ true → s ≡ blank
blank_is blank e = refl
blank_is (filled f d) e = absurd (let z : ◌≡◌ {A = ℕ} 0 1 = cc in omega arith)

pub open_allowed : (m : Machine) (s : SlipState) → open_refusal m s ≡ None → OpenAllowed m s
open_allowed m s e =
    let a = row _ _ _ e in
    let b = row _ _ _ a.1 in
    let c = row _ _ _ b.1 in
    record { some = some_variables m.variables a.0; is = blank_is s (off _ b.0); few = leb-false 8 (length m.trials) c.0 }

-- close

pub record CloseAllowed (m : Machine) (s : SlipState) : Type 0 where
  pub some : 0 < m.variables
  pub is : s ≡ filled m.number (length m.trials)

filled_is : (s : SlipState) (f d : ℕ) → is_blank s ≡ false → file_of s ≡ f → depth_of s ≡ d → s ≡ filled f d
filled_is blank f d e a b = absurd (let z : ◌≡◌ {A = ℕ} 0 1 = cc in omega arith)
filled_is (filled g c) f d e a b = ap₂ filled a b

pub close_allowed : (m : Machine) (s : SlipState) → close_refusal m s ≡ None → CloseAllowed m s
close_allowed m s e =
    let a = row _ _ _ e in
    let b = row _ _ _ a.1 in
    let c = row _ _ _ b.1 in
    let d = row _ _ _ c.1 in
    record { some = some_variables m.variables a.0; is = filled_is s m.number (length m.trials) b.0 (eqb-true _ _ (off _ c.0)) (eqb-true _ _ (off _ d.0)) }

pub close_goes : (m : Machine) (s : SlipState) → CloseAllowed m s → close_refusal m s ≡ None
close_goes m s g =
    rw (g.is, ne_eqb m.variables 0 (λ e. omega (arith, g.some)), eq-eqb m.number m.number refl, eq-eqb (length m.trials) (length m.trials) refl)
