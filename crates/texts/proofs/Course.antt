-- The course of a reading, for what enters the clauses: one equation, `run size (on state) (tokens left) ≡ the answer`, is carried along.
use Rattle.std.proofs.Common.{◌≡◌, ℕ, zero, suc, ◌<◌, ◌≢◌, List, [], ◌∷◌, ◌++◌, length, ℤ, pos, negsuc, Some, None, Option, sym, refl, ap, ◌∙◌, arith}
use Rattle.std.proofs.lemmas.Bool.{eq-eqb, ne_eqb}
use Rattle.std.proofs.lemmas.List.{length-append}
use Rattle.model.specs.declared.Decline.{Decline}
use Rattle.model.specs.declared.Decline.TheVariants.{NotStarted}
use Rattle.model.specs.declared.ReadFault.{ReadFault}
use Rattle.model.specs.Faults.{problem_fault, clauses_fault, file_fault}
use Rattle.model.specs.Words.{Placed, tokens}
use Rattle.model.specs.Machine.{Machine, enter_refusal, entered}
use Rattle.model.specs.Reading.{State, Step, on, stop, accepted, faulty, holding, enter_hand, took, finish_on, finish, run, begun, reading}
use Rattle.texts.specs.Steps.{Idle, Takes, Ends}

-- the start

pub not_started : (m : Machine) (text : List ℕ) → m.variables ≡ 0 → reading m text ≡ faulty (file_fault 0 NotStarted)
unfolding reading
not_started m text e = rw (eq-eqb m.variables 0 e)

pub started : (m : Machine) (text : List ℕ) → m.variables ≢ 0 → run (length text) (on (begun m)) (tokens text) ≡ reading m text
unfolding reading
started m text h = rw (ne_eqb m.variables 0 h)

-- from token to token

pub stopped : (size : ℕ) (f : ReadFault) (ts : List Placed) → run size (stop f) ts ≡ faulty f
unfolding run
stopped size f ts = refl

pub run_idle : (size : ℕ) (s : State) (idle left : List Placed) → Idle s idle → run size (on s) (idle ++ left) ≡ run size (on s) left
unfolding run
run_idle size s [] left h = refl
run_idle size s (t ∷ idle) left h = ap (λ (x : Step). run size x (idle ++ left)) h.0 ∙ run_idle size s idle left h.1

module _ (size : ℕ) (s : State) (ts left : List Placed) where
  pub run_takes : (st : Step) → Takes s ts left st → run size (on s) ts ≡ run size st left
  unfolding run
  run_takes st k =
      ap (run size (on s)) k.tokens ∙ (run_idle size s k.idle (k.token ∷ left) k.passed ∙ ap (λ (x : Step). run size x left) k.stepped)

  pub run_ends : Ends s ts left → run size (on s) ts ≡ finish size s
  unfolding run
  run_ends e = ap (run size (on s)) (sym (append_none ts)) ∙ run_idle size s ts [] e.0
    where
      append_none : (us : List Placed) → us ++ [] ≡ us
      append_none [] = refl
      append_none (u ∷ us) = ap (λ z. u ∷ z) (append_none us)

pub fewer : (s : State) (ts left : List Placed) (st : Step) → Takes s ts left st → length left < length ts
fewer s ts left st k = omega (arith, ap length k.tokens, length-append k.idle (k.token ∷ left))

-- a number: 0 ends the clause in hand, any other is held

pub holds_literal : (s : State) (at : ℕ) (t : ℤ) → t ≢ pos 0 → took s at t ≡ on (holding s t)
unfolding took
holds_literal s at (pos zero) h = absurd (h refl)
holds_literal s at (pos (suc k)) h = refl
holds_literal s at (negsuc k) h = refl

module _ (s : State) (at : ℕ) (t : ℤ) (z : t ≡ pos 0) where
  ends_hand : (o : Option Decline) → enter_refusal s.machine s.hand ≡ o → took s at t ≡ enter_hand s at o
  unfolding took
  ends_hand o e = ap (took s at) z ∙ ap (enter_hand s at) e

  pub declines_hand : (d : Decline) → enter_refusal s.machine s.hand ≡ Some d → took s at t ≡ stop (file_fault at d)
  unfolding enter_hand
  declines_hand d e = ends_hand (Some d) e

  pub enters_hand : enter_refusal s.machine s.hand ≡ None → took s at t ≡ on (record { declared = s.declared; machine = entered s.machine s.hand; done = suc s.done; hand = [] })
  unfolding enter_hand
  enters_hand e = ends_hand None e

-- the end

pub no_problem_line : (size : ℕ) (s : State) → s.declared ≡ None → finish size s ≡ faulty (problem_fault size)
unfolding finish finish_on
no_problem_line size s e = rw e

pub ends_inside : (size : ℕ) (s : State) (c : ℕ) → s.declared ≡ Some c → s.hand ≢ [] → finish size s ≡ faulty (clauses_fault size)
unfolding finish finish_on
ends_inside size s c e h = ap (λ (o : Option ℕ). finish_on size o s.hand s) e ∙ look s.hand h
  where
    look : (hand : List ℤ) → hand ≢ [] → finish_on size (Some c) hand s ≡ faulty (clauses_fault size)
    look [] h = absurd (h refl)
    look (t ∷ ts) h = refl

pub other_count : (size : ℕ) (s : State) (c : ℕ) → s.declared ≡ Some c → s.hand ≡ [] → s.done ≢ c → finish size s ≡ faulty (clauses_fault size)
unfolding finish finish_on
other_count size s c e h d = rw (e, h) (rw (ne_eqb s.done c d))

pub ends_well : (size : ℕ) (s : State) (c : ℕ) → s.declared ≡ Some c → s.hand ≡ [] → s.done ≡ c → finish size s ≡ accepted s.done s.machine
unfolding finish finish_on
ends_well size s c e h d = rw (e, h) (rw (eq-eqb s.done c d))
