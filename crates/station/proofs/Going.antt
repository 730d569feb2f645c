-- One turn of reading a text into a file: where reading stands, as the code has it, and what each number does to it.
use Rattle.std.proofs.Common.{◌≡◌, ℕ, suc, ◌+◌, ◌<◌, ◌≢◌, List, [], ◌∷◌, ◌++◌, length, ℤ, pos, Some, None, Ok, Err, Option, Result, sym, refl, ap, ◌∙◌, subst, arith}
use Rattle.std.specs.Option.{ok_or}
use Rattle.std.specs.Result.{IsErrAnd}
use Rattle.std.proofs.lemmas.Result.{err_from_is_err_and}
use Rattle.model.specs.declared.Decline.{Decline}
use Rattle.model.specs.declared.ReadFault.{ReadFault}
use Rattle.model.specs.declared.ReadFault.TheVariants.{InText}
use Rattle.model.specs.declared.TextFault.{TextFault}
use Rattle.model.specs.declared.TextFault.TheVariants.{Problem}
use Rattle.model.specs.Faults.{file_fault}
use Rattle.model.specs.Words.{Placed, tokens}
use Rattle.model.specs.Machine.{Machine}
use Rattle.model.specs.Reading.{Reading, State, Step, on, stop, accepted, faulty, headed, took, holding, run, begun, reading}
use Rattle.texts.specs.declared.Numeral.{Numeral}
use Rattle.texts.specs.Steps.{Before, After, Takes, Heading, Counting}
use Rattle.texts.proofs.Course.{started, stopped, run_takes, run_ends, fewer, holds_literal, declines_hand, enters_hand, no_problem_line}
use Rattle.station.specs.declared.Counts.{Counts}
use Rattle.station.specs.declared.Hand.{Hand}
use Rattle.station.specs.declared.Tables.{Tables}
use Rattle.station.specs.Tables.{Sound}
use Rattle.station.specs.Views.{machine_in}
use Rattle.station.specs.Hands.{Holds, Fronts, Added, Refused}
use Rattle.station.specs.Readings.{stands, ending, Ended, ReadInto}
use Rattle.station.proofs.Fronts.{fronts_none, fronts_more, left_sound, left_machine}

-- some literals are in hand, and going on from here answers what the whole text does
pub record Going (n : ℕ) (text : List ℕ) (t₀ : Tables) (saved : Counts) (tables : Tables) (k : Counts) (c done : ℕ) (h : Hand) (rest : List Placed) : Type 0 where
  pub ts : List ℤ
  pub holds : Holds n h ts
  pub sound : Sound n tables k
  pub fronts : Fronts saved t₀ tables k
  pub count : k.clauses ≡ saved.clauses + done
  pub goes : (number : ℕ) (trials : List ℕ) → run (length text) (on (stands c (machine_in n number tables k trials) done ts)) rest ≡ reading (machine_in n number t₀ saved trials) text

-- the problem line
module _ (n : ℕ) (text : List ℕ) (tables : Tables) (k : Counts) (some : n ≢ 0) (ts left : List Placed) (all : ts ≡ tokens text) where
  whole : (number : ℕ) (trials : List ℕ) → run (length text) (on (begun (machine_in n number tables k trials))) ts ≡ reading (machine_in n number tables k trials) text
  unfolding machine_in
  whole number trials = ap (run (length text) (on (begun (machine_in n number tables k trials)))) all ∙ started (machine_in n number tables k trials) text some

  first : (number : ℕ) (trials : List ℕ) → Before n (begun (machine_in n number tables k trials))
  unfolding machine_in
  first number trials = record { none = refl; size = refl }

  pub heading_fault : (e : TextFault) → ((s : State) → Before n s → Heading s ts left (Err e)) → (number : ℕ) (trials : List ℕ) → reading (machine_in n number tables k trials) text ≡ faulty (InText e)
  heading_fault e w number trials =
      let s = begun (machine_in n number tables k trials) in
      sym (whole number trials) ∙ (run_takes (length text) s ts left (stop (InText e)) (w s (first number trials)) ∙ stopped (length text) (InText e) left)

  module _ (o : Option ℕ) (w : (s : State) → Before n s → Heading s ts left (Ok o)) where
    then_as : (o' : Option ℕ) → o ≡ o' → (s : State) → Before n s → Heading s ts left (Ok o')
    then_as o' e = let P : Option ℕ → Type 0 = λ x. (s : State) → Before n s → Heading s ts left (Ok x) in subst P e w

    none_there : (e f : TextFault) → Err f ≡ ok_or o e → (o ≡ None) × (e ≡ f)
    none_there e f = look o refl
      where
        look : (x : Option ℕ) → o ≡ x → Err f ≡ ok_or x e → (o ≡ None) × (e ≡ f)
        look None q p = (q, cc)
        look (Some y) q p = absurd (let z : ◌≡◌ {A = ℕ} 0 1 = cc in omega arith)

    pub heading_none : (e : TextFault) → Err e ≡ ok_or o (Problem (length text)) → (number : ℕ) (trials : List ℕ) → reading (machine_in n number tables k trials) text ≡ faulty (InText e)
    heading_none e p number trials =
        let s = begun (machine_in n number tables k trials) in
        let a = none_there (Problem (length text)) e p in
        sym (whole number trials) ∙ (run_ends (length text) s ts left (then_as None a.0 s (first number trials)) ∙ (no_problem_line (length text) s refl ∙ ap (λ x. faulty (InText x)) a.1))

    pub heading_on : (c : ℕ) → o ≡ Some c → Sound n tables k → (h : Hand) → Holds n h [] → Going n text tables k tables k c 0 h left
    heading_on c e s h g = record {
      ts = [];
      holds = g;
      sound = s;
      fronts = fronts_none k tables;
      count = omega arith;
      goes = λ number trials.
          let b = begun (machine_in n number tables k trials) in
          sym (run_takes (length text) b ts left (on (headed b c)) (then_as (Some c) e b (first number trials))) ∙ whole number trials;
    }

-- the numbers after it
module _ (n : ℕ) (text : List ℕ) (t₀ : Tables) (saved : Counts) (tables : Tables) (k : Counts) (c done : ℕ) (h : Hand) (rest : List Placed) (g : Going n text t₀ saved tables k c done h rest) (left : List Placed) where
  abbrev here : ℕ → List ℕ → State
  here number trials = stands c (machine_in n number tables k trials) done g.ts

  pub number_fault : (e : TextFault) → ((s : State) → After s → Counting s rest left (Err e)) → (number : ℕ) (trials : List ℕ) → reading (machine_in n number t₀ saved trials) text ≡ faulty (InText e)
  number_fault e w number trials =
      let s = here number trials in
      sym (g.goes number trials) ∙ (run_takes (length text) s rest left (stop (InText e)) (w s (c, refl)) ∙ stopped (length text) (InText e) left)

  module _ (o : Option Numeral) (w : (s : State) → After s → Counting s rest left (Ok o)) where
    next_as : (o' : Option Numeral) → o ≡ o' → (s : State) → After s → Counting s rest left (Ok o')
    next_as o' e = let P : Option Numeral → Type 0 = λ x. (s : State) → After s → Counting s rest left (Ok x) in subst P e w

    pub at_end : o ≡ None → (r : Result (Unit {0}) TextFault) → Ended c done h (length text) r → (number : ℕ) (trials : List ℕ) → reading (machine_in n number t₀ saved trials) text ≡ ending (here number trials) r
    at_end e r d number trials =
        let s = here number trials in
        sym (g.goes number trials) ∙ (run_ends (length text) s rest left (next_as None e s (c, refl)) ∙ d n (machine_in n number tables k trials) g.ts g.holds)

    module _ (t : Numeral) (e : o ≡ Some t) where
      taken : (s : State) → After s → Takes s rest left (took s t.place t.value)
      taken = next_as (Some t) e

      pub shorter : length left < length rest
      shorter = let s = here 0 [] in fewer s rest left (took s t.place t.value) (taken s (c, refl))

      goes_on : (number : ℕ) (trials : List ℕ) (st : Step) → took (here number trials) t.place t.value ≡ st → run (length text) st left ≡ reading (machine_in n number t₀ saved trials) text
      goes_on number trials st q =
          let s = here number trials in
          sym (run_takes (length text) s rest left (took s t.place t.value) (taken s (c, refl)) ∙ ap (λ (x : Step). run (length text) x left) q) ∙ g.goes number trials

      pub zero_refused : t.value ≡ pos 0 → (d : Decline) (tables' : Tables) → Refused n tables k g.ts tables' d → (number : ℕ) (trials : List ℕ) → reading (machine_in n number t₀ saved trials) text ≡ faulty (file_fault t.place d)
      zero_refused z d tables' r number trials =
          let s = here number trials in
          let e = declines_hand s t.place t.value z d (r.refused number trials) in
          sym (goes_on number trials (stop (file_fault t.place d)) e) ∙ stopped (length text) (file_fault t.place d) left

      pub zero_added : t.value ≡ pos 0 → (tables' : Tables) (k' : Counts) → Added n tables k g.ts tables' k' → (h' : Hand) → Holds n h' [] → Going n text t₀ saved tables' k' c (done + 1) h' left
      zero_added z tables' k' a h' b = record {
        ts = [];
        holds = b;
        sound = a.sound;
        fronts = fronts_more saved k k' t₀ tables tables' g.fronts a.fronts;
        count = omega (arith, g.count, a.one);
        goes = λ number trials.
            let s = here number trials in
            let y : done + 1 ≡ suc done = omega arith in
            let q = enters_hand s t.place t.value z (a.allowed number trials) in
            ap (λ (v : ℕ). run (length text) (on (stands c (machine_in n number tables' k' trials) v [])) left) y
            ∙ (ap (λ (m : Machine). run (length text) (on (stands c m (suc done) [])) left) (a.now_in number trials) ∙ goes_on number trials _ q);
      }

      pub literal_held : t.value ≢ pos 0 → (h' : Hand) → Holds n h' (g.ts ++ (t.value ∷ [])) → Going n text t₀ saved tables k c done h' left
      literal_held z h' b = record {
        ts = g.ts ++ (t.value ∷ []);
        holds = b;
        sound = g.sound;
        fronts = g.fronts;
        count = g.count;
        goes = λ number trials. let s = here number trials in goes_on number trials (on (holding s t.value)) (holds_literal s t.place t.value z);
      }

-- a text that was accepted leaves the counts as they are

pub done_sound : (n : ℕ) (tables : Tables) (k k' : Counts) → Sound n tables k → k' ≡ k → Sound n tables k'
done_sound n tables k k' s e = let P : Counts → Type 0 = λ z. Sound n tables z in subst P (sym e) s

pub done_all : (n : ℕ) (tables : Tables) (k k' : Counts) (done : ℕ) (whole : ℕ → List ℕ → Reading) → ((number : ℕ) (trials : List ℕ) → whole number trials ≡ accepted done (machine_in n number tables k trials)) → k' ≡ k → (number : ℕ) (trials : List ℕ) → whole number trials ≡ accepted done (machine_in n number tables k' trials)
done_all n tables k k' done whole w e number trials = w number trials ∙ ap (λ (z : Counts). accepted done (machine_in n number tables z trials)) (sym e)

-- at a fault the counts are put back, and what stood stands
module _ (n : ℕ) (t₀ : Tables) (saved : Counts) (tables : Tables) (k : Counts) (s : Sound n t₀ saved) (s' : Sound n tables k) (f : Fronts saved t₀ tables k) where
  pub undone : (text : List ℕ) (x : ReadFault) → ((number : ℕ) (trials : List ℕ) → reading (machine_in n number t₀ saved trials) text ≡ faulty x) → (k' : Counts) → k' ≡ saved → (r : Result ℕ ReadFault) → IsErrAnd r (λ y. y ≡ x) → Sound n tables k' × ReadInto n t₀ saved text tables k' r
  undone text x w k' e r h =
      let p = err_from_is_err_and r h in (
        done_sound n tables saved k' (left_sound n t₀ tables saved k s s' f) e,
        rw (p.1, p.2) (λ number trials. (w number trials, ap (λ (z : Counts). machine_in n number tables z trials) e ∙ left_machine n t₀ tables saved k s s' f number trials)),
      )
