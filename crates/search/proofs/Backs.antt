-- A failing clause past one literal, as the relation of the search has it.
use Rattle.std.proofs.Common.{◌≡◌, ℕ, suc, min, List, [], ◌∷◌, ◌++◌, length, ℤ, Some, Ok, Err, sym, ap, ◌∙◌, subst, ⊎_elim, append-nil, arith}
use Rattle.std.proofs.lemmas.Bool.{false≢true}
use Rattle.model.specs.declared.Step.{Step}
use Rattle.model.specs.declared.Reference.{Reference}
use Rattle.model.specs.declared.Reference.TheVariants.{S}
use Rattle.model.specs.declared.Decline.{Decline}
use Rattle.model.specs.declared.Decline.TheVariants.{RecordFull}
use Rattle.model.specs.Clauses.{Clause, opposite, ◌∈◌}
use Rattle.model.specs.Search.{Outcome, fails, made, step_ref, Back, passes, joins}
use Rattle.model.specs.Settling.{RecordMeaning, noted}
use Rattle.model.proofs.Total.{joined_exists}
use Rattle.clauses.specs.Sets.{Holds}
use Rattle.clauses.proofs.Members.{holds_joined}
use Rattle.search.specs.declared.Frame.{Frame}
use Rattle.search.specs.States.{Run, Logged, Passes, Joins, Past}
use Rattle.search.proofs.Logs.{logged_more, logged_full}

-- the failing clause on the other side of the literal, after xs and the steps us
pub record Came (run : Run) (t : ℤ) (setter : Reference) (C : Clause) (by : Reference) (D : Clause) (xs : List Step) (f' : Frame) (count' : ℕ) (rec' : RecordMeaning) : Type 0 where
  pub us : List Step
  pub E : Clause
  pub back : Back t setter C (length xs) (fails by D) us (fails f'.by E)
  pub holds : Holds f'.clause E
  pub logged : Logged run rec' count' (xs ++ us)

-- the step that the record refuses
pub record Refused (run : Run) (t : ℤ) (setter : Reference) (C : Clause) (by : Reference) (D : Clause) (xs : List Step) (rec' : RecordMeaning) (d : Decline) : Type 0 where
  pub s : Step
  pub out : Outcome
  pub back : Back t setter C (length xs) (fails by D) (s ∷ []) out
  pub noted_is : rec' ≡ noted run.before xs
  pub room_is : run.before.room ≡ Some (length xs)
  pub full : d ≡ RecordFull

module _ (run : Run) (t : ℤ) (setter f : Frame) (C D : Clause) (xs : List Step) (count : ℕ) (rec : RecordMeaning) (f' : Frame) (count' : ℕ) (rec' : RecordMeaning)
    (hs : Holds setter.clause C) (hf : Holds f.clause D) (in_setter : t ∈ C) (l : Logged run rec count xs) where
  passed : Passes t f count rec f' count' rec' → Came run t setter.by C f.by D xs f' count' rec'
  passed p =
      let lacks : opposite t ∈ D → ⊥ = λ h. false≢true (sym p.0 ∙ (hf (opposite t)).0 h) in
      let back = subst (λ (r : Reference). Back t setter.by C (length xs) (fails f.by D) [] (fails r D)) (sym (ap (λ (x : Frame). x.by) p.1)) (passes lacks) in
      let log : Logged run rec' count' xs = subst (λ (r : RecordMeaning). Logged run r count' xs) (sym p.3) (subst (λ (k : ℕ). Logged run rec k xs) (sym p.2) l) in
      record {
        us = [];
        E = D;
        back = back;
        holds = subst (λ (x : Frame). Holds x.clause D) (sym p.1) hf;
        logged = subst (λ (ys : List Step). Logged run rec' count' ys) (sym (append-nil xs)) log;
      }

  joined : Joins t setter f count rec f' count' rec' → Came run t setter.by C f.by D xs f' count' rec'
  joined j =
      let s : Step = made t setter.by f.by in
      let x = joined_exists t C D in_setter ((hf (opposite t)).1 j.speaks) in
      let n : count' ≡ min (suc (length xs)) 4294967295 = let a = j.count_is in let b = l.count_is in omega arith in
      let by : f'.by ≡ step_ref (suc (length xs)) = j.by_is ∙ ap S n in
      record {
        us = s ∷ [];
        E = x.0;
        back = subst (λ (r : Reference). Back t setter.by C (length xs) (fails f.by D) (s ∷ []) (fails r x.0)) (sym by) (joins x.1);
        holds = holds_joined setter.clause f.clause f'.clause t C D x.0 hs hf j.clause_is x.1;
        logged = logged_more run rec rec' count count' xs s l j.puts j.count_is;
      }

  pub came : Past t setter f count rec f' count' rec' (Ok tt) → Came run t setter.by C f.by D xs f' count' rec'
  came p = ⊎_elim passed joined p

  pub refused : (d : Decline) → Past t setter f count rec f' count' rec' (Err d) → Refused run t setter.by C f.by D xs rec' d
  refused d p =
      let s : Step = made t setter.by f.by in
      let x = joined_exists t C D in_setter ((hf (opposite t)).1 p.0) in
      let q = logged_full run rec rec' count xs s d l p.1 in
      record { s = s; out = fails (step_ref (suc (length xs))) x.0; back = joins x.1; noted_is = q.0; room_is = q.1; full = q.2 }
