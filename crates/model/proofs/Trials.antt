-- A trial that is opened and closed leaves the machine as it was, whatever was entered in it.
use Rattle.std.proofs.Common.{◌≡◌, ℕ, ◌+◌, ◌-◌, ◌<◌, List, [], ◌∷◌, ◌++◌, length, get_or, take, ℤ, None, Ok, Err, Result, sym, refl, ap, ◌∙◌, arith}
use Rattle.std.proofs.lemmas.List.{length_push, take_at, append-nil, get_or_push}
use Rattle.model.specs.declared.Decline.{Decline}
use Rattle.model.specs.Clauses.{Clause}
use Rattle.model.specs.Machine.{Machine, filled, merged, Enters, close_refusal, closed}
use Rattle.model.proofs.Calls.{machine_path, close_goes}

-- n is m with clauses added at the end
pub record Longer (m n : Machine) : Type 0 where
  pub extra : List Clause
  pub variables : n.variables ≡ m.variables
  pub number : n.number ≡ m.number
  pub clauses : n.clauses ≡ m.clauses ++ extra
  pub trials : n.trials ≡ m.trials

-- n is m, with these clauses added
longer_by : (m n : Machine) (extra : List Clause) → n ≡ record { variables = m.variables; number = m.number; clauses = m.clauses ++ extra; trials = m.trials } → Longer m n
longer_by m n extra e = record { extra = extra; variables = ap (λ (x : Machine). x.variables) e; number = ap (λ (x : Machine). x.number) e; clauses = ap (λ (x : Machine). x.clauses) e; trials = ap (λ (x : Machine). x.trials) e }

pub same_longer : (m n : Machine) → n ≡ m → Longer m n
same_longer m n e = longer_by m n [] (e ∙ machine_path m _ refl refl (sym (append-nil m.clauses)) refl)

pub entry_longer : (m n : Machine) (ts : List ℤ) (r : Result ℕ Decline) → Enters m ts n r → Longer m n
entry_longer m n ts (Ok k) e = longer_by m n (merged [] ts ∷ []) e.2
entry_longer m n ts (Err d) e = same_longer m n e.1

-- n is the machine in a trial that was opened at m
module _ (m n : Machine) (l : Longer (record { variables = m.variables; number = m.number; clauses = m.clauses; trials = m.trials ++ (length m.clauses ∷ []) }) n) where
  deep : length n.trials ≡ length m.trials + 1
  deep = ap length l.trials ∙ length_push m.trials (length m.clauses)

  pub trial_closes : 0 < m.variables → close_refusal n (filled m.number (length m.trials + 1)) ≡ None
  trial_closes some =
      close_goes n (filled m.number (length m.trials + 1)) (record { some = omega (arith, some, l.variables); is = ap (λ f. filled f (length m.trials + 1)) (sym l.number) ∙ ap (filled n.number) (sym deep) })

  mark : get_or n.trials (length n.trials - 1) 0 ≡ length m.clauses
  mark =
      let e : length n.trials - 1 ≡ length m.trials = omega (arith, deep) in
      ap (λ (ts : List ℕ). get_or ts (length n.trials - 1) 0) l.trials ∙ (ap (λ i. get_or (m.trials ++ (length m.clauses ∷ [])) i 0) e ∙ get_or_push m.trials (length m.clauses) 0 (length m.trials) refl)

  pub trial_leaves : closed n ≡ m
  trial_leaves =
      let e : length n.trials - 1 ≡ length m.trials = omega (arith, deep) in
      machine_path (closed n) m l.variables l.number
      (ap (λ k. take k n.clauses) mark ∙ (ap (take (length m.clauses)) l.clauses ∙ take_at m.clauses l.extra (length m.clauses) refl))
      (ap (λ k. take k n.trials) e ∙ (ap (take (length m.trials)) l.trials ∙ take_at m.trials (length m.clauses ∷ []) (length m.trials) refl))
