-- The scan with one clause more.
use Rattle.std.proofs.Common.{◌≡◌, ℕ, suc, ◌+◌, ◌≤◌, ◌≢◌, List, [], ◌∷◌, ◌++◌, length, sym, ap, ◌∙◌, subst, append_assoc, append-nil, arith, length-append}
use Rattle.model.specs.Clauses.{Clause, Each}
use Rattle.model.specs.Search.{Setting, value, AllFalse, UnitOn, SomeUnit, SomeTrue, First, here, later, NoneOf, Undecided}
use Rattle.clauses.specs.declared.Literal.{Literal}
use Rattle.clauses.specs.Sets.{code}
use Rattle.scan.specs.declared.Test.{Test}
use Rattle.scan.specs.declared.Test.TheVariants.{AllFalse as all_false, Unit as unit, SomeTrue as some_true, Open as neither}
use Rattle.scan.specs.declared.Scan.{Scan}
use Rattle.scan.specs.declared.Scan.TheVariants.{Conflict, Forced, Satisfied, Undecided as undecided}
use Rattle.scan.specs.Tests.{Tested, SomeUnset, Scanned, added}

pub each_push : {A : Type 0} (P : A → Type 0) (xs : List A) (x : A) → Each P xs → P x → Each P (xs ++ x ∷ [])
each_push P [] x h k = (k, tt)
each_push P (y ∷ xs) x (a, h) k = (a, each_push P xs x h k)

pub each_last : {A : Type 0} (P : A → Type 0) (xs : List A) (x : A) → Each P (xs ++ x ∷ []) → P x
each_last P [] x (a, h) = a
each_last P (y ∷ xs) x (a, h) = each_last P xs x h

pub each_front : {A : Type 0} (P : A → Type 0) (xs : List A) (x : A) → Each P (xs ++ x ∷ []) → Each P xs
each_front P [] x h = tt
each_front P (y ∷ xs) x (a, h) = (a, each_front P xs x h)

pub each_weaker : {A : Type 0} (P Q : A → Type 0) → ((x : A) → P x → Q x) → (xs : List A) → Each P xs → Each Q xs
each_weaker P Q f [] h = tt
each_weaker P Q f (x ∷ xs) (a, h) = (f x a, each_weaker P Q f xs h)

pub first_more : (P : Clause → Type 0) {F : List Clause} {k : ℕ} {C : Clause} (G : List Clause) → First P F k C → First P (F ++ G) k C
first_more P G (here h) = here h
first_more P G (later n h) = later n (first_more P G h)

pub first_last : (P : Clause → Type 0) (F : List Clause) (C : Clause) → NoneOf P F → P C → First P (F ++ C ∷ []) (length F + 1) C
first_last P [] C n h = here h
first_last P (D ∷ F) C (m, n) h =
    let e : suc (length F + 1) ≡ suc (length F) + 1 = omega arith in
    subst (λ (k : ℕ). First P (D ∷ (F ++ C ∷ [])) k C) e (later m (first_last P F C n h))

module _ (σ : Setting) where
  pub true_not_false : (C : Clause) → SomeTrue σ C → AllFalse σ C → ⊥
  true_not_false C (t, m, e) f = omega (arith, f t m, e)

  pub true_not_unit : (C : Clause) → SomeTrue σ C → SomeUnit σ C → ⊥
  true_not_unit C (t, m, e) (u, (k, v, f)) =
      let z : t ≢ u = λ q. omega (arith, ap (value σ) q, e, v) in omega (arith, f t m z, e)

  pub unset_not_false : (C : Clause) → SomeUnset σ C → AllFalse σ C → ⊥
  unset_not_false C (t, m, e) f = omega (arith, f t m, e)

  module _ (F : List Clause) (C : Clause) where
    clash : (k : ℕ) → k ≡ length F + 1 → NoneOf (AllFalse σ) F → AllFalse σ C → Scanned σ (F ++ C ∷ []) (Conflict k)
    clash k e n h = (C, subst (λ (j : ℕ). First (AllFalse σ) (F ++ C ∷ []) j C) (sym e) (first_last (AllFalse σ) F C n h))

    still : (j : ℕ) (t : Literal) → (AllFalse σ C → ⊥) → Scanned σ F (Forced j t) → Scanned σ (F ++ C ∷ []) (Forced j t)
    still j t n (a, (D, (f, u))) = (each_push (λ D. AllFalse σ D → ⊥) F C a n, (D, (first_more (SomeUnit σ) (C ∷ []) f, u)))

    force : (k : ℕ) (u : Literal) → k ≡ length F + 1 → NoneOf (AllFalse σ) F → NoneOf (SomeUnit σ) F → UnitOn σ (code u) C → Scanned σ (F ++ C ∷ []) (Forced k u)
    force k u e a b h = (
      each_push (λ D. AllFalse σ D → ⊥) F C a (unset_not_false C (code u, h.0, h.1)),
      (C, (subst (λ (j : ℕ). First (SomeUnit σ) (F ++ C ∷ []) j C) (sym e) (first_last (SomeUnit σ) F C b (code u, h)), h)),
    )

    sat_units : Each (SomeTrue σ) F → NoneOf (SomeUnit σ) F
    sat_units h = each_weaker (SomeTrue σ) (λ D. SomeUnit σ D → ⊥) true_not_unit F h

    sat_false : Each (SomeTrue σ) F → NoneOf (AllFalse σ) F
    sat_false h = each_weaker (SomeTrue σ) (λ D. AllFalse σ D → ⊥) true_not_false F h

    -- neither false nor a unit, and not every clause true
    pends : NoneOf (AllFalse σ) F → NoneOf (SomeUnit σ) F → (AllFalse σ C → ⊥) → (SomeUnit σ C → ⊥) → (Each (SomeTrue σ) (F ++ C ∷ []) → ⊥) → Undecided σ (F ++ C ∷ [])
    pends a b n m u = record { no_conflict = each_push (λ D. AllFalse σ D → ⊥) F C a n; no_unit = each_push (λ D. SomeUnit σ D → ⊥) F C b m; unfinished = u }

    pub added_scanned : (k : ℕ) (s : Scan) (r : Test) → k ≡ length F + 1 → Tested σ C r → Scanned σ F s → Scanned σ (F ++ C ∷ []) (added s k r)
    added_scanned k (Conflict j) r e t (D, h) = (D, first_more (AllFalse σ) (C ∷ []) h)
    added_scanned k (Forced j u) all_false e t h = clash k e h.0 t
    added_scanned k (Forced j u) (unit w) e t h = still j u (unset_not_false C (code w, t.0, t.1)) h
    added_scanned k (Forced j u) some_true e t h = still j u (true_not_false C t) h
    added_scanned k (Forced j u) neither e t h = still j u (unset_not_false C t.0) h
    added_scanned k Satisfied all_false e t h = clash k e (sat_false h) t
    added_scanned k Satisfied (unit u) e t h = force k u e (sat_false h) (sat_units h) t
    added_scanned k Satisfied some_true e t h = each_push (SomeTrue σ) F C h t
    added_scanned k Satisfied neither e t h = pends (sat_false h) (sat_units h) (unset_not_false C t.0) t.2 (λ a. t.1 (each_last (SomeTrue σ) F C a))
    added_scanned k undecided all_false e t h = clash k e h.no_conflict t
    added_scanned k undecided (unit u) e t h = force k u e h.no_conflict h.no_unit t
    added_scanned k undecided some_true e t h = pends h.no_conflict h.no_unit (true_not_false C t) (true_not_unit C t) (λ a. h.unfinished (each_front (SomeTrue σ) F C a))
    added_scanned k undecided neither e t h = pends h.no_conflict h.no_unit (unset_not_false C t.0) t.2 (λ a. h.unfinished (each_front (SomeTrue σ) F C a))

  -- a clause that is false stays the first, whatever follows
  pub conflict_more : (F G : List Clause) (k : ℕ) → Scanned σ F (Conflict k) → Scanned σ (F ++ G) (Conflict k)
  conflict_more F G k (D, h) = (D, first_more (AllFalse σ) G h)

-- the clauses of F before the one numbered k are scanned, and these are left
pub record UpTo (σ : Setting) (F : List Clause) (k : ℕ) (left : List Clause) (s : Scan) : Type 0 where
  pub done : List Clause
  pub whole : F ≡ done ++ left
  pub count : k ≡ length done + 1
  pub scanned : Scanned σ done s

module _ (σ : Setting) (F : List Clause) where
  pub up_to_start : (k : ℕ) (left : List Clause) → k ≡ 1 → left ≡ F → UpTo σ F k left Satisfied
  up_to_start k left q e = record { done = []; whole = sym e; count = q; scanned = tt }

  pub up_to_more : (k j n : ℕ) (C : Clause) (left rest : List Clause) (s s' : Scan) (r : Test) → UpTo σ F k left s → left ≡ C ∷ rest → n ≡ k → j ≡ n + 1 → Tested σ C r → s' ≡ added s n r → UpTo σ F j rest s'
  up_to_more k j n C left rest s s' r u e p q t f = record {
    done = u.done ++ (C ∷ []);
    whole = u.whole ∙ (ap (λ xs. u.done ++ xs) e ∙ sym (append_assoc u.done (C ∷ []) rest));
    count = omega (arith, length-append u.done (C ∷ []), u.count);
    scanned = subst (λ (x : Scan). Scanned σ (u.done ++ (C ∷ [])) x) (sym f) (added_scanned σ u.done C n s r (omega (arith, u.count)) t u.scanned);
  }

  pub up_to_end : (k : ℕ) (left : List Clause) (s : Scan) → UpTo σ F k left s → left ≡ [] → Scanned σ F s
  up_to_end k left s u e = subst (λ (G : List Clause). Scanned σ G s) (sym (u.whole ∙ (ap (λ xs. u.done ++ xs) e ∙ append-nil u.done))) u.scanned

  pub up_to_conflict : (k n : ℕ) (left : List Clause) (s : Scan) → UpTo σ F k left s → s ≡ Conflict n → Scanned σ F s
  up_to_conflict k n left s u e =
      let h = conflict_more σ u.done left n (subst (λ (x : Scan). Scanned σ u.done x) e u.scanned) in
      subst (λ (x : Scan). Scanned σ F x) (sym e) (subst (λ (G : List Clause). Scanned σ G (Conflict n)) (sym u.whole) h)

  pub up_to_low : (k : ℕ) (left : List Clause) (s : Scan) → UpTo σ F k left s → k ≤ length F + 1
  up_to_low k left s u = omega (arith, u.count, ap length u.whole, length-append u.done left)
