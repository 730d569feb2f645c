-- The search ends. The proof is by tests that compute, so that at clauses that are written out it is the course itself.
use Rattle.std.proofs.Common.{◌≡◌, ℕ, zero, suc, ◌+◌, ◌<◌, ◌≤◌, Bool, true, false, eqb, ◌≢◌, ◌⊎◌, List, [], ◌∷◌, ◌++◌, length, get_or, set, ℤ, pos, negsuc, sym, refl, ◌∙◌, subst, inl, inr, ⊎_elim, arith, eq-eqb, eqb-true}
use borrow.Author.Tests.{clash}
use Rattle.model.specs.Clauses.{Clause, on, off, opposite, variable, ◌∈◌, Member, Each, Within, Over, Resolvent, same}
use Rattle.model.specs.Search.{Setting, entry, value, flipped, make_true, AllFalse, SomeUnit, SomeTrue, First, here, later, NoneOf, Chosen, this, next, Undecided, Reference, R, step_ref, Step, Outcome, fits, fails, made, Joined, Back, passes, joins, Branch, conflict, forced, satisfied, on_ends, then_off}
use Rattle.model.specs.Arguments.{unset, Ends}
use Rattle.model.proofs.Values.{off_two, flipped_two}
use Rattle.model.proofs.Failing.{first_holds, chosen_unset}
use Rattle.model.proofs.Bound.{vacant, vacant_true}
use Rattle.model.proofs.Signs.{same_refl, same_true}
use Rattle.model.proofs.Members.{in_left, in_right, in_either}

-- tests

decided : {A : Type 0} (b : Bool) → (b ≡ true → A) → (A → b ≡ true) → Dec A
decided true f g = yes (f refl)
decided false f g = no (λ a. clash (g a))

number? : (a b : ℕ) → Dec (a ≡ b)
number? a b = decided (eqb a b) (eqb-true a b) (eq-eqb a b)

literal? : (t u : ℤ) → Dec (t ≡ u)
literal? t u = decided (same t u) (same_true t u) (λ e. subst (λ (x : ℤ). same t x ≡ true) e (same_refl t))

dec_each : {A : Type 0} (P : A → Type 0) → ((x : A) → Dec (P x)) → (xs : List A) → Dec ((x : A) → Member x xs → P x)
dec_each P dec [] = yes (λ x h. absurd h)
dec_each {A} P dec (y ∷ ys) = both (dec y) (dec_each P dec ys)
  where
    both : Dec (P y) → Dec ((x : A) → Member x ys → P x) → Dec ((x : A) → Member x (y ∷ ys) → P x)
    both (no n) q = no (λ f. n (f y (inl refl)))
    both (yes p) (no n) = no (λ f. n (λ x h. f x (inr h)))
    both (yes p) (yes q) = yes (λ x h. ⊎_elim (λ (e : x ≡ y). subst P (sym e) p) (λ (m : Member x ys). q x m) h)

dec_some : {A : Type 0} (P : A → Type 0) → ((x : A) → Dec (P x)) → (xs : List A) → Dec ((x : A) × Member x xs × P x)
dec_some P dec [] = no (λ s. s.1)
dec_some {A} P dec (y ∷ ys) = both (dec y) (dec_some P dec ys)
  where
    lower : (P y → ⊥) → ((x : A) × Member x ys × P x → ⊥) → (x : A) → Member x (y ∷ ys) → P x → ⊥
    lower n m x (inl e) p = n (subst P e p)
    lower n m x (inr h) p = m (x, h, p)

    both : Dec (P y) → Dec ((x : A) × Member x ys × P x) → Dec ((x : A) × Member x (y ∷ ys) × P x)
    both (yes p) q = yes (y, inl refl, p)
    both (no n) (yes q) = yes (q.0, inr q.1, q.2)
    both (no n) (no m) = no (λ s. lower n m s.0 s.1 s.2)

all_false? : (σ : Setting) (C : Clause) → Dec (AllFalse σ C)
all_false? σ C = dec_each (λ t. value σ t ≡ 0) (λ t. number? (value σ t) 0) C

some_true? : (σ : Setting) (C : Clause) → Dec (SomeTrue σ C)
some_true? σ C = dec_some (λ t. value σ t ≡ 1) (λ t. number? (value σ t) 1) C

dec-× : {A B : Type 0} → Dec A → Dec B → Dec (A × B)
dec-× (yes a) (yes b) = yes (a, b)
dec-× (yes a) (no b) = no (λ p. b p.1)
dec-× (no a) b = no (λ p. a p.0)

dec-→ : {A B : Type 0} → Dec A → Dec B → Dec (A → B)
dec-→ a (yes b) = yes (λ x. b)
dec-→ (yes a) (no b) = no (λ f. b (f a))
dec-→ (no a) (no b) = yes (λ x. absurd (a x))

dec-¬ : {A : Type 0} → Dec A → Dec (¬ A)
dec-¬ (yes a) = no (λ n. n a)
dec-¬ (no n) = yes n

some_unit? : (σ : Setting) (C : Clause) → Dec (SomeUnit σ C)
some_unit? σ C = again (dec_some Lone lone? C)
  where
    Rest : ℤ → ℤ → Type 0
    Rest t u = u ≢ t → value σ u ≡ 0

    Lone : ℤ → Type 0
    Lone t = (value σ t ≡ 2) × ((u : ℤ) → u ∈ C → u ≢ t → value σ u ≡ 0)

    lone? : (t : ℤ) → Dec (Lone t)
    lone? t = dec-× (number? (value σ t) 2) (dec_each (Rest t) (λ u. dec-→ (dec-¬ (literal? u t)) (number? (value σ u) 0)) C)

    again : Dec ((t : ℤ) × Member t C × Lone t) → Dec (SomeUnit σ C)
    again (yes s) = yes (s.0, (s.1, s.2.0, s.2.1))
    again (no n) = no (λ s. n (s.0, s.1.0, (s.1.1, s.1.2)))

first_or_none : (P : Clause → Type 0) → ((C : Clause) → Dec (P C)) → (F : List Clause) → ((k : ℕ) × (C : Clause) × First P F k C) ⊎ NoneOf P F
first_or_none P dec [] = inr tt
first_or_none P dec (C ∷ F) = at (dec C) (first_or_none P dec F)
  where
    at : Dec (P C) → ((k : ℕ) × (D : Clause) × First P F k D) ⊎ NoneOf P F → ((k : ℕ) × (D : Clause) × First P (C ∷ F) k D) ⊎ NoneOf P (C ∷ F)
    at (yes p) r = inl (1, C, here p)
    at (no n) (inl f) = inl (suc f.0, f.1, later n f.2)
    at (no n) (inr m) = inr (n, m)

pub member? : (t : ℤ) (C : Clause) → Dec (t ∈ C)
member? t [] = no (λ h. h)
member? t (u ∷ C) = at (literal? t u) (member? t C)
  where
    at : Dec (t ≡ u) → Dec (t ∈ C) → Dec (t ∈ (u ∷ C))
    at (yes e) d = yes (inl e)
    at (no n) (yes h) = yes (inr h)
    at (no n) (no m) = no (λ h. ⊎_elim n m h)

pub chosen_or_none : (σ : Setting) (order : List ℕ) → ((k : ℕ) × Chosen σ order k) ⊎ ((k : ℕ) → Member k order → entry σ k ≢ 2)
chosen_or_none σ [] = inr (λ k h e. h)
chosen_or_none σ (j ∷ order) = at (number? (entry σ j) 2) (chosen_or_none σ order)
  where
    at : Dec (entry σ j ≡ 2) → ((k : ℕ) × Chosen σ order k) ⊎ ((k : ℕ) → Member k order → entry σ k ≢ 2)
        → ((k : ℕ) × Chosen σ (j ∷ order) k) ⊎ ((k : ℕ) → Member k (j ∷ order) → entry σ k ≢ 2)
    at (yes e) r = inl (j, this e)
    at (no n) (inl c) = inl (c.0, next n c.1)
    at (no n) (inr m) = inr (λ k h e. ⊎_elim (λ (q : k ≡ j). n (subst (λ (i : ℕ). entry σ i ≡ 2) q e)) (λ (i : Member k order). m k i e) h)

-- resolvents

without : (t : ℤ) (C : Clause) → (E : Clause) × ((u : ℤ) → u ∈ E → (u ∈ C) × (u ≢ t)) × ((u : ℤ) → u ∈ C → u ≢ t → u ∈ E)
without t [] = ([], λ u h. absurd h, λ u h n. h)
without t (x ∷ C) = at (literal? x t) (without t C)
  where
    at : Dec (x ≡ t) → (E : Clause) × ((u : ℤ) → u ∈ E → (u ∈ C) × (u ≢ t)) × ((u : ℤ) → u ∈ C → u ≢ t → u ∈ E)
        → (E : Clause) × ((u : ℤ) → u ∈ E → (u ∈ (x ∷ C)) × (u ≢ t)) × ((u : ℤ) → u ∈ (x ∷ C) → u ≢ t → u ∈ E)
    at (yes e) r = (r.0, λ u h. (inr (r.1 u h).0, (r.1 u h).1), λ u h n. ⊎_elim (λ (q : u ≡ x). absurd (n (q ∙ e))) (λ (i : u ∈ C). r.2 u i n) h)
    at (no d) r = (
      x ∷ r.0,
      λ u h. ⊎_elim (λ (q : u ≡ x). (inl q, λ (e : u ≡ t). d (sym q ∙ e))) (λ (i : u ∈ r.0). (inr (r.1 u i).0, (r.1 u i).1)) h,
      λ u h n. ⊎_elim (λ (q : u ≡ x). inl q) (λ (i : u ∈ C). inr (r.2 u i n)) h,
    )

resolves : (k : ℕ) (L N : Clause) → on k ∈ L → off k ∈ N → (E : Clause) × Resolvent k L N E
resolves k L N l n =
    let x = without (on k) L in
    let y = without (off k) N in (
      x.0 ++ y.0,
      record {
        has_on = l;
        has_off = n;
        from = λ t h. ⊎_elim (λ (i : t ∈ x.0). inl (x.1 t i)) (λ (i : t ∈ y.0). inr (y.1 t i)) (in_either t x.0 y.0 h);
        all = λ t. ⊎_elim (λ (p : (t ∈ L) × (t ≢ on k)). in_left t x.0 y.0 (x.2 t p.0 p.1)) (λ (p : (t ∈ N) × (t ≢ off k)). in_right t x.0 y.0 (y.2 t p.0 p.1));
      },
    )

pub joined_exists : (t : ℤ) (C D : Clause) → t ∈ C → opposite t ∈ D → (E : Clause) × Joined t C D E
joined_exists (pos k) C D c d = resolves k C D c d
joined_exists (negsuc k) C D c d = resolves (suc k) D C d c

pub back_exists : (t : ℤ) (setter : Reference) (C : Clause) (m : ℕ) (below : Outcome) → t ∈ C → (us : List Step) × (out : Outcome) × Back t setter C m below us out
back_exists t setter C m (fits τ) c = ([], fits τ, passes tt)
back_exists t setter C m (fails r D) c = at (member? (opposite t) D)
  where
    at : Dec (opposite t ∈ D) → (us : List Step) × (out : Outcome) × Back t setter C m (fails r D) us out
    at (yes d) = let x = joined_exists t C D c d in (made t setter r ∷ [], fails (step_ref (suc m)) x.0, joins x.1)
    at (no n) = ([], fails r D, passes n)

-- settings hold 0, 1 and 2

abbrev pub Low : Setting → Type 0
Low σ = (k : ℕ) → get_or σ k 0 ≤ 2

low_set : (σ : Setting) (k b : ℕ) → b ≤ 2 → Low σ → Low (set σ k b)
low_set [] k b h l j = omega arith
low_set (x ∷ σ) zero b h l zero = h
low_set (x ∷ σ) zero b h l (suc j) = l (suc j)
low_set (x ∷ σ) (suc k) b h l zero = l 0
low_set (x ∷ σ) (suc k) b h l (suc j) = low_set σ k b h (λ i. l (suc i)) j

pub low_true : (σ : Setting) (t : ℤ) → Low σ → Low (make_true σ t)
low_true σ (pos zero) l = l
low_true σ (pos (suc k)) l = low_set σ k 1 (omega arith) l
low_true σ (negsuc k) l = low_set σ k 0 (omega arith) l

low_flipped : (b : ℕ) → b ≤ 2 → flipped b ≤ 2
low_flipped zero h = omega arith
low_flipped (suc zero) h = omega arith
low_flipped (suc (suc b)) h = h

pub low_value : (σ : Setting) (t : ℤ) → Low σ → value σ t ≤ 2
low_value σ (pos zero) l = omega arith
low_value σ (pos (suc k)) l = l k
low_value σ (negsuc k) l = low_flipped (get_or σ k 0) (l k)

pub entry_two : (σ : Setting) (t : ℤ) → value σ t ≡ 2 → entry σ (variable t) ≡ 2
entry_two σ (pos k) e = e
entry_two σ (negsuc k) e = flipped_two (get_or σ k 0) e

-- where nothing is decided, some literal is unset
pub unset_literal : (n : ℕ) (σ : Setting) (F : List Clause) → Over n F → Low σ → NoneOf (AllFalse σ) F → (Each (SomeTrue σ) F → ⊥) → (t : ℤ) × Within n t × (value σ t ≡ 2)
unset_literal n σ [] o l c u = absurd (u tt)
unset_literal n σ (C ∷ F) o l c u = at (some_true? σ C) (dec_some (λ t. value σ t ≡ 2) (λ t. number? (value σ t) 2) C) (λ e. unset_literal n σ F o.1 l c.1 e)
  where
    at : Dec (SomeTrue σ C) → Dec ((t : ℤ) × Member t C × (value σ t ≡ 2)) → ((Each (SomeTrue σ) F → ⊥) → (t : ℤ) × Within n t × (value σ t ≡ 2)) → (t : ℤ) × Within n t × (value σ t ≡ 2)
    at (yes p) d rest = rest (λ e. u (p, e))
    at (no p) (yes d) rest = (d.0, o.0 d.0 d.1, d.2)
    at (no p) (no d) rest =
        absurd (c.0 (λ t h.
        let w = low_value σ t l in
        let x : value σ t ≢ 1 = λ e. p (t, h, e) in
        let y : value σ t ≢ 2 = λ e. d (t, h, e) in
        omega arith))

-- the search

dec_all_true : (σ : Setting) (F : List Clause) → Dec (Each (SomeTrue σ) F)
dec_all_true σ [] = yes tt
dec_all_true σ (C ∷ F) = dec-× (some_true? σ C) (dec_all_true σ F)

module _ (n : ℕ) (F : List Clause) (order : List ℕ) (over : Over n F) (covers : (k : ℕ) → 0 < k → k ≤ n → Member k order) where
  Ended : Setting → ℕ → Type 0
  Ended σ m = (ss : List Step) × (out : Outcome) × Branch F order σ m ss out

  chooses : (σ : Setting) → Low σ → Undecided σ F → (k : ℕ) × Chosen σ order k
  chooses σ l u = at (chosen_or_none σ order)
    where
      at : ((k : ℕ) × Chosen σ order k) ⊎ ((k : ℕ) → Member k order → entry σ k ≢ 2) → (k : ℕ) × Chosen σ order k
      at (inl c) = c
      at (inr m) =
          let x = unset_literal n σ F over l u.no_conflict u.unfinished in
          absurd (m (variable x.0) (covers (variable x.0) x.1.0 x.1.1) (entry_two σ x.0 x.2))

  module _ (σ : Setting) (m : ℕ) (l : Low σ) (below : (τ : Setting) (i : ℕ) → vacant τ < vacant σ → Low τ → Ended τ i) where
    under : (t : ℤ) (i : ℕ) → value σ t ≡ 2 → Ended (make_true σ t) i
    under t i e = below (make_true σ t) i (let v = vacant_true σ t e in omega arith) (low_true σ t l)

    by_choice : Undecided σ F → (k : ℕ) → Chosen σ order k → Ended σ m
    unfolding Ended
    by_choice u k c = at x.1 x.2
      where
        two : entry σ k ≡ 2
        two = chosen_unset c

        x : Ended (make_true σ (on k)) m
        x = under (on k) m two

        off_side : (r : Reference) (C : Clause) → Branch F order (make_true σ (on k)) m x.0 (fails r C) → Dec (off k ∈ C) → Ended σ m
        off_side r C b (no d) = (x.0, fails r C, on_ends u c b d)
        off_side r C b (yes d) =
            let y = under (off k) (m + length x.0) (off_two σ k two) in
            let z = back_exists (off k) r C (m + length x.0 + length y.0) y.1 d in
            (x.0 ++ (y.0 ++ z.0), z.1, then_off u c b d y.2 z.2)

        at : (out : Outcome) → Branch F order (make_true σ (on k)) m x.0 out → Ended σ m
        at (fits τ) b = (x.0, fits τ, on_ends u c b tt)
        at (fails r C) b = off_side r C b (member? (off k) C)

    by_unit : NoneOf (AllFalse σ) F → (k : ℕ) (C : Clause) → First (SomeUnit σ) F k C → Ended σ m
    unfolding Ended
    by_unit none k C f =
        let s = first_holds f in
        let x = under s.0 m s.1.1 in
        let y = back_exists s.0 (R k) C (m + length x.0) x.1 s.1.0 in
        (x.0 ++ y.0, y.1, forced none f s.1 x.2 y.2)

    turn : Ended σ m
    unfolding Ended
    turn = at (first_or_none (AllFalse σ) (all_false? σ) F) (first_or_none (SomeUnit σ) (some_unit? σ) F) (dec_all_true σ F)
      where
        at : ((k : ℕ) × (C : Clause) × First (AllFalse σ) F k C) ⊎ NoneOf (AllFalse σ) F → ((k : ℕ) × (C : Clause) × First (SomeUnit σ) F k C) ⊎ NoneOf (SomeUnit σ) F
            → Dec (Each (SomeTrue σ) F) → Ended σ m
        at (inl f) y z = ([], fails (R f.0) f.1, conflict f.2)
        at (inr c) (inl f) z = by_unit c f.0 f.1 f.2
        at (inr c) (inr d) (yes e) = ([], fits σ, satisfied e)
        at (inr c) (inr d) (no u) = let w : Undecided σ F = record { no_conflict = c; no_unit = d; unfinished = u } in let k = chooses σ l w in by_choice w k.0 k.1

  goes_on : (N : ℕ) (σ : Setting) (m : ℕ) → vacant σ ≤ N → Low σ → Ended σ m
  goes_on zero σ m h l = turn σ m l (λ τ i lt k. absurd (omega arith))
  goes_on (suc N) σ m h l = turn σ m l (λ τ i lt k. goes_on N τ i (omega arith) k)

pub low_unset : (n : ℕ) → Low (unset n)
low_unset zero k = omega arith
low_unset (suc n) zero = omega arith
low_unset (suc n) (suc k) = low_unset n k

-- from each setting the search ends
pub ends_from : (n : ℕ) (F : List Clause) (order : List ℕ) → Over n F → ((k : ℕ) → 0 < k → k ≤ n → Member k order)
    → (σ : Setting) (m : ℕ) → Low σ → (ss : List Step) × (out : Outcome) × Branch F order σ m ss out
unfolding Ended
ends_from n F order over covers σ m l = goes_on n F order over covers (vacant σ) σ m (omega arith) l

-- the search from the start; where the clauses and the order are written out, it computes
unfoldable pub ends : Ends
unfolding decided number? literal? dec_each dec_some all_false? some_true? dec-× dec-→ dec-¬ some_unit? first_or_none member? chosen_or_none
    without resolves joined_exists back_exists dec_all_true Ended chooses under by_choice by_unit turn goes_on ends_from first_holds
ends n F order over covers = ends_from n F order over covers (unset n) 0 (low_unset n)
