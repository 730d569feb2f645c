-- Checking accepts exactly the arguments.
use Rattle.std.proofs.Common.{◌≡◌, ℕ, zero, suc, ◌<◌, ◌≤◌, Bool, true, false, cond, ◌&&◌, eqb, ltb, ◌≢◌, ◌⊎◌, List, [], ◌∷◌, ◌++◌, length, ℤ, Some, None, Ok, Err, Option, Result, sym, refl, ap, ◌∙◌, subst, inl, inr, ⊎_elim, append_assoc, append-nil, arith}
use Rattle.std.specs.List.{slice_get}
use Rattle.std.proofs.lemmas.Bool.{ne_eqb, eqb-false, le-ltb, ltb-false, false≢true, and_from, and_parts}
use Rattle.model.specs.declared.Reference.{Reference}
use Rattle.model.specs.declared.Reference.TheVariants.{R, S}
use Rattle.model.specs.declared.Step.{Step}
use Rattle.model.specs.declared.Decline.{Decline}
use Rattle.model.specs.declared.Decline.TheVariants.{NotStarted, FewClausePlaces, LacksVariable}
use Rattle.model.specs.Clauses.{Clause, ◌∈◌, on, off, Resolvent, same, has}
use Rattle.model.specs.Arguments.{At, at_first, at_later, Named, rule, step, Derives, none, one_more, Argument, SameLiterals}
use Rattle.model.specs.Machine.{Machine, clause_at}
use Rattle.model.specs.Checking.{named, without, step_clause, at_closing, check_from, either_refusal, check_refusal, Checks, CheckWorth}
use Rattle.model.proofs.Signs.{same_refl, same_true, has_in, in_has}
use Rattle.model.proofs.Members.{in_left, in_right, in_either}
use Rattle.model.proofs.Resolution.{no_model}
use Rattle.model.proofs.Same.{resolvent_same, same_of}
use Rattle.lives.specs.Lives.{Pairs, Exact}
use Rattle.lives.proofs.Refusals.{some_none}

same_self : (t u : ℤ) → t ≡ u → same t u ≡ true
same_self t u e = subst (λ (x : ℤ). same t x ≡ true) e (same_refl t)

-- a clause without a literal

without_from : (t : ℤ) (C : Clause) (u : ℤ) → u ∈ without t C → (u ∈ C) × (u ≢ t)
without_from t [] u h = absurd h
without_from t (x ∷ C) u h = at (same x t) refl h (λ i. without_from t C u i)
  where
    more : (u ∈ C) × (u ≢ t) → (u ∈ (x ∷ C)) × (u ≢ t)
    more p = (inr p.0, p.1)

    here : same x t ≡ false → u ≡ x → (u ∈ (x ∷ C)) × (u ≢ t)
    here q e = (inl e, λ g. false≢true (sym q ∙ same_self x t (sym e ∙ g)))

    at : (b : Bool) → same x t ≡ b → u ∈ cond b (without t C) (x ∷ without t C) → (u ∈ without t C → (u ∈ C) × (u ≢ t)) → (u ∈ (x ∷ C)) × (u ≢ t)
    at true q h f = more (f h)
    at false q (inl e) f = here q e
    at false q (inr h) f = more (f h)

without_all : (t : ℤ) (C : Clause) (u : ℤ) → u ∈ C → u ≢ t → u ∈ without t C
without_all t [] u h n = absurd h
without_all t (x ∷ C) u h n = at (same x t) refl h (λ i. without_all t C u i n)
  where
    at : (b : Bool) → same x t ≡ b → (u ≡ x) ⊎ (u ∈ C) → (u ∈ C → u ∈ without t C) → u ∈ cond b (without t C) (x ∷ without t C)
    at true q (inl e) f = absurd (n (e ∙ same_true x t q))
    at true q (inr h) f = f h
    at false q (inl e) f = inl e
    at false q (inr h) f = inr (f h)

resolves : (k : ℕ) (L N : Clause) → on k ∈ L → off k ∈ N → Resolvent k L N (without (on k) L ++ without (off k) N)
resolves k L N l n =
    record {
      has_on = l;
      has_off = n;
      from = λ t h. ⊎_elim (λ (i : t ∈ without (on k) L). inl (without_from (on k) L t i)) (λ (i : t ∈ without (off k) N). inr (without_from (off k) N t i)) (in_either t (without (on k) L) (without (off k) N) h);
      all = λ t. ⊎_elim (λ (p : (t ∈ L) × (t ≢ on k)). in_left t (without (on k) L) (without (off k) N) (without_all (on k) L t p.0 p.1)) (λ (p : (t ∈ N) × (t ≢ off k)). in_right t (without (on k) L) (without (off k) N) (without_all (off k) N t p.0 p.1));
    }

-- what a reference names

at_nth : {A : Type 0} (xs : List A) (k : ℕ) (x : A) → slice_get xs k ≡ Some x → At xs (suc k) x
at_nth [] k x e = absurd (some_none x (sym e))
at_nth (y ∷ xs) zero x e = let q : y ≡ x = cc in subst (λ (z : _). At (y ∷ xs) 1 z) q at_first
at_nth (y ∷ xs) (suc k) x e = at_later (at_nth xs k x e)

at_clause : (xs : List Clause) (k : ℕ) (C : Clause) → clause_at xs k ≡ Some C → At xs k C
at_clause xs zero C e = absurd (some_none C (sym e))
at_clause xs (suc k) C e = at_nth xs k C e

named_is : (F Ds : List Clause) (r : Reference) (C : Clause) → named F Ds r ≡ Some C → Named F Ds r C
named_is F Ds (R k) C e = rule (at_clause F k C e)
named_is F Ds (S k) C e = step (at_clause Ds k C e)

clause_there : {xs : List Clause} {k : ℕ} {C : Clause} → At xs k C → clause_at xs k ≡ Some C
clause_there at_first = refl
clause_there {xs = D ∷ Ds} (at_later {x = C} {k = k} a) = up k (clause_there a)
  where
    up : (j : ℕ) → clause_at Ds j ≡ Some C → slice_get (D ∷ Ds) j ≡ Some C
    up zero e = absurd (some_none C (sym e))
    up (suc j) e = e

abbrev Alikes : List Clause → List Clause → Type 0
Alikes Ds Es = Pairs SameLiterals Ds Es

at_alike : (Es : List Clause) {Ds : List Clause} {k : ℕ} {C : Clause} → Alikes Ds Es → At Ds k C → (D : Clause) × At Es k D × SameLiterals C D
at_alike [] p at_first = absurd p
at_alike [] p (at_later a) = absurd p
at_alike (E ∷ Es) p at_first = (E, at_first, p.0)
at_alike (E ∷ Es) p (at_later a) = let x = at_alike Es p.1 a in (x.0, at_later x.1, x.2)

is_named : (F Ds Es : List Clause) {r : Reference} {C : Clause} → Alikes Ds Es → Named F Ds r C → (D : Clause) × (named F Es r ≡ Some D) × SameLiterals C D
is_named F Ds Es p (rule {C = C} a) = (C, clause_there a, same_of refl)
is_named F Ds Es p (step a) = let x = at_alike Es p a in (x.0, clause_there x.1, x.2)

pairs_more : (Ds Es : List Clause) (D E : Clause) → Alikes Ds Es → SameLiterals D E → Alikes (Ds ++ D ∷ []) (Es ++ E ∷ [])
pairs_more [] [] D E p s = (s, tt)
pairs_more [] (y ∷ Es) D E p s = absurd p
pairs_more (x ∷ Ds) [] D E p s = absurd p
pairs_more (x ∷ Ds) (y ∷ Es) D E p s = (p.0, pairs_more Ds Es D E p.1 s)

-- an argument is accepted

no_literal : (C : Clause) → SameLiterals [] C → C ≡ []
no_literal [] s = refl
no_literal (t ∷ C) s = absurd ((s t).1 (inl refl))

closing_accepted : (F Ds : List Clause) (closing : Reference) (C : Clause) → named F Ds closing ≡ Some C → C ≡ [] → at_closing (named F Ds closing) ≡ None
closing_accepted F Ds closing C e q = ap at_closing (e ∙ ap (λ (D : Clause). Some D) q)

step_accepted : (j k : ℕ) (L N : Clause) → on k ∈ L → off k ∈ N → step_clause j k (Some L) (Some N) ≡ Ok (without (on k) L ++ without (off k) N)
step_accepted j k L N l n = rw (and_from (has L (on k)) (has N (off k)) (in_has L (on k) l) (in_has N (off k) n)) refl

abbrev Ahead : List Clause → List Clause → List Step → Reference → Result Clause Decline → Option Decline
Ahead F Ds ss closing (Ok E) = check_from F (Ds ++ (E ∷ [])) ss closing
Ahead F Ds ss closing (Err d) = Some d

one_step : (F Ds : List Clause) (s : Step) (ss : List Step) (closing : Reference) (L N E : Clause) → named F Ds s.left ≡ Some L → named F Ds s.right ≡ Some N
    → step_clause (suc (length Ds)) s.variable (Some L) (Some N) ≡ Ok E → check_from F Ds (s ∷ ss) closing ≡ check_from F (Ds ++ (E ∷ [])) ss closing
unfolding check_from
one_step F Ds s ss closing L N E l n e =
    ap (Ahead F Ds ss closing)
    (ap (λ (a : Option Clause). step_clause (suc (length Ds)) s.variable a (named F Ds s.right)) l ∙ ap (λ (b : Option Clause). step_clause (suc (length Ds)) s.variable (Some L) b) n ∙ e)

derived_accepted : {F Ds : List Clause} {ss : List Step} {Gs : List Clause} (Es : List Clause) (closing : Reference) → Derives F Ds ss Gs → Alikes Ds Es → Named F (Ds ++ Gs) closing [] → check_from F Es ss closing ≡ None
unfolding check_from
derived_accepted {F} Es closing (none {Ds = Ds}) p c =
    let x = is_named F Ds Es p (subst (λ (X : List Clause). Named F X closing []) (append-nil Ds) c) in
    closing_accepted F Es closing x.0 x.1 (no_literal x.0 x.2)
derived_accepted {F} Es closing (one_more {Ds = Ds} {Es = Gs} {ss = ss} {s = s} {L = L} {N = N} {E = E} l n r d) p c =
    let x = is_named F Ds Es p l in
    let y = is_named F Ds Es p n in
    let xl = (x.2 (on s.variable)).0 r.has_on in
    let yn = (y.2 (off s.variable)).0 r.has_off in
    let E' = without (on s.variable) x.0 ++ without (off s.variable) y.0 in
    let q = resolvent_same x.2 y.2 r (resolves s.variable x.0 y.0 xl yn) in
    one_step F Es s ss closing x.0 y.0 E' x.1 y.1 (step_accepted (suc (length Es)) s.variable x.0 y.0 xl yn)
    ∙ derived_accepted (Es ++ (E' ∷ [])) closing d (pairs_more Ds Es E E' p q) (subst (λ (X : List Clause). Named F X closing []) (sym (append_assoc Ds (E ∷ []) Gs)) c)

module _ (m : Machine) (ss : List Step) (closing : Reference) (places : ℕ) where
  -- the two rows before the steps
  goes_through : 0 < m.variables → length ss ≤ places → check_refusal m ss closing places ≡ check_from m.clauses [] ss closing
  goes_through some h = rw (ne_eqb m.variables 0 (λ e. omega (arith, some)), le-ltb places (length ss) h)

  pub argument_accepted : 0 < m.variables → length ss ≤ places → Argument m.clauses ss closing → check_refusal m ss closing places ≡ None
  argument_accepted some h a = goes_through some h ∙ derived_accepted [] closing a.1 tt a.2

-- what is accepted is an argument

closing_is : (o : Option Clause) → at_closing o ≡ None → o ≡ Some []
closing_is None e = absurd (some_none _ e)
closing_is (Some []) e = refl
closing_is (Some (t ∷ C)) e = absurd (some_none _ e)

abbrev Going : List Clause → List Clause → List Step → Reference → Type 0
Going F Ds ss closing = (Es : List Clause) × Derives F Ds ss Es × Named F (Ds ++ Es) closing []

accepted_derived : (F Ds : List Clause) (ss : List Step) (closing : Reference) → check_from F Ds ss closing ≡ None → Going F Ds ss closing
unfolding check_from
accepted_derived F Ds [] closing e = ([], none, subst (λ (X : List Clause). Named F X closing []) (sym (append-nil Ds)) (named_is F Ds closing [] (closing_is (named F Ds closing) e)))
accepted_derived F Ds (s ∷ ss) closing e = by (named F Ds s.left) (named F Ds s.right) refl refl e (λ E q. accepted_derived F (Ds ++ (E ∷ [])) ss closing q)
  where
    made : (L N : Clause) (b : Bool) → named F Ds s.left ≡ Some L → named F Ds s.right ≡ Some N → (has L (on s.variable) && has N (off s.variable)) ≡ b
        → Ahead F Ds ss closing (cond b (Ok (without (on s.variable) L ++ without (off s.variable) N)) (Err (LacksVariable (suc (length Ds))))) ≡ None
        → ((E : Clause) → check_from F (Ds ++ (E ∷ [])) ss closing ≡ None → Going F (Ds ++ (E ∷ [])) ss closing) → Going F Ds (s ∷ ss) closing
    made L N true l n t e f =
        let x = f (without (on s.variable) L ++ without (off s.variable) N) e in
        let p = and_parts (has L (on s.variable)) (has N (off s.variable)) t in
        let E = without (on s.variable) L ++ without (off s.variable) N in (
          E ∷ x.0,
          one_more (named_is F Ds s.left L l) (named_is F Ds s.right N n) (resolves s.variable L N (has_in L (on s.variable) p.0) (has_in N (off s.variable) p.1)) x.1,
          subst (λ (X : List Clause). Named F X closing []) (append_assoc Ds (E ∷ []) x.0) x.2,
        )
    made L N false l n t e f = absurd (some_none _ e)

    by : (a b : Option Clause) → named F Ds s.left ≡ a → named F Ds s.right ≡ b → Ahead F Ds ss closing (step_clause (suc (length Ds)) s.variable a b) ≡ None
        → ((E : Clause) → check_from F (Ds ++ (E ∷ [])) ss closing ≡ None → Going F (Ds ++ (E ∷ [])) ss closing) → Going F Ds (s ∷ ss) closing
    by None b l n e f = absurd (some_none _ e)
    by (Some L) None l n e f = absurd (some_none _ e)
    by (Some L) (Some N) l n e f = made L N (has L (on s.variable) && has N (off s.variable)) l n refl e f

pub exact : Exact
exact m ss closing places some h =
    (argument_accepted m ss closing places some h, λ e. accepted_derived m.clauses [] ss closing (sym (goes_through m ss closing places some h) ∙ e))

-- what is accepted was started and has the places
accepted_rows : (m : Machine) (ss : List Step) (closing : Reference) (places : ℕ) → check_refusal m ss closing places ≡ None → (0 < m.variables) × (length ss ≤ places)
accepted_rows m ss closing places e = at (eqb m.variables 0) (ltb places (length ss)) refl refl e
  where
    at : (b c : Bool) → eqb m.variables 0 ≡ b → ltb places (length ss) ≡ c
        → either_refusal (cond b (Some NotStarted) (cond c (Some FewClausePlaces) None)) (check_from m.clauses [] ss closing) ≡ None → (0 < m.variables) × (length ss ≤ places)
    at true c p q h = absurd (some_none _ h)
    at false true p q h = absurd (some_none _ h)
    at false false p q h = (let n = eqb-false m.variables 0 p in omega arith, ltb-false places (length ss) q)

pub check_worth : (m : Machine) (ss : List Step) (closing : Reference) (places : ℕ) (r : Result (Unit {0}) Decline) → Checks m ss closing places r → CheckWorth m ss closing places r
check_worth m ss closing places (Ok u) e =
    let g = accepted_rows m ss closing places e in
    let a = (exact m ss closing places g.0 g.1).1 e in
    (a, λ v f. no_model a v f)
check_worth m ss closing places (Err d) e = λ some room a. some_none d (sym e ∙ argument_accepted m ss closing places some room a)
