-- The search has one course.
use Rattle.std.proofs.Common.{◌≡◌, ℕ, suc, ◌+◌, List, [], ◌∷◌, ◌++◌, length, ℤ, pos, negsuc, sym, refl, ap, subst, ap₂, subst₂, inl, inr, arith}
use lib.IntN.{ℤ_discrete}
use Rattle.model.specs.Clauses.{Clause, on, off, opposite, ◌∈◌, Resolvent, LeftOver}
use Rattle.model.specs.Search.{Setting, value, make_true, AllFalse, UnitOn, SomeTrue, First, here, later, NoneOf, Chosen, this, next, Reference, R, step_ref, Step, Outcome, fits, fails, made, Joined, Lacks, Back, passes, joins, Branch, conflict, forced, satisfied, on_ends, then_off}
use Rattle.model.specs.Arguments.{SameLiterals, Alike}
use Rattle.model.proofs.Failing.{first_holds}
use Rattle.model.proofs.Root.{first_each}

first_same : {P : Clause → Type 0} {F : List Clause} {j k : ℕ} {C D : Clause} → First P F j C → First P F k D → (j ≡ k) × (C ≡ D)
first_same (here p) (here q) = (refl, refl)
first_same (here p) (later n g) = absurd (n p)
first_same (later n f) (here q) = absurd (n q)
first_same (later n f) (later m g) = let e = first_same f g in (ap suc e.0, e.1)

none_first : {P : Clause → Type 0} {F : List Clause} {k : ℕ} {C : Clause} → NoneOf P F → First P F k C → ⊥
none_first n (here p) = n.0 p
none_first n (later m f) = none_first n.1 f

chosen_same : {σ : Setting} {order : List ℕ} {j k : ℕ} → Chosen σ order j → Chosen σ order k → j ≡ k
chosen_same (this e) (this f) = refl
chosen_same (this e) (next n c) = absurd (n e)
chosen_same (next n c) (this e) = absurd (n e)
chosen_same (next n c) (next m d) = chosen_same c d

unit_same : (σ : Setting) (C : Clause) (t u : ℤ) → UnitOn σ t C → UnitOn σ u C → t ≡ u
unit_same σ C t u p q = at (ℤ_discrete u t)
  where
    at : Dec (u ≡ t) → t ≡ u
    at (yes e) = sym e
    at (no d) = let z = p.2 u q.0 d in let w = q.1 in absurd (omega arith)

true_not_false : (σ : Setting) (C : Clause) → SomeTrue σ C → AllFalse σ C → ⊥
true_not_false σ C s f = let z = f s.0 s.1 in let o = s.2 in omega arith

true_not_unit : (σ : Setting) (C : Clause) (t : ℤ) → SomeTrue σ C → UnitOn σ t C → ⊥
true_not_unit σ C t s p = at (ℤ_discrete s.0 t)
  where
    at : Dec (s.0 ≡ t) → ⊥
    at (yes e) = let o : value σ t ≡ 1 = rw e at s.2 in let w = p.1 in omega arith
    at (no d) = let z = p.2 s.0 s.1 d in let o = s.2 in omega arith

pub resolvent_same : {k : ℕ} {L L' N N' E E' : Clause} → SameLiterals L L' → SameLiterals N N' → Resolvent k L N E → Resolvent k L' N' E' → SameLiterals E E'
resolvent_same {k} {L} {L'} {N} {N'} l n r r' t =
    (λ h. r'.all t (across L L' N N' (λ i. (l t).0 i) (λ i. (n t).0 i) (r.from t h)), λ h. r.all t (across L' L N' N (λ i. (l t).1 i) (λ i. (n t).1 i) (r'.from t h)))
  where
    across : (A B C D : Clause) → (t ∈ A → t ∈ B) → (t ∈ C → t ∈ D) → LeftOver k A C t → LeftOver k B D t
    across A B C D f g (inl p) = inl (f p.0, p.1)
    across A B C D f g (inr p) = inr (g p.0, p.1)

joined_same : (t : ℤ) (C C' D D' E E' : Clause) → SameLiterals C C' → SameLiterals D D' → Joined t C D E → Joined t C' D' E' → SameLiterals E E'
joined_same (pos k) C C' D D' E E' c d j j' = resolvent_same c d j j'
joined_same (negsuc k) C C' D D' E E' c d j j' = resolvent_same d c j j'

joined_has : (t : ℤ) (C D E : Clause) → Joined t C D E → opposite t ∈ D
joined_has (pos k) C D E j = j.has_off
joined_has (negsuc k) C D E j = j.has_on

clash_right : (t : ℤ) (out : Outcome) (r : Reference) (D : Clause) → Alike out (fails r D) → Lacks t out → t ∈ D → ⊥
clash_right t (fits τ) r D a l h = a
clash_right t (fails q C) r D a l h = l ((a.1 t).1 h)

clash_left : (t : ℤ) (out : Outcome) (r : Reference) (D : Clause) → Alike (fails r D) out → Lacks t out → t ∈ D → ⊥
clash_left t (fits τ) r D a l h = a
clash_left t (fails q C) r D a l h = l ((a.1 t).0 h)

back_same : (t : ℤ) {p q : Reference} {C C' : Clause} {m m' : ℕ} {below below' : Outcome} {us us' : List Step} {out out' : Outcome}
    → p ≡ q → SameLiterals C C' → m ≡ m' → Alike below below' → Back t p C m below us out → Back t q C' m' below' us' out' → (us ≡ us') × Alike out out'
back_same t e c em a (passes l) (passes l') = (refl, a)
back_same t {C' = C'} {below = below} e c em a (passes l) (joins {r = r} {D = D} {E = E} j) = absurd (clash_right (opposite t) below r D a l (joined_has t C' D E j))
back_same t {C = C} {below' = below'} e c em a (joins {r = r} {D = D} {E = E} j) (passes l) = absurd (clash_left (opposite t) below' r D a l (joined_has t C D E j))
back_same t {C = C} {C' = C'} e c em a (joins {D = D} {E = E} j) (joins {D = D'} {E = E'} j') =
    (ap₂ (λ (x y : Reference). made t x y ∷ []) e a.0, (ap (λ (x : ℕ). step_ref (suc x)) em, joined_same t C C' D D' E E' c a.1 j j'))

pub same_of : {C D : Clause} → C ≡ D → SameLiterals C D
same_of {C} {D} e t = (λ h. subst (λ (X : Clause). t ∈ X) e h, λ h. subst (λ (X : Clause). t ∈ X) (sym e) h)

pub one_course_lem : {F : List Clause} {order : List ℕ} {σ : Setting} {m : ℕ} {ss : List Step} {a : Outcome} {us : List Step} {b : Outcome}
    → Branch F order σ m ss a → Branch F order σ m us b → (ss ≡ us) × Alike a b
one_course_lem (conflict f) (conflict g) = let e = first_same f g in (refl, (ap R e.0, same_of e.1))
one_course_lem (conflict f) (forced n g u b back) = absurd (none_first n f)
one_course_lem {σ = σ} (conflict {C = C} f) (satisfied s) = absurd (true_not_false σ C (first_each (SomeTrue σ) s f) (first_holds f))
one_course_lem (conflict f) (on_ends un c b l) = absurd (none_first un.no_conflict f)
one_course_lem (conflict f) (then_off un c b h d back) = absurd (none_first un.no_conflict f)
one_course_lem (forced n g u b back) (conflict f) = absurd (none_first n f)
one_course_lem {F} {order} {σ} {m} (forced {C = C} {t = t} {ss = ss} {below = below} n f u b back) (forced {k = j'} {C = C'} {t = t'} {ss = ss'} {us = us'} {below = below'} {out = out'} n' f' u' b' back') =
    let e = first_same f f' in
    let et : t' ≡ t = unit_same σ C' t' t u' (subst (λ (X : Clause). UnitOn σ t X) e.1 u) in
    let i = one_course_lem b (subst (λ (x : ℤ). Branch F order (make_true σ x) m ss' below') et b') in
    let k = back_same t (ap R e.0) (same_of e.1) (ap (λ (xs : List Step). m + length xs) i.0) i.1 back (subst (λ (x : ℤ). Back x (R j') C' (m + length ss') below' us' out') et back') in
    (ap₂ (λ (xs ys : List Step). xs ++ ys) i.0 k.0, k.1)
one_course_lem {σ = σ} (forced {C = C} {t = t} n f u b back) (satisfied s) = absurd (true_not_unit σ C t (first_each (SomeTrue σ) s f) u)
one_course_lem (forced n f u b back) (on_ends un c d l) = absurd (none_first un.no_unit f)
one_course_lem (forced n f u b back) (then_off un c d h d' back') = absurd (none_first un.no_unit f)
one_course_lem {σ = σ} (satisfied s) (conflict {C = C} f) = absurd (true_not_false σ C (first_each (SomeTrue σ) s f) (first_holds f))
one_course_lem {σ = σ} (satisfied s) (forced {C = C} {t = t} n f u b back) = absurd (true_not_unit σ C t (first_each (SomeTrue σ) s f) u)
one_course_lem (satisfied s) (satisfied s') = (refl, refl)
one_course_lem (satisfied s) (on_ends un c b l) = absurd (un.unfinished s)
one_course_lem (satisfied s) (then_off un c b h d back) = absurd (un.unfinished s)
one_course_lem (on_ends un c b l) (conflict f) = absurd (none_first un.no_conflict f)
one_course_lem (on_ends un c b l) (forced n f u d back) = absurd (none_first un.no_unit f)
one_course_lem (on_ends un c b l) (satisfied s) = absurd (un.unfinished s)
one_course_lem {F} {order} {σ} {m} (on_ends {k = k} un c b l) (on_ends {k = k'} {ss = ss'} {out = out'} un' c' b' l') =
    one_course_lem b (subst (λ (x : ℕ). Branch F order (make_true σ (on x)) m ss' out') (chosen_same c' c) b')
one_course_lem {F} {order} {σ} {m} (on_ends {k = k} {out = out} un c b l) (then_off {k = k'} {C = C} {r = r} {ss = ss'} un' c' b' h d back) =
    let e = chosen_same c' c in
    let i = one_course_lem b (subst (λ (x : ℕ). Branch F order (make_true σ (on x)) m ss' (fails r C)) e b') in
    absurd (clash_right (off k) out r C i.1 l (subst (λ (x : ℕ). off x ∈ C) e h))
one_course_lem (then_off un c b h d back) (conflict f) = absurd (none_first un.no_conflict f)
one_course_lem (then_off un c b h d back) (forced n f u b' back') = absurd (none_first un.no_unit f)
one_course_lem (then_off un c b h d back) (satisfied s) = absurd (un.unfinished s)
one_course_lem {F} {order} {σ} {m} (then_off {k = k} {C = C} {r = r} un c b h d back) (on_ends {k = k'} {ss = ss'} {out = out} un' c' b' l) =
    let e = chosen_same c' c in
    let i = one_course_lem b (subst (λ (x : ℕ). Branch F order (make_true σ (on x)) m ss' out) e b') in
    absurd (clash_left (off k) out r C i.1 (subst (λ (x : ℕ). Lacks (off x) out) e l) h)
one_course_lem {F} {order} {σ} {m} (then_off {k = k} {C = C} {r = r} {ss = ss} {us = us} {vs = vs} un c b h d back) (then_off {k = k'} {C = C'} {r = r'} {ss = ss'} {us = us'} {vs = vs'} {below = below'} {out = out'} un' c' b' h' d' back') =
    let e = chosen_same c' c in
    let i = one_course_lem b (subst (λ (x : ℕ). Branch F order (make_true σ (on x)) m ss' (fails r' C')) e b') in
    let j = one_course_lem d (subst₂ (λ (x : ℕ) (xs : List Step). Branch F order (make_true σ (off x)) (m + length xs) us' below') e (sym i.0) d') in
    let l = back_same (off k) i.1.0 i.1.1 (ap₂ (λ (xs ys : List Step). m + length xs + length ys) i.0 j.0) j.1 back
    (subst (λ (x : ℕ). Back (off x) r' C' (m + length ss' + length us') below' vs' out') e back') in
    (ap₂ (λ (xs ys : List Step). xs ++ ys) i.0 (ap₂ (λ (xs ys : List Step). xs ++ ys) j.0 l.0), l.1)
