-- The tests on literals and clauses say what they should.
use Rattle.std.proofs.Common.{◌≡◌, ℕ, Bool, true, false, cond, ltb, leb, [], ◌∷◌, ◌++◌, ℤ, pos, negsuc, sym, refl, ap, ◌∙◌, inl, inr, lt-ltb, le-leb}
use Rattle.std.proofs.lemmas.Bool.{eq-eqb, eqb-true, ltb-true, leb-true, false≢true}
use Rattle.model.specs.Clauses.{Clause, variable, ◌∈◌, Within, same, has}
use Rattle.model.specs.Machine.{names}

pub same_refl : (t : ℤ) → same t t ≡ true
same_refl (pos n) = eq-eqb n n refl
same_refl (negsuc n) = eq-eqb n n refl

pub same_true : (t u : ℤ) → same t u ≡ true → t ≡ u
same_true (pos m) (pos n) h = ap pos (eqb-true m n h)
same_true (pos m) (negsuc n) h = absurd (false≢true h)
same_true (negsuc m) (pos n) h = absurd (false≢true h)
same_true (negsuc m) (negsuc n) h = ap negsuc (eqb-true m n h)

pub same_false : (t u : ℤ) → (t ≡ u → ⊥) → same t u ≡ false
same_false t u h = look (same t u) refl
  where
    look : (b : Bool) → same t u ≡ b → same t u ≡ false
    look true e = absurd (h (same_true t u e))
    look false e = e

pub has_in : (C : Clause) (t : ℤ) → has C t ≡ true → t ∈ C
has_in [] t h = absurd (false≢true h)
has_in (u ∷ C) t h = look (same u t) refl h (has_in C t)
  where
    look : (b : Bool) → same u t ≡ b → cond b true (has C t) ≡ true → (has C t ≡ true → t ∈ C) → t ∈ (u ∷ C)
    look true e h f = inl (sym (same_true u t e))
    look false e h f = inr (f h)

pub in_has : (C : Clause) (t : ℤ) → t ∈ C → has C t ≡ true
in_has [] t h = absurd h
in_has (u ∷ C) t (inl e) = ap (λ (b : Bool). cond b true (has C t)) (ap (λ (x : ℤ). same u x) e ∙ same_refl u)
in_has (u ∷ C) t (inr h) = look (same u t) (in_has C t h)
  where
    look : (b : Bool) → has C t ≡ true → cond b true (has C t) ≡ true
    look true h = refl
    look false h = h

pub has_push : (C : Clause) (t u : ℤ) → has (C ++ (t ∷ [])) u ≡ cond (same t u) true (has C u)
has_push [] t u = refl
has_push (x ∷ C) t u = ap (λ (b : Bool). cond (same x u) true b) (has_push C t u) ∙ swap (same x u) (same t u) (has C u)
  where
    swap : (a b c : Bool) → cond a true (cond b true c) ≡ cond b true (cond a true c)
    swap true true c = refl
    swap true false c = refl
    swap false true c = refl
    swap false false c = refl

pub names_within : (n : ℕ) (t : ℤ) → names n t ≡ true → Within n t
names_within n t h = look (ltb 0 (variable t)) refl h
  where
    look : (b : Bool) → ltb 0 (variable t) ≡ b → cond b (leb (variable t) n) false ≡ true → Within n t
    look true e h = (ltb-true 0 (variable t) e, leb-true (variable t) n h)
    look false e h = absurd (false≢true h)

pub within_names : (n : ℕ) (t : ℤ) → Within n t → names n t ≡ true
within_names n t (a, b) = ap (λ (x : Bool). cond x (leb (variable t) n) false) (lt-ltb 0 (variable t) a) ∙ le-leb (variable t) n b
