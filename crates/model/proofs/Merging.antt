-- Equal literals merged: what is kept, and what holds of it.
use Rattle.std.proofs.Common.{◌≡◌, ℕ, zero, suc, ◌+◌, ◌≤◌, Bool, true, false, cond, ◌⊎◌, List, [], ◌∷◌, ◌++◌, length, take, drop, ℤ, sym, refl, ap, ◌∙◌, subst, inl, inr, ⊎_elim, arith}
use borrow.Author.Tests.{clash}
use Rattle.std.proofs.lemmas.List.{length_push}
use Rattle.model.specs.Clauses.{Clause, Member, Each, ◌∈◌, Over, same, has}
use Rattle.model.specs.Arguments.{SameLiterals}
use Rattle.model.proofs.Signs.{same_true, names_within}
use Rattle.model.specs.Machine.{every, names, merged}
use Rattle.model.proofs.Members.{in_left, in_right, in_either}

-- both of two tests
pub both : (b c : Bool) → cond b c false ≡ true → (b ≡ true) × (c ≡ true)
both true c h = (refl, h)
both false c h = absurd (clash h)

module _ {A : Type 0} (p : A → Bool) where
  pub every_append : (xs ys : List A) → every p (xs ++ ys) ≡ cond (every p xs) (every p ys) false
  every_append [] ys = refl
  every_append (x ∷ xs) ys = ap (λ b. cond (p x) b false) (every_append xs ys) ∙ look (p x)
    where
      look : (b : Bool) → cond b (cond (every p xs) (every p ys) false) false ≡ cond (cond b (every p xs) false) (every p ys) false
      look true = refl
      look false = refl

  pub every_both : (xs ys : List A) → every p xs ≡ true → every p ys ≡ true → every p (xs ++ ys) ≡ true
  every_both xs ys a b = every_append xs ys ∙ rw (a, b)

  pub every_first : (n : ℕ) (xs : List A) → every p xs ≡ true → every p (take n xs) ≡ true
  every_first zero xs h = refl
  every_first (suc n) [] h = refl
  every_first (suc n) (x ∷ xs) h = let w = both (p x) (every p xs) h in rw (w.0, every_first n xs w.1)

  pub every_rest : (n : ℕ) (xs : List A) → every p xs ≡ true → every p (drop n xs) ≡ true
  every_rest zero xs h = h
  every_rest (suc n) [] h = refl
  every_rest (suc n) (x ∷ xs) h = every_rest n xs (both (p x) (every p xs) h).1

  pub every_member : (x : A) (xs : List A) → every p xs ≡ true → Member x xs → p x ≡ true
  every_member x [] h m = absurd m
  every_member x (y ∷ ys) h (inl e) = ap p e ∙ (both (p y) (every p ys) h).0
  every_member x (y ∷ ys) h (inr m) = every_member x ys (both (p y) (every p ys) h).1 m

pub clauses_over : (n : ℕ) (F : List Clause) → Each (λ C. every (names n) C ≡ true) F → Over n F
clauses_over n [] e = tt
clauses_over n (C ∷ F) e = ((λ t m. names_within n t (every_member (names n) t C e.0 m)), clauses_over n F e.1)

pub every_merged : (p : ℤ → Bool) (seen ts : List ℤ) → every p seen ≡ true → every p ts ≡ true → every p (merged seen ts) ≡ true
every_merged p seen [] a b = a
every_merged p seen (t ∷ ts) a b =
    let w = both (p t) (every p ts) b in
    look (has seen t) (every_merged p seen ts a w.1) (every_merged p (seen ++ (t ∷ [])) ts (every_both p seen (t ∷ []) a (rw w.0)) w.1)
  where
    look : (h : Bool) → every p (merged seen ts) ≡ true → every p (merged (seen ++ (t ∷ [])) ts) ≡ true → every p (merged (cond h seen (seen ++ (t ∷ []))) ts) ≡ true
    look true x y = x
    look false x y = y

pub merged_push : (seen ts : List ℤ) (t : ℤ) → merged seen (ts ++ (t ∷ [])) ≡ cond (has (merged seen ts) t) (merged seen ts) (merged seen ts ++ (t ∷ []))
merged_push seen [] t = refl
merged_push seen (u ∷ ts) t = merged_push (cond (has seen u) seen (seen ++ (u ∷ []))) ts t

pub merged_grows : (seen ts : List ℤ) → length seen ≤ length (merged seen ts)
merged_grows seen [] = omega arith
merged_grows seen (t ∷ ts) = look (has seen t) (merged_grows seen ts) (merged_grows (seen ++ (t ∷ [])) ts) (length_push seen t)
  where
    look : (b : Bool) → length seen ≤ length (merged seen ts) → length (seen ++ (t ∷ [])) ≤ length (merged (seen ++ (t ∷ [])) ts) → length (seen ++ (t ∷ [])) ≡ length seen + 1 → length seen ≤ length (merged (cond b seen (seen ++ (t ∷ []))) ts)
    look true a b e = a
    look false a b e = omega arith

pub none_merged : (ts : List ℤ) → length (merged [] ts) ≡ 0 → ts ≡ []
none_merged [] e = refl
none_merged (t ∷ ts) e = absurd (let g = merged_grows (t ∷ []) ts in omega arith)

has_member : (C : Clause) (t : ℤ) → has C t ≡ true → t ∈ C
has_member [] t h = absurd (clash h)
has_member (u ∷ C) t h = look (same u t) refl (λ z. has_member C t z)
  where
    look : (b : Bool) → same u t ≡ b → (has C t ≡ true → t ∈ C) → t ∈ (u ∷ C)
    look true e r = inl (sym (same_true u t e))
    look false e r = inr (r (sym (ap (λ b. cond b true (has C t)) e) ∙ h))

one_of : (t u : ℤ) → t ∈ (u ∷ []) → t ≡ u
one_of t u (inl e) = e
one_of t u (inr h) = absurd h

-- nothing is added, and nothing is lost
pub merged_from : (t : ℤ) (seen ts : List ℤ) → t ∈ merged seen ts → (t ∈ seen) ⊎ (t ∈ ts)
merged_from t seen [] h = inl h
merged_from t seen (u ∷ ts) h = look (has seen u) h (merged_from t seen ts) (merged_from t (seen ++ (u ∷ [])) ts)
  where
    look : (b : Bool) → t ∈ merged (cond b seen (seen ++ (u ∷ []))) ts → (t ∈ merged seen ts → (t ∈ seen) ⊎ (t ∈ ts)) → (t ∈ merged (seen ++ (u ∷ [])) ts → (t ∈ (seen ++ (u ∷ []))) ⊎ (t ∈ ts)) → (t ∈ seen) ⊎ (t ∈ (u ∷ ts))
    look true m old new = ⊎_elim (λ (x : t ∈ seen). inl x) (λ (y : t ∈ ts). inr (inr y)) (old m)
    look false m old new = ⊎_elim (λ (x : t ∈ (seen ++ (u ∷ []))). ⊎_elim (λ (z : t ∈ seen). inl z) (λ (w : t ∈ (u ∷ [])). inr (inl (one_of t u w))) (in_either t seen (u ∷ []) x)) (λ (y : t ∈ ts). inr (inr y)) (new m)

pub merged_all : (t : ℤ) (seen ts : List ℤ) → (t ∈ seen) ⊎ (t ∈ ts) → t ∈ merged seen ts
merged_all t seen [] (inl h) = h
merged_all t seen [] (inr h) = absurd h
merged_all t seen (u ∷ ts) h = look (has seen u) refl h (merged_all t seen ts) (merged_all t (seen ++ (u ∷ [])) ts)
  where
    look : (b : Bool) → has seen u ≡ b → (t ∈ seen) ⊎ (t ∈ (u ∷ ts)) → ((t ∈ seen) ⊎ (t ∈ ts) → t ∈ merged seen ts) → ((t ∈ (seen ++ (u ∷ []))) ⊎ (t ∈ ts) → t ∈ merged (seen ++ (u ∷ [])) ts) → t ∈ merged (cond b seen (seen ++ (u ∷ []))) ts
    look true e (inl x) old new = old (inl x)
    look true e (inr (inl y)) old new = old (inl (subst (λ (v : ℤ). v ∈ seen) (sym y) (has_member seen u e)))
    look true e (inr (inr y)) old new = old (inr y)
    look false e (inl x) old new = new (inl (in_left t seen (u ∷ []) x))
    look false e (inr (inl y)) old new = new (inl (in_right t seen (u ∷ []) (inl y)))
    look false e (inr (inr y)) old new = new (inr y)

pub merged_same : (ts : List ℤ) → SameLiterals (merged [] ts) ts
merged_same ts t = ((λ m. ⊎_elim (λ (x : t ∈ []). absurd x) (λ (y : t ∈ ts). y) (merged_from t [] ts m)), (λ m. merged_all t [] ts (inr m)))
