-- Members of sets of literals.
use Rattle.std.proofs.Common.{◌≡◌, ℕ, zero, suc, ◌+◌, ◌*◌, ◌/◌, ◌<◌, ◌≤◌, Bool, true, false, cond, not, ◌&&◌, ◌||◌, ◌≢◌, ◌⊎◌, List, [], ◌∷◌, ◌++◌, length, get_or, replicate, ℤ, pos, negsuc, sym, refl, ap, ◌∙◌, subst, inl, inr, ⊎_elim, arith}
use Rattle.std.specs.List.{IsAnyAnswer}
use Rattle.std.specs.Bool.{beq}
use Rattle.std.specs.Array.{IsFromFnResultFrom, IsFromFnResult}
use Rattle.std.specs.Fn.{Called, Mut}
use Rattle.std.proofs.Math.Bool.{or-true}
use native.Mathlib.Decide.{dec_lt}
use Rattle.std.proofs.lemmas.List.{get_or_past}
use Rattle.std.proofs.lemmas.Bool.{false≢true}
use Rattle.model.specs.Clauses.{Clause, opposite, ◌∈◌, Within, same, has}
use Rattle.model.specs.Machine.{names}
use Rattle.model.specs.Search.{Joined}
use Rattle.model.proofs.Signs.{same_refl, same_true, same_false, has_in, in_has, has_push, names_within, within_names}
use Rattle.model.proofs.Failing.{joined_from}
use Rattle.clauses.specs.declared.LiteralSet.{LiteralSet}
use Rattle.clauses.specs.declared.Literal.{Literal}
use Rattle.clauses.specs.Sets.{code, member, named, left_over, Holds, Emptiness}

none_at : (n k : ℕ) → get_or (replicate n false) k false ≡ false
none_at zero k = refl
none_at (suc n) zero = refl
none_at (suc n) (suc k) = none_at n k

-- a set without a mark
pub unmarked : (s : LiteralSet) → ((k : ℕ) → get_or s.marks k false ≡ false) → (u : ℤ) → member s u ≡ false
unmarked s f (pos zero) = refl
unmarked s f (pos (suc k)) = f (2 * k + 1)
unmarked s f (negsuc k) = f (2 * k)

pub none_in : (u : ℤ) → member (record { marks = replicate 512 false }) u ≡ false
none_in = unmarked (record { marks = replicate 512 false }) (none_at 512)

pub code_within : (l : Literal) → l.index < 256 → Within 256 (code l)
code_within l h = look l.on
  where
    look : (b : Bool) → Within 256 (cond b (pos (suc l.index)) (negsuc l.index))
    look true = (omega arith, omega arith)
    look false = (omega arith, omega arith)

-- one literal more
pub named_more : (s s' : LiteralSet) (C : Clause) (t : ℤ) → Within 256 t → ((u : ℤ) → member s' u ≡ cond (same t u) true (member s u))
    → ((u : ℤ) → member s u ≡ named C u) → (u : ℤ) → member s' u ≡ named (C ++ (t ∷ [])) u
named_more s s' C t w put all u =
    put u ∙ ap (cond (same t u) true) (all u) ∙ look (same t u) refl ∙ sym (ap (λ (b : Bool). cond (names 256 u) b false) (has_push C t u))
  where
    look : (b : Bool) → same t u ≡ b → cond b true (cond (names 256 u) (has C u) false) ≡ cond (names 256 u) (cond b true (has C u)) false
    look true e = sym (ap (λ (x : Bool). cond x true false) (sym (ap (names 256) (same_true t u e)) ∙ within_names 256 t w))
    look false e = refl

-- a number that is no literal of the 256 variables
pub named_other : (C : Clause) (t : ℤ) → (Within 256 t → ⊥) → (u : ℤ) → named (C ++ (t ∷ [])) u ≡ named C u
named_other C t n u = ap (λ (b : Bool). cond (names 256 u) b false) (has_push C t u) ∙ look (names 256 u) refl (same t u) refl
  where
    look : (a : Bool) → names 256 u ≡ a → (b : Bool) → same t u ≡ b → cond a (cond b true (has C u)) false ≡ cond a (has C u) false
    look false p b q = refl
    look true p false q = refl
    look true p true q = absurd (n (names_within 256 t (ap (names 256) (same_true t u q) ∙ p)))

without : (p x : Bool) → cond p false x ≡ (x && not p)
without true true = refl
without true false = refl
without false true = refl
without false false = refl

pub united : (a b l r m : LiteralSet) (t o : ℤ) → ((u : ℤ) → member l u ≡ cond (same t u) false (member a u)) → o ≡ opposite t
    → ((u : ℤ) → member r u ≡ cond (same o u) false (member b u))
    → ((k : ℕ) → get_or m.marks k false ≡ (get_or l.marks k false || get_or r.marks k false)) → (u : ℤ) → member m u ≡ left_over a b t u
united a b l r m t o f e g h u =
    both u ∙ ap (λ (x : Bool). x || member r u) (f u ∙ without (same t u) (member a u))
    ∙ ap (λ (x : Bool). left_from || x) ((rw e at g u) ∙ without (same (opposite t) u) (member b u))
  where
    left_from : Bool
    left_from = member a u && not (same t u)

    both : (u : ℤ) → member m u ≡ (member l u || member r u)
    both (pos zero) = refl
    both (pos (suc k)) = h (2 * k + 1)
    both (negsuc k) = h (2 * k)

-- each mark is a literal's
literal_at : (s : LiteralSet) (k : ℕ) → (u : ℤ) × (member s u ≡ get_or s.marks k false)
literal_at s k = elim (dec_lt (2 * (k / 2)) k) [
  | yes h ↦ (pos (suc (k / 2)), ap (λ (i : ℕ). get_or s.marks i false) (omega arith))
  | no n ↦ (negsuc (k / 2), ap (λ (i : ℕ). get_or s.marks i false) (omega (arith, n)))
]

beq_true : (b : Bool) → b ≡ beq b true
beq_true true = refl
beq_true false = refl

pub emptiness : (s : LiteralSet) (b : Bool) → IsAnyAnswer (λ x a. beq x true ≡ a) s.marks b → Emptiness s (not b)
emptiness s true w = let l = literal_at s w.0 in (l.0, l.1 ∙ beq_true (get_or s.marks w.0 false) ∙ w.2 false)
emptiness s false f = unmarked s (λ k. elim (dec_lt k (length s.marks)) [
  | yes h ↦ beq_true (get_or s.marks k false) ∙ f k false (omega arith) h
  | no n ↦ get_or_past s.marks k false (omega (arith, n))
])

-- for crates above

-- a literal is known by its number
pub code_same : (a b : Literal) → code a ≡ code b → (a.index ≡ b.index) × (a.on ≡ b.on)
code_same a b e = look a.on b.on e
  where
    look : (p q : Bool) → cond p (pos (suc a.index)) (negsuc a.index) ≡ cond q (pos (suc b.index)) (negsuc b.index) → (a.index ≡ b.index) × (p ≡ q)
    look true true e = (cc, refl)
    look true false e = absurd (cc)
    look false true e = absurd (cc)
    look false false e = (cc, refl)

pub same_code : (a b : Literal) → a.index ≡ b.index → a.on ≡ b.on → code a ≡ code b
same_code a b e f = cc

-- a literal of the first n variables has its place among them
pub code_index : (l : Literal) (n : ℕ) → Within n (code l) → l.index < n
code_index l n w = look l.on w
  where
    look : (b : Bool) → Within n (cond b (pos (suc l.index)) (negsuc l.index)) → l.index < n
    look true w = omega (arith, w.1)
    look false w = omega (arith, w.1)

-- the set of a clause of the 256 variables holds it
pub holds_named : (s : LiteralSet) (C : Clause) → ((u : ℤ) → member s u ≡ named C u) → ((t : ℤ) → t ∈ C → Within 256 t) → Holds s C
holds_named s C f w u =
    ((λ h. f u ∙ ap (λ (b : Bool). cond b (has C u) false) (within_names 256 u (w u h)) ∙ in_has C u h), λ h. look (names 256 u) (sym (f u) ∙ h))
  where
    look : (b : Bool) → cond b (has C u) false ≡ true → u ∈ C
    look true h = has_in C u h
    look false h = absurd (false≢true h)

joined_all : (t : ℤ) (C D E : Clause) → Joined t C D E → (u : ℤ) → ((u ∈ C) × (u ≢ t)) ⊎ ((u ∈ D) × (u ≢ opposite t)) → u ∈ E
joined_all (pos k) C D E j u h = j.all u h
joined_all (negsuc k) C D E j u h = j.all u (⊎_elim inr inl h)

or_either : (x y p q : Bool) → ((x && not p) || (y && not q)) ≡ true → ((x ≡ true) × (p ≡ false)) ⊎ ((y ≡ true) × (q ≡ false))
or_either true y false q h = inl (refl, refl)
or_either true true true false h = inr (refl, refl)
or_either true true true true h = absurd (false≢true h)
or_either true false true q h = absurd (false≢true h)
or_either false true p false h = inr (refl, refl)
or_either false true p true h = absurd (false≢true h)
or_either false false p q h = absurd (false≢true h)

or_left : (x y p q : Bool) → x ≡ true → p ≡ false → ((x && not p) || (y && not q)) ≡ true
or_left x y p q e f = rw (e, f)

or_right : (x y p q : Bool) → y ≡ true → q ≡ false → ((x && not p) || (y && not q)) ≡ true
or_right x y p q e f = rw (e, f) (or-true (x && not p))

differs : (t u : ℤ) → same t u ≡ false → u ≢ t
differs t u p e = false≢true (sym p ∙ ap (same t) e ∙ same_refl t)

-- the resolvent of sets holds the resolvent of the clauses that they hold
pub holds_joined : (s f r : LiteralSet) (t : ℤ) (C D E : Clause) → Holds s C → Holds f D → ((u : ℤ) → member r u ≡ left_over s f t u) → Joined t C D E → Holds r E
holds_joined s f r t C D E hs hf h j u = (
  (λ i. h u ∙ ⊎_elim
      (λ (p : (u ∈ C) × (u ≢ t)). or_left (member s u) (member f u) (same t u) (same (opposite t) u) ((hs u).0 p.0) (same_false t u (λ e. p.1 (sym e))))
      (λ (p : (u ∈ D) × (u ≢ opposite t)). or_right (member s u) (member f u) (same t u) (same (opposite t) u) ((hf u).0 p.0) (same_false (opposite t) u (λ e. p.1 (sym e))))
      (joined_from t C D E j u i)),
  λ m. joined_all t C D E j u (⊎_elim
      (λ (p : (member s u ≡ true) × (same t u ≡ false)). inl ((hs u).1 p.0, differs t u p.1))
      (λ (p : (member f u ≡ true) × (same (opposite t) u ≡ false)). inr ((hf u).1 p.0, differs (opposite t) u p.1))
      (or_either (member s u) (member f u) (same t u) (same (opposite t) u) (sym (h u) ∙ m))),
)

-- an array that a closure without changes makes
module _ {F B : Type 0} (g : Mut F (ℕ × Unit {0}) B) (f : F) (v : ℕ → B) (stays : (i : ℕ) (y : B) (q : F) → Called g f (i, tt) y q → (q ≡ f) × (y ≡ v i)) where
  made_from : (ys : List B) (i n : ℕ) → IsFromFnResultFrom g f ys i n → (k : ℕ) (d : B) → i ≤ k → k < i + n → get_or ys k d ≡ v k
  made_from ys i zero w k d l h = absurd (omega arith)
  made_from ys i (suc n) w k d l h =
      let e = stays i w.1 w.0 w.3 in
      elim (dec_lt i k) [
        | yes p ↦ made_from ys (i + 1) n (subst (λ (x : F). IsFromFnResultFrom g x ys (i + 1) n) e.0 w.4) k d (omega (arith, p)) (omega arith)
        | no p ↦ subst (λ (j : ℕ). get_or ys j d ≡ v j) (let q : i ≡ k = omega (arith, p) in q) (w.2.1 d ∙ e.1)
      ]

pub made_at : {F B : Type 0} {g : Mut F (ℕ × Unit {0}) B} {f : F} {ys : List B} {n : ℕ} → IsFromFnResult g f ys n → (v : ℕ → B)
    → ((i : ℕ) (y : B) (q : F) → Called g f (i, tt) y q → (q ≡ f) × (y ≡ v i)) → (k : ℕ) (d : B) → k < n → get_or ys k d ≡ v k
made_at {g = g} {f = f} {ys = ys} {n = n} w v stays k d h = made_from g f v stays ys 0 n w.each k d (omega arith) (omega arith)
