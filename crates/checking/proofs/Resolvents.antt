-- The resolvent of sets holds the clause of a step.
use Rattle.std.proofs.Common.{◌≡◌, ℕ, Bool, true, false, cond, not, ◌&&◌, ◌||◌, [], ◌∷◌, ◌++◌, ℤ, sym, refl, ap, ◌∙◌}
use Rattle.std.specs.Cmp.{both_ways}
use Rattle.std.proofs.Math.Bool.{and-false}
use Rattle.std.proofs.lemmas.Bool.{false≢true}
use Rattle.model.specs.Clauses.{Clause, on, off, same, has}
use Rattle.model.specs.Checking.{without}
use Rattle.model.proofs.Signs.{same_refl, same_true, has_in, in_has}
use Rattle.clauses.specs.declared.LiteralSet.{LiteralSet}
use Rattle.clauses.specs.Sets.{member, left_over, Holds}

pub has_member : (s : LiteralSet) (C : Clause) → Holds s C → (u : ℤ) → has C u ≡ member s u
has_member s C h u = both_ways (has C u) (member s u) (λ e. (h u).0 (has_in C u e)) (λ e. in_has C u ((h u).1 e))

pub member_holds : (s : LiteralSet) (C : Clause) → ((u : ℤ) → has C u ≡ member s u) → Holds s C
member_holds s C f u = ((λ h. sym (f u) ∙ in_has C u h), λ h. has_in C u (f u ∙ h))

has_append : (C D : Clause) (u : ℤ) → has (C ++ D) u ≡ (has C u || has D u)
has_append [] D u = refl
has_append (x ∷ C) D u = ap (cond (same x u) true) (has_append C D u) ∙ look (same x u)
  where
    look : (b : Bool) → cond b true (has C u || has D u) ≡ (cond b true (has C u) || has D u)
    look true = refl
    look false = refl

has_without : (t : ℤ) (C : Clause) (u : ℤ) → has (without t C) u ≡ (has C u && not (same t u))
has_without t [] u = refl
has_without t (x ∷ C) u = look (same x t) refl (same x u) refl (same t u) refl (has_without t C u)
  where
    look : (a : Bool) → same x t ≡ a → (b : Bool) → same x u ≡ b → (c : Bool) → same t u ≡ c → has (without t C) u ≡ (has C u && not c)
        → has (cond a (without t C) (x ∷ without t C)) u ≡ (cond b true (has C u) && not c)
    look true p true q true r h = h ∙ and-false (has C u)
    look true p true q false r h = absurd (false≢true (sym r ∙ ap (λ (y : ℤ). same y u) (sym (same_true x t p)) ∙ q))
    look true p false q c r h = h
    look false p true q true r h = absurd (false≢true (sym p ∙ ap (same x) (same_true t u r ∙ sym (same_true x u q)) ∙ same_refl x))
    look false p true q false r h = ap (λ (b : Bool). cond b true (has (without t C) u)) q
    look false p false q c r h = ap (λ (b : Bool). cond b true (has (without t C) u)) q ∙ h

pub holds_resolvent : (l n r : LiteralSet) (L N : Clause) (k : ℕ) → Holds l L → Holds n N → ((u : ℤ) → member r u ≡ left_over l n (on k) u) → Holds r (without (on k) L ++ without (off k) N)
holds_resolvent l n r L N k hl hn e = member_holds r (without (on k) L ++ without (off k) N) (λ u.
    has_append (without (on k) L) (without (off k) N) u
    ∙ ap (λ (b : Bool). b || has (without (off k) N) u) (has_without (on k) L u ∙ ap (λ (b : Bool). b && not (same (on k) u)) (has_member l L hl u))
    ∙ ap (λ (b : Bool). (member l u && not (same (on k) u)) || b) (has_without (off k) N u ∙ ap (λ (b : Bool). b && not (same (off k) u)) (has_member n N hn u))
    ∙ sym (e u))
