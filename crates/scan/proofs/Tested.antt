-- The test of a clause with one literal more.
use Rattle.std.proofs.Common.{◌≡◌, ◌≢◌, [], ◌∷◌, ◌++◌, ℤ, Ok, Err, Result, sym, refl, ap, ◌∙◌, subst, inl, inr, arith}
use Rattle.std.specs.Result.{IsOk}
use Rattle.model.specs.Clauses.{Clause, ◌∈◌, Within}
use Rattle.clauses.specs.declared.Literal.{Literal}
use Rattle.clauses.specs.declared.NoLiteral.{NoLiteral}
use Rattle.model.specs.Search.{Setting, value, AllFalse, UnitOn, SomeUnit, SomeTrue}
use Rattle.scan.specs.declared.Test.{Test}
use Rattle.scan.specs.declared.Test.TheVariants.{AllFalse as all_false, Unit as unit, SomeTrue as some_true, Open as neither}
use Rattle.scan.specs.Tests.{Tested, SomeUnset}
use Rattle.clauses.specs.Sets.{code, Coded}
use Rattle.model.proofs.Members.{in_left, in_last, in_pushed}

-- the number of a variable up to 256, either way, is that of a literal
pub coded_ok : (t : ℤ) (r : Result Literal NoLiteral) → Coded t r → Within 256 t → IsOk r
coded_ok t (Ok l) c w = refl
coded_ok t (Err e) c w = absurd (c w)

module _ (σ : Setting) (C : Clause) (t : ℤ) where
  pub true_more : SomeTrue σ C → SomeTrue σ (C ++ t ∷ [])
  true_more (u, h, e) = (u, in_left u C (t ∷ []) h, e)

  pub false_more : value σ t ≡ 0 → AllFalse σ C → AllFalse σ (C ++ t ∷ [])
  false_more e h u k = elim (in_pushed t u C k) [ inl m ↦ h u m | inr q ↦ ap (value σ) q ∙ e ]

  pub unit_more : (u : ℤ) → value σ t ≡ 0 → UnitOn σ u C → UnitOn σ u (C ++ t ∷ [])
  unit_more u e (h, k, f) = (in_left u C (t ∷ []) h, k, λ w m n. elim (in_pushed t w C m) [ inl p ↦ f w p n | inr q ↦ ap (value σ) q ∙ e ])

  pub unit_again : (u : ℤ) → t ≡ u → UnitOn σ u C → UnitOn σ u (C ++ t ∷ [])
  unit_again u e (h, k, f) = (in_left u C (t ∷ []) h, k, λ w m n. elim (in_pushed t w C m) [ inl p ↦ f w p n | inr q ↦ absurd (n (q ∙ e)) ])

  pub unit_first : value σ t ≡ 2 → AllFalse σ C → UnitOn σ t (C ++ t ∷ [])
  unit_first e f = (in_last t C, e, λ w m n. elim (in_pushed t w C m) [ inl p ↦ f w p | inr q ↦ absurd (n q) ])

  pub no_true_more : (value σ t ≢ 1) → (SomeTrue σ C → ⊥) → SomeTrue σ (C ++ t ∷ []) → ⊥
  no_true_more n h (u, m, e) = elim (in_pushed t u C m) [ inl p ↦ h (u, p, e) | inr q ↦ n (sym (ap (value σ) q) ∙ e) ]

  -- an unset literal that is not t keeps the clause from being a unit with t unset
  pub no_unit_second : (u : ℤ) → (u ∈ C) → value σ u ≡ 2 → value σ t ≡ 2 → t ≢ u → SomeUnit σ (C ++ t ∷ []) → ⊥
  no_unit_second u m a b n (w, (k, e, f)) =
      let p : (u ≢ w) → ⊥ = λ q. let z = f u (in_left u C (t ∷ []) m) q in omega (arith, z, a) in
      let r : (t ≢ w) → ⊥ = λ q. let z = f t (in_last t C) q in omega (arith, z, b) in
      p (λ e1. r (λ e2. n (e2 ∙ sym e1)))

  -- a clause that is no unit, and not false, is no unit with one more
  pub no_unit_more : SomeUnset σ C → (SomeUnit σ C → ⊥) → SomeUnit σ (C ++ t ∷ []) → ⊥
  no_unit_more (u, m, a) h (w, (k, e, f)) =
      let p : (u ≢ w) → ⊥ = λ q. let z = f u (in_left u C (t ∷ []) m) q in omega (arith, z, a) in
      p (λ q. h (w, (subst (λ (x : ℤ). x ∈ C) q m, e, λ x l n. f x (in_left x C (t ∷ []) l) n)))

  pub unset_more : SomeUnset σ C → SomeUnset σ (C ++ t ∷ [])
  unset_more (u, h, e) = (u, in_left u C (t ∷ []) h, e)

  pub tested_false : (r : Test) → value σ t ≡ 0 → Tested σ C r → Tested σ (C ++ t ∷ []) r
  tested_false all_false e h = false_more e h
  tested_false (unit u) e h = unit_more (code u) e h
  tested_false some_true e h = true_more h
  tested_false neither e (a, b, d) = (unset_more a, no_true_more (λ q. omega (arith, q, e)) b, no_unit_more a d)

  pub open_more : value σ t ≡ 2 → Tested σ C neither → Tested σ (C ++ t ∷ []) neither
  open_more e (a, b, d) = (unset_more a, no_true_more (λ q. omega (arith, q, e)) b, no_unit_more a d)

  pub open_second : (u : ℤ) → value σ t ≡ 2 → t ≢ u → UnitOn σ u C → Tested σ (C ++ t ∷ []) neither
  open_second u e n (m, a, f) =
      ((u, in_left u C (t ∷ []) m, a), no_true_more (λ q. omega (arith, q, e)) no_true, no_unit_second u m a e n)
    where
      no_true : SomeTrue σ C → ⊥
      no_true (w, k, b) = let z : w ≢ u = λ q. omega (arith, ap (value σ) q, a, b) in omega (arith, f w k z, b)
