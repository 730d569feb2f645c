-- An answer that was passed on with another error, by `map_err`: what it was before.
use Rattle.std.proofs.Common.{◌≡◌, ℕ, Ok, Err, Result, sym, refl, ◌∙◌, arith}
use Rattle.std.specs.Result.{MatchResult, IsErrAnd}
use Rattle.std.proofs.lemmas.Result.{err_from_is_err_and}

module _ {A D F : Type 0} (Q : D → F → Type 0) where
  pub ok_before : (r : Result A D) (r' : Result A F) → MatchResult r (λ x. r' ≡ Ok x) (λ e. IsErrAnd r' (Q e)) → (x : A) → r' ≡ Ok x → r ≡ Ok x
  ok_before (Ok y) r' m x e = let h = sym m ∙ e in cc
  ok_before (Err d) r' m x e = absurd (let p = err_from_is_err_and r' m in let z : ◌≡◌ {A = ℕ} 0 1 = cc (p.1, e) in omega arith)

  pub err_before : (g : D → F) → ((d : D) (f : F) → Q d f → f ≡ g d) → (r : Result A D) (r' : Result A F) → MatchResult r (λ x. r' ≡ Ok x) (λ e. IsErrAnd r' (Q e)) → (f : F) → r' ≡ Err f → (d : D) × (r ≡ Err d) × (f ≡ g d)
  err_before g w (Ok y) r' m f e = absurd (let z : ◌≡◌ {A = ℕ} 0 1 = cc (m, e) in omega arith)
  err_before g w (Err d) r' m f e = let p = err_from_is_err_and r' m in let q : f ≡ p.0 = cc (p.1, e) in (d, refl, q ∙ w d p.0 p.2)
