use Rattle.std.proofs.Common.{◌≡◌, ℕ, zero, suc, ◌-◌, ◌<◌, ◌≤◌, false, eqb, List, [], ◌∷◌, ◌++◌, length, map, get_or, take, Option, Bor, MatchOption, Some, None, Ok, sym, refl, ap, ◌∙◌, arith, ne_eqb}
use Rattle.std.specs.List.{slice_get}
use Rattle.std.specs.Option.{option_map}
use Rattle.std.proofs.lemmas.Option.{slice_get_past, slice_get_read, slice_get-map}
use Rattle.model.specs.declared.Step.{Step}
use Rattle.model.specs.Settling.{Puts}
use Rattle.records.specs.Kept.{keeper, step_at}

take_one : (k : ℕ) (s : Step) → 0 < k → take k (s ∷ []) ≡ s ∷ []
take_one zero s h = absurd (omega arith)
take_one (suc zero) s h = refl
take_one (suc (suc k)) s h = refl

-- a keeper with room holds one step more, and has a place less
pub put_into : (xs ys : List Step) (k k' : ℕ) (s : Step) → 0 < k → ys ≡ xs ++ (s ∷ []) → k' ≡ k - 1 → Puts (keeper xs k) s (keeper ys k') (Ok tt)
put_into xs ys k k' s h e f =
    let t = take_one k s h in
    let z : eqb k 0 ≡ false = ne_eqb k 0 (λ q. omega arith) in
    (simp z, refl, simp (e, f, t))

-- look: the answer to `get` at a place, and what it says
got : {X : Type 0} (xs : List X) (i : ℕ) (r : Option (Bor X)) → MatchOption r (length xs ≤ i) (λ x. (i < length xs) × ((d : X) → x.now ≡ get_or xs i d))
    → option_map (λ x. x.now) r ≡ slice_get xs i
got xs i None h = sym (slice_get_past xs i h)
got xs i (Some x) h = sym (slice_get_read xs (length xs) i x.now refl h.0 (h.1 x.now))

twice : {X : Type 0} (f : X → Step) (r : Option (Bor X)) → option_map (λ x. f x.now) r ≡ option_map f (option_map (λ x. x.now) r)
twice f None = refl
twice f (Some x) = refl

pub looked : {X : Type 0} (f : X → Step) (xs : List X) (k i : ℕ) (r : Option (Bor X)) → MatchOption r (length xs ≤ i) (λ x. (i < length xs) × ((d : X) → x.now ≡ get_or xs i d))
    → 1 ≤ k → i ≡ k - 1 → option_map (λ x. f x.now) r ≡ step_at (map f xs) k
looked f xs zero i r h p e = absurd (omega arith)
looked f xs (suc k) i r h p e =
    let j : i ≡ k = omega arith in
    twice f r ∙ (ap (option_map f) (got xs i r h) ∙ (sym (slice_get-map f xs i) ∙ ap (slice_get (map f xs)) j))
