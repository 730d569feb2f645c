-- Members of joined, cut and extended clauses.
use Rattle.std.proofs.Common.{◌≡◌, ℕ, zero, suc, ◌<◌, ◌⊎◌, [], ◌∷◌, ◌++◌, length, get_or, take, drop, ℤ, refl, inl, inr, arith}
use Rattle.model.specs.Clauses.{Clause, ◌∈◌}

pub in_left : (t : ℤ) (C D : Clause) → t ∈ C → t ∈ (C ++ D)
in_left t (u ∷ C) D (inl e) = inl e
in_left t (u ∷ C) D (inr h) = inr (in_left t C D h)
in_left t [] D h = absurd h

pub in_right : (t : ℤ) (C D : Clause) → t ∈ D → t ∈ (C ++ D)
in_right t [] D h = h
in_right t (u ∷ C) D h = inr (in_right t C D h)

pub in_either : (t : ℤ) (C D : Clause) → t ∈ (C ++ D) → (t ∈ C) ⊎ (t ∈ D)
in_either t [] D h = inr h
in_either t (u ∷ C) D (inl e) = inl (inl e)
in_either t (u ∷ C) D (inr h) = elim (in_either t C D h) [ inl k ↦ inl (inr k) | inr k ↦ inr k ]

pub in_last : (t : ℤ) (C : Clause) → t ∈ (C ++ t ∷ [])
in_last t C = in_right t C (t ∷ []) (inl refl)

pub in_pushed : (t u : ℤ) (C : Clause) → u ∈ (C ++ t ∷ []) → (u ∈ C) ⊎ (u ≡ t)
in_pushed t u C h = elim (in_either u C (t ∷ []) h) [ inl k ↦ inl k | inr (inl e) ↦ inr e | inr (inr n) ↦ absurd n ]

pub in_get_or : (C : Clause) (i : ℕ) (d : ℤ) → i < length C → get_or C i d ∈ C
in_get_or [] i d h = omega arith
in_get_or (u ∷ C) zero d h = inl refl
in_get_or (u ∷ C) (suc i) d h = inr (in_get_or C i d (omega arith))

pub in_drop : (t : ℤ) (n : ℕ) (C : Clause) → t ∈ drop n C → t ∈ C
in_drop t zero C h = h
in_drop t (suc n) [] h = h
in_drop t (suc n) (u ∷ C) h = inr (in_drop t n C h)

pub in_take : (t : ℤ) (n : ℕ) (C : Clause) → t ∈ take n C → t ∈ C
in_take t zero C h = absurd h
in_take t (suc n) [] h = h
in_take t (suc n) (u ∷ C) (inl e) = inl e
in_take t (suc n) (u ∷ C) (inr h) = inr (in_take t n C h)
