-- Members, firsts and each by their places, as a loop over a list has them.
use Rattle.std.proofs.Common.{◌≡◌, ℕ, zero, suc, ◌<◌, List, [], ◌∷◌, length, get_or, sym, refl, inl, inr, arith}
use Rattle.model.specs.Clauses.{Clause, Member, Each}
use Rattle.model.specs.Search.{First, here, later}

pub member_place : {A : Type 0} (x d : A) (xs : List A) → Member x xs → (i : ℕ) × (i < length xs) × (get_or xs i d ≡ x)
member_place x d [] h = absurd h
member_place x d (y ∷ ys) (inl e) = (0, omega arith, sym e)
member_place x d (y ∷ ys) (inr h) = let r = member_place x d ys h in (suc r.0, (let l = r.1 in omega arith), r.2)

pub place_member : {A : Type 0} (d : A) (xs : List A) (i : ℕ) → i < length xs → Member (get_or xs i d) xs
place_member d [] i h = absurd (omega arith)
place_member d (y ∷ ys) zero h = inl refl
place_member d (y ∷ ys) (suc i) h = inr (place_member d ys i (omega arith))

-- what holds at each place holds of each member
pub each_place : {A : Type 0} (P : A → Type 0) (d : A) (xs : List A) → ((i : ℕ) → i < length xs → P (get_or xs i d)) → Each P xs
each_place P d [] f = tt
each_place P d (x ∷ xs) f = (f 0 (omega arith), each_place P d xs (λ i h. f (suc i) (omega arith)))

pub place_each : {A : Type 0} (P : A → Type 0) (d : A) (xs : List A) → Each P xs → (i : ℕ) → i < length xs → P (get_or xs i d)
place_each P d [] e i h = absurd (omega arith)
place_each P d (x ∷ xs) e zero h = e.0
place_each P d (x ∷ xs) e (suc i) h = place_each P d xs e.1 i (omega arith)

pub first_place : (P : Clause → Type 0) (F : List Clause) (i : ℕ) → i < length F → P (get_or F i []) → ((j : ℕ) → j < i → P (get_or F j []) → ⊥) → First P F (suc i) (get_or F i [])
first_place P [] i h p n = absurd (omega arith)
first_place P (C ∷ F) zero h p n = here p
first_place P (C ∷ F) (suc i) h p n = later (λ q. n 0 (omega arith) q) (first_place P F i (omega arith) p (λ j l q. n (suc j) (omega arith) q))
