-- The lists of both kinds of order have each of 1 to n once.
use Rattle.std.specs.Prelude.{◌≡◌, ℕ, zero, suc, ◌+◌, ◌<◌, ◌≤◌, true, false, List, [], ◌∷◌, ◌++◌, length, ◌==◌, nat_eq, refl}
use Rattle.std.proofs.Common.{sym, ap, ◌∙◌, inl, inr, ⊎_elim, eq-or-lt_of_le, arith, eqb-true}
use Rattle.std.proofs.lemmas.List.{length_push}
use Rattle.std.proofs.lemmas.Bool.{false≢true, cases_Bool}
use Rattle.model.specs.Clauses.{Member}
use Rattle.model.specs.Settling.{Lists}
use Rattle.orders.specs.Listed.{numbers, by_number, holds, tally}

pub numbers_count : (n : ℕ) → length (numbers n) ≡ n
numbers_count zero = refl
numbers_count (suc n) = length_push (numbers n) (suc n) ∙ (ap (λ k. k + 1) (numbers_count n) ∙ omega arith)

pub member_left : {A : Type 0} (x : A) (xs ys : List A) → Member x xs → Member x (xs ++ ys)
member_left x [] ys m = absurd m
member_left x (y ∷ xs) ys m = ⊎_elim (λ e. inl e) (λ t. inr (member_left x xs ys t)) m

pub member_last : {A : Type 0} (x : A) (xs : List A) → Member x (xs ++ (x ∷ []))
member_last x [] = inl refl
member_last x (y ∷ xs) = inr (member_last x xs)

numbers_all : (n k : ℕ) → 0 < k → k ≤ n → Member k (numbers n)
numbers_all zero k p h = absurd (omega arith)
numbers_all (suc n) k p h = ⊎_elim
    (λ (e : k ≡ suc n). rw e (member_last (suc n) (numbers n)))
    (λ (l : k < suc n). member_left k (numbers n) (suc n ∷ []) (numbers_all n k p (omega arith)))
    (eq-or-lt_of_le h)

pub by_number_lists : (n : ℕ) → Lists (by_number n)
by_number_lists n = (numbers_count n, numbers_all n)

-- a list that has as many of 1 to n as it has places, and has them all

tally_all : (n : ℕ) (xs : List ℕ) → ((k : ℕ) → 0 < k → k ≤ n → holds xs k ≡ true) → tally n xs ≡ n
tally_all zero xs f = refl
tally_all (suc n) xs f =
    let h : holds xs (suc n) ≡ true = f (suc n) (omega arith) (omega arith) in
    let i = tally_all n xs (λ k p q. f k p (omega arith)) in
    rw (h, i) (omega arith)

holds_member : (xs : List ℕ) (k : ℕ) → holds xs k ≡ true → Member k xs
holds_member [] k h = absurd (false≢true h)
holds_member (x ∷ xs) k h = ⊎_elim
    (λ (e : nat_eq x k ≡ true). inl (sym (eqb-true x k e)))
    (λ (e : nat_eq x k ≡ false). inr (holds_member xs k (rw e at h)))
    (cases_Bool (x == k))

pub listing_lists : (size : ℕ) (xs : List ℕ) → tally size xs ≡ length xs → ((k : ℕ) → 0 < k → k ≤ size → holds xs k ≡ true) → Lists (record { size = size; list = xs })
listing_lists size xs t f = (sym t ∙ tally_all size xs f, λ k p q. holds_member xs k (f k p q))
