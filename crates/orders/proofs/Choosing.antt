use Rattle.std.proofs.Common.{◌≡◌, ℕ, zero, suc, ◌+◌, ◌-◌, ◌<◌, ◌≤◌, Bool, true, false, eqb, ltb, cond, ◌≢◌, List, [], ◌∷◌, ◌++◌, length, get_or, take, drop, min, option_map, Option, IfSome, Some, None, sym, refl, ap, ◌∙◌, subst, ⊎_elim, arith, true-eqb, false-eqb}
use Rattle.std.specs.List.{find, range_with_len, position_from, position_or_len}
use Rattle.std.specs.declared.ops.RangeInclusive.{RangeInclusive}
use Rattle.std.specs.Range.{range_inclusive_start, range_inclusive_end, range_inclusive_exhausted, range_inclusive_len, range_inclusive_left, range_inclusive_steps}
use Rattle.std.proofs.lemmas.Iterator.{YieldsList}
use Rattle.std.proofs.lemmas.Iterator.Consumers.{YieldsList-from_shown}
use Rattle.std.proofs.lemmas.Bool.{cases_Bool, ltb-true, ltb-false}
use Rattle.std.proofs.lemmas.List.{drop_more, drop_all, get_or_past, take_min}
use Rattle.std.proofs.lemmas.Iterator.Adapters.{position_from-zero}
use Rattle.model.specs.Search.{entry, Chosen, this, next}
use Rattle.model.specs.Settling.{Chooses}
use Rattle.orders.specs.Listed.{numbers}

skips : (σ ks : List ℕ) (k : ℕ) (r : Option ℕ) → entry σ k ≢ 2 → Chooses σ ks r → Chooses σ (k ∷ ks) r
skips σ ks k None n c = (n, c)
skips σ ks k (Some v) n c = next n c

first_of : (σ ks : List ℕ) (k : ℕ) (r : Option ℕ) (b : Bool) → b ≡ eqb (entry σ k) 2 → Chooses σ ks r → Chooses σ (k ∷ ks) (cond b (Some k) r)
first_of σ ks k r true e c = this (true-eqb (entry σ k) 2 e)
first_of σ ks k r false e c = skips σ ks k r (false-eqb (entry σ k) 2 e) c

chooses_first : (σ ks : List ℕ) → Chooses σ ks (find (λ k. eqb (entry σ k) 2) ks)
chooses_first σ [] = tt
chooses_first σ (k ∷ ks) = first_of σ ks k (find (λ j. eqb (entry σ j) 2) ks) (eqb (entry σ k) 2) refl (chooses_first σ ks)

-- a variable that is found is chosen, and if none is found, none is
pub chooses_found : (σ ks : List ℕ) (r : Option ℕ) → option_map (λ x. x) r ≡ find (λ k. eqb (entry σ k) 2) ks → Chooses σ ks r
chooses_found σ ks None e = rw (← e) at (chooses_first σ ks)
chooses_found σ ks (Some v) e = rw (← e) at (chooses_first σ ks)

range_end : (a n : ℕ) → range_with_len a (suc n) ≡ range_with_len a n ++ ((a + n) ∷ [])
range_end a zero = let e : a + 0 ≡ a = omega arith in rw e
range_end a (suc n) = let e : a + suc n ≡ a + 1 + n = omega arith in rw e (ap (λ xs. a ∷ xs) (range_end (a + 1) n))

range_numbers : (n : ℕ) → range_with_len 1 n ≡ numbers n
range_numbers zero = refl
range_numbers (suc n) = let e : 1 + n ≡ suc n = omega arith in range_end 1 n ∙ rw (range_numbers n, e)

-- `1..=n` gives the numbers of 1 to n

left : RangeInclusive ℕ → ℕ
left s = range_inclusive_left (λ a b. b - a) s

steps : RangeInclusive ℕ → Option ℕ → RangeInclusive ℕ → Type 0
steps s r t = range_inclusive_steps (λ a b. b - a) (λ a b. b ≡ a + 1) s r t

shown : RangeInclusive ℕ → List ℕ
shown s = range_with_len (range_inclusive_start s) (left s)

front : (b : Bool) (a c m : ℕ) → (b ≡ false → c ≡ a + 1) → (b ≡ true → m ≡ 0) → range_with_len a (m + 1) ≡ a ∷ range_with_len c m
front true a c m f g = rw (g refl)
front false a c m f g = let e : m + 1 ≡ suc m = omega arith in rw (e, f refl)

shown_next : (s : RangeInclusive ℕ) (x : ℕ) (t : RangeInclusive ℕ) → steps s (Some x) t → shown s ≡ x ∷ shown t
unfolding steps shown left
shown_next s x t h =
    let gone : range_inclusive_exhausted t ≡ true → left t ≡ 0 = λ z. ap (λ b. range_inclusive_len (λ a c. c - a) (range_inclusive_start t) (range_inclusive_end t) b) z in
    ap (range_with_len (range_inclusive_start s)) (sym h.1.1)
    ∙ (front (range_inclusive_exhausted t) (range_inclusive_start s) (range_inclusive_start t) (left t) h.1.2 gone ∙ ap (λ y. y ∷ shown t) (sym h.1.0))

pub numbers_yielded : (s : RangeInclusive ℕ) (n : ℕ) → range_inclusive_start s ≡ 1 → range_inclusive_end s ≡ n → range_inclusive_exhausted s ≡ false
    → YieldsList (range_inclusive_steps (λ a b. b - a) (λ a b. b ≡ a + 1)) (λ x. x) s (numbers n)
unfolding steps shown left
numbers_yielded s n a b e =
    let l : left s ≡ n = ap (λ z. range_inclusive_len (λ x y. y - x) (range_inclusive_start s) (range_inclusive_end s) z) e ∙ omega arith in
    let all : shown s ≡ numbers n = ap (λ k. range_with_len k (left s)) a ∙ (ap (range_with_len 1) l ∙ range_numbers n) in
    subst (λ xs. YieldsList steps (λ x. x) s xs) all (YieldsList-from_shown steps (λ x. x) shown (λ r t h. ap (λ m. length (range_with_len (range_inclusive_start r) m)) h.1.0) shown_next s)

-- the numbers of 1 to n, by the places of their bytes

abbrev place_of_unset : ℕ → List ℕ → Option ℕ
place_of_unset a bytes = position_from (λ b. eqb b 2) a bytes

abbrev pub numbered : Option ℕ → Option ℕ
numbered r = option_map (λ i. i + 1) r

at_place : (σ ks : List ℕ) (a k : ℕ) (b : Bool) (r : Option ℕ) → k ≡ a + 1 → b ≡ eqb (entry σ k) 2 → Chooses σ ks (numbered r) → Chooses σ (k ∷ ks) (numbered (cond b (Some a) r))
at_place σ ks a k true r e t c = rw (← e) (first_of σ ks k (option_map (λ i. i + 1) r) true t c)
at_place σ ks a k false r e t c = first_of σ ks k (option_map (λ i. i + 1) r) false t c

none_taken : (a n : ℕ) → place_of_unset a (take n []) ≡ None
none_taken a zero = refl
none_taken a (suc n) = refl

from_place : (σ : List ℕ) (n a k : ℕ) → k ≡ a + 1 → Chooses σ (range_with_len k n) (numbered (place_of_unset a (take n (drop a σ))))
from_place σ zero a k e = tt
from_place σ (suc n) a k e = ⊎_elim
    (λ (t : ltb a (length σ) ≡ true).
    let l : a < length σ = ltb-true a (length σ) t in
    let x = get_or σ a 0 in
    let q : k ≡ suc a = omega (arith, e) in
    let at : entry σ k ≡ x = ap (entry σ) q in
    let more = at_place σ (range_with_len (k + 1) n) a k (eqb x 2) (place_of_unset (a + 1) (take n (drop (a + 1) σ))) e (ap (λ z. eqb z 2) (sym at)) (from_place σ n (a + 1) (k + 1) (omega (arith, e))) in
    subst (λ bs. Chooses σ (range_with_len k (suc n)) (numbered (place_of_unset a (take (suc n) bs)))) (sym (drop_more σ a 0 l)) more)
    (λ (t : ltb a (length σ) ≡ false).
    let l : length σ ≤ a = ltb-false a (length σ) t in
    let q : k ≡ suc a = omega (arith, e) in
    let at : entry σ k ≡ 0 = ap (entry σ) q ∙ get_or_past σ a 0 l in
    let none = subst (λ bs. Chooses σ (range_with_len (k + 1) n) (numbered (place_of_unset (a + 1) (take n bs)))) (drop_all (a + 1) σ (omega (arith, l))) (from_place σ n (a + 1) (k + 1) (omega (arith, e))) in
    subst (λ bs. Chooses σ (range_with_len k (suc n)) (numbered (place_of_unset a (take (suc n) bs)))) (sym (drop_all a σ l)) (first_of σ (range_with_len (k + 1) n) k None false (ap (λ z. eqb z 2) (sym at)) (subst (λ r. Chooses σ (range_with_len (k + 1) n) (numbered r)) (none_taken (a + 1) n) none)))
    (cases_Bool (ltb a (length σ)))

-- the bytes of the variables 1 to n, as far as there are any
pub bytes_of : (σ : List ℕ) (n few : ℕ) → few ≡ min n (length σ) → take few σ ≡ take n σ
bytes_of σ n few f = ap (λ k. take k σ) f ∙ take_min n σ

-- The same where the part is written with its beginning: that has to be 0. The code writes none; a part that leaves out variable 1 is refused here.
pub bytes_from : (σ : List ℕ) (n few a : ℕ) → a ≡ 0 → few ≡ min n (length σ) → take (few - a) (drop a σ) ≡ take n σ
bytes_from σ n few a z f = let e : few - 0 ≡ few = omega arith in rw (z, e) (bytes_of σ n few f)

-- the variable after the place of the first byte that is 2 among those of 1 to n
pub chooses_place : (σ : List ℕ) (n : ℕ) (bytes : List ℕ) (r : Option ℕ) → r ≡ cond (ltb (position_or_len (λ b. eqb b 2) bytes) (length bytes)) (Some (position_or_len (λ b. eqb b 2) bytes)) None → bytes ≡ take n σ → Chooses σ (numbers n) (numbered r)
chooses_place σ n bytes r e f =
    let place = e ∙ (position_from-zero (λ b. eqb b 2) bytes ∙ ap (place_of_unset 0) f) in
    subst (λ ks. Chooses σ ks (numbered r)) (range_numbers n) (subst (λ p. Chooses σ (range_with_len 1 n) (numbered p)) (sym place) (from_place σ n 0 1 refl))

pub chosen_unset : {σ ks : List ℕ} {v : ℕ} → Chosen σ ks v → entry σ v ≡ 2
chosen_unset (this e) = e
chosen_unset (next n c) = chosen_unset c

pub choice_unset : (σ ks : List ℕ) (r : Option ℕ) → Chooses σ ks r → IfSome r (λ v. entry σ v ≡ 2)
choice_unset σ ks None c = tt
choice_unset σ ks (Some v) c = chosen_unset c
