use Rattle.std.proofs.Common.{◌≡◌, ℕ, zero, suc, ◌+◌, ◌<◌, ◌≤◌, true, false, cond, ◌||◌, eqb, ltb, leb, List, [], ◌∷◌, ◌++◌, sym, refl, ◌∙◌, ⊎_elim, eq-or-lt_of_le, arith, lt-ltb, eq-eqb, ne_eqb, le-leb}
use Rattle.std.proofs.lemmas.Bool.{cases_Bool}
use Rattle.std.proofs.lemmas.List.Recursion.{or_push}
use Rattle.model.specs.Settling.{OrderMeaning}
use Rattle.orders.specs.Listed.{numbers, by_preference, holds, wanted, listed, tally}

pub holds_push : (xs : List ℕ) (p k : ℕ) → holds (xs ++ (p ∷ [])) k ≡ (holds xs k || eqb p k)
holds_push xs p k = or_push (λ ys. holds ys k) (λ x. eqb x k) refl (λ x ys. refl) xs p

-- the tally of a list that grows

pub tally_none : (n : ℕ) → tally n [] ≡ 0
tally_none zero = refl
tally_none (suc n) = let e = tally_none n in omega arith

tally_same : (n : ℕ) (xs : List ℕ) (p : ℕ) → n < p → tally n (xs ++ (p ∷ [])) ≡ tally n xs
tally_same zero xs p h = refl
tally_same (suc n) xs p h =
    let i = tally_same n xs p (omega arith) in
    let q : eqb p (suc n) ≡ false = ne_eqb p (suc n) (λ e. omega arith) in
    rw (holds_push xs p (suc n), q, i) (elim (holds xs (suc n)) as (λ b. tally n xs + cond (b || false) 1 0 ≡ tally n xs + cond b 1 0) [ true ↦ refl | false ↦ refl ])

pub tally_push : (n : ℕ) (xs : List ℕ) (p : ℕ) → 0 < p → p ≤ n → holds xs p ≡ false → tally n (xs ++ (p ∷ [])) ≡ tally n xs + 1
tally_push zero xs p z h f = absurd (omega arith)
tally_push (suc n) xs p z h f = ⊎_elim
    (λ (e : p ≡ suc n).
    let g : holds xs (suc n) ≡ false = rw e at f in
    let q : eqb p (suc n) ≡ true = eq-eqb p (suc n) e in
    let i = tally_same n xs p (omega arith) in
    rw (holds_push xs p (suc n), g, q, i) (omega arith))
    (λ (l : p < suc n).
    let q : eqb p (suc n) ≡ false = ne_eqb p (suc n) (λ e. omega arith) in
    let i = tally_push n xs p z (omega arith) f in
    rw (holds_push xs p (suc n), q, i) (elim (holds xs (suc n)) as (λ b. tally n xs + 1 + cond (b || false) 1 0 ≡ tally n xs + cond b 1 0 + 1) [ true ↦ omega arith | false ↦ omega arith ]))
    (eq-or-lt_of_le h)

tally_most : (n : ℕ) (xs : List ℕ) → tally n xs ≤ n
tally_most zero xs = omega arith
tally_most (suc n) xs =
    let i = tally_most n xs in
    elim (holds xs (suc n)) as (λ b. tally n xs + cond b 1 0 ≤ suc n) [ true ↦ omega arith | false ↦ omega arith ]

-- where one of 1 to n is missing, there is room for it
pub tally_misses : (n : ℕ) (xs : List ℕ) (p : ℕ) → 0 < p → p ≤ n → holds xs p ≡ false → tally n xs < n
tally_misses n xs p z h f = let e = tally_push n xs p z h f in let m = tally_most n (xs ++ (p ∷ [])) in omega arith

-- one of 1 to n that is not listed yet is added
pub wanted_adds : (n : ℕ) (xs : List ℕ) (p : ℕ) → 0 < p → p ≤ n → holds xs p ≡ false → listed n xs (p ∷ []) ≡ xs ++ (p ∷ [])
wanted_adds n xs p z h f = let a : ltb 0 p ≡ true = lt-ltb 0 p z in let b : leb p n ≡ true = le-leb p n h in rw (a, b, f)

-- some are added, and then others
pub listed_append : (n : ℕ) (xs js ks : List ℕ) → listed n xs (js ++ ks) ≡ listed n (listed n xs js) ks
listed_append n xs [] ks = refl
listed_append n xs (j ∷ js) ks = listed_append n (cond (wanted n xs j) (xs ++ (j ∷ [])) xs) js ks

-- one turn of a loop that adds: zs is ys with one more added
pub adds_one : (n m : ℕ) (ys zs ks : List ℕ) (k : ℕ) → m ≡ n → ys ≡ listed n [] ks → zs ≡ listed m ys (k ∷ []) → zs ≡ listed n [] (ks ++ (k ∷ []))
adds_one n m ys zs ks k s y z = z ∙ simp (s, y) (sym (listed_append n [] ks (k ∷ [])))

-- every number of 1 to n among those to be added is listed in the end

keeps_held : (n : ℕ) (xs ks : List ℕ) (j : ℕ) → holds xs j ≡ true → holds (listed n xs ks) j ≡ true
keeps_held n xs [] j h = h
keeps_held n xs (k ∷ ks) j h = keeps_held n (cond (wanted n xs k) (xs ++ (k ∷ [])) xs) ks j
    (elim (wanted n xs k) as (λ b. holds (cond b (xs ++ (k ∷ [])) xs) j ≡ true) [ true ↦ (rw (holds_push xs k j, h)) | false ↦ h ])

one_held : (n : ℕ) (xs : List ℕ) (j : ℕ) → 0 < j → j ≤ n → holds (listed n xs (j ∷ [])) j ≡ true
one_held n xs j z h = ⊎_elim
    (λ (e : holds xs j ≡ true). keeps_held n xs (j ∷ []) j e)
    (λ (e : holds xs j ≡ false). let q : eqb j j ≡ true = eq-eqb j j refl in rw (wanted_adds n xs j z h e, holds_push xs j j, e, q))
    (cases_Bool (holds xs j))

pub all_held : (n m : ℕ) (xs : List ℕ) (j : ℕ) → 0 < j → j ≤ m → m ≤ n → holds (listed n xs (numbers m)) j ≡ true
all_held n zero xs j z h l = absurd (omega arith)
all_held n (suc m) xs j z h l = rw (listed_append n xs (numbers m) (suc m ∷ [])) (⊎_elim
    (λ (e : j ≡ suc m). rw e (one_held n (listed n xs (numbers m)) (suc m) (omega arith) l))
    (λ (q : j < suc m). keeps_held n (listed n xs (numbers m)) (suc m ∷ []) j (all_held n m xs j z (omega arith) (omega arith)))
    (eq-or-lt_of_le h))

-- a listing by preference
pub completed : (n : ℕ) (ps : List ℕ) (o : OrderMeaning) → o ≡ by_preference n ps → (k : ℕ) → 0 < k → k ≤ o.size → holds o.list k ≡ true
completed n ps o e k z h = rw e (all_held n n (listed n [] ps) k z (rw e at h) (omega arith))
