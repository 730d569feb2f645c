-- A list cut at rising ends: its parts, one part more, and the first parts only.
use Rattle.std.proofs.Common.{◌≡◌, ℕ, zero, suc, ◌+◌, ◌-◌, ◌<◌, ◌≤◌, Bool, true, leb, List, [], ◌∷◌, ◌++◌, length, get_or, take, drop, ℤ, Some, None, sym, refl, ap, ◌∙◌, arith, le-leb, leb-true}
use Rattle.std.specs.List.{slice_get}
use Rattle.std.proofs.lemmas.List.{drop-take, take-take, length-take, length-take-le, length-drop}
use Rattle.model.specs.Clauses.{Clause, Each}
use Rattle.model.specs.Machine.{every, literals}
use Rattle.model.proofs.Merging.{both, every_first, every_rest}
use Rattle.station.specs.Cuts.{parts, last_of, rises, start_of}

pub rises_first : (a e : ℕ) (es : List ℕ) → rises a (e ∷ es) ≡ true → a ≤ e
unfolding rises
rises_first a e es h = leb-true a e (both (leb a e) (rises e es) h).0

pub rises_rest : (a e : ℕ) (es : List ℕ) → rises a (e ∷ es) ≡ true → rises e es ≡ true
unfolding rises
rises_rest a e es h = (both (leb a e) (rises e es) h).1

rises_cons : (a e : ℕ) (es : List ℕ) → a ≤ e → rises e es ≡ true → rises a (e ∷ es) ≡ true
unfolding rises
rises_cons a e es h r = rw (le-leb a e h) r

rises_none : (a : ℕ) → rises a [] ≡ true
unfolding rises
rises_none a = refl

pub front_same : {A : Type 0} (m n : ℕ) (xs ys : List A) → m ≤ n → take n xs ≡ take n ys → take m xs ≡ take m ys
front_same m n xs ys h e = sym (take-take m n xs h) ∙ (ap (take m) e ∙ take-take m n ys h)

between_same : (a e n : ℕ) (xs ys : List ℤ) → a ≤ e → e ≤ n → take n xs ≡ take n ys → take (e - a) (drop a xs) ≡ take (e - a) (drop a ys)
between_same a e n xs ys h k t =
    let s : a + (e - a) ≡ e = omega arith in
    let f : take (a + (e - a)) xs ≡ take (a + (e - a)) ys = rw s (front_same e n xs ys k t) in
    sym (drop-take a (e - a) xs) ∙ (ap (drop a) f ∙ drop-take a (e - a) ys)

pub last_above : (a : ℕ) (es : List ℕ) → rises a es ≡ true → a ≤ last_of a es
unfolding last_of
last_above a [] r = omega arith
last_above a (e ∷ es) r = let h = last_above e es (rises_rest a e es r) in let k = rises_first a e es r in omega arith

-- what comes after the last end is not in any part
pub parts_same : (a n : ℕ) (es : List ℕ) (xs ys : List ℤ) → rises a es ≡ true → last_of a es ≤ n → take n xs ≡ take n ys → parts xs a es ≡ parts ys a es
unfolding parts last_of
parts_same a n [] xs ys r h t = refl
parts_same a n (e ∷ es) xs ys r h t =
    let q = rises_rest a e es r in
    let l = last_above e es q in
    let k : e ≤ n = omega arith in
    let b = between_same a e n xs ys (rises_first a e es r) k t in
    let p = parts_same e n es xs ys q h t in
    ap (λ z. z ∷ parts xs e es) b ∙ ap (λ z. take (e - a) (drop a ys) ∷ z) p

pub length_parts : (a : ℕ) (es : List ℕ) (xs : List ℤ) → length (parts xs a es) ≡ length es
unfolding parts
length_parts a [] xs = refl
length_parts a (e ∷ es) xs = ap suc (length_parts e es xs)

pub literals_parts : (a : ℕ) (es : List ℕ) (xs : List ℤ) → rises a es ≡ true → last_of a es ≤ length xs → a + literals (parts xs a es) ≡ last_of a es
unfolding parts last_of
literals_parts a [] xs r l = omega arith
literals_parts a (e ∷ es) xs r l =
    let q = rises_rest a e es r in
    let h = last_above e es q in
    let f = rises_first a e es r in
    let i = literals_parts e es xs q l in
    let k : e - a ≤ length (drop a xs) = rw length-drop (omega arith) in
    let z = length-take-le (e - a) (drop a xs) k in
    omega (arith, i, z, f)

-- however long the list is
pub literals_most : (a : ℕ) (es : List ℕ) (xs : List ℤ) → rises a es ≡ true → a + literals (parts xs a es) ≤ last_of a es
unfolding parts last_of
literals_most a [] xs r = omega arith
literals_most a (e ∷ es) xs r =
    omega (arith, literals_most e es xs (rises_rest a e es r), length-take (e - a) (drop a xs), rises_first a e es r)

-- a test that all the literals pass, those of each part pass
pub parts_pass : (p : ℤ → Bool) (a n : ℕ) (es : List ℕ) (xs : List ℤ) → rises a es ≡ true → last_of a es ≤ n → every p (take n xs) ≡ true → Each (λ C. every p C ≡ true) (parts xs a es)
unfolding parts last_of
parts_pass p a n [] xs r l h = tt
parts_pass p a n (e ∷ es) xs r l h =
    let q = rises_rest a e es r in
    let f = rises_first a e es r in
    let b = last_above e es q in
    let w : e ≤ n = omega arith in
    let s : a + (e - a) ≡ e = omega arith in
    let t : every p (take (a + (e - a)) xs) ≡ true = rw (s, sym (take-take e n xs w)) (every_first p e (take n xs) h) in
    let u : drop a (take (a + (e - a)) xs) ≡ take (e - a) (drop a xs) = drop-take a (e - a) xs in
    (ap (every p) (sym u) ∙ every_rest p a (take (a + (e - a)) xs) t, parts_pass p e n es xs q l h)

-- one part more

pub parts_push : (a : ℕ) (es : List ℕ) (e : ℕ) (xs : List ℤ) → parts xs a (es ++ (e ∷ [])) ≡ parts xs a es ++ (take (e - last_of a es) (drop (last_of a es) xs) ∷ [])
unfolding parts last_of
parts_push a [] e xs = refl
parts_push a (d ∷ es) e xs = ap (λ z. take (d - a) (drop a xs) ∷ z) (parts_push d es e xs)

pub last_push : (a : ℕ) (es : List ℕ) (e : ℕ) → last_of a (es ++ (e ∷ [])) ≡ e
unfolding last_of
last_push a [] e = refl
last_push a (d ∷ es) e = last_push d es e

pub rises_push : (a : ℕ) (es : List ℕ) (e : ℕ) → rises a es ≡ true → last_of a es ≤ e → rises a (es ++ (e ∷ [])) ≡ true
unfolding last_of
rises_push a [] e r h = rises_cons a e [] h (rises_none e)
rises_push a (d ∷ es) e r h = rises_cons a d (es ++ (e ∷ [])) (rises_first a d es r) (rises_push d es e (rises_rest a d es r) h)

-- the part at a place

pub start_is : (a : ℕ) (es : List ℕ) (k : ℕ) → k < length es → start_of a es (suc k) ≡ get_or es k 0
unfolding start_of
start_is a [] k h = absurd (omega arith)
start_is a (e ∷ es) zero h = refl
start_is a (e ∷ es) (suc k) h = start_is e es k (omega arith)

pub nth_part : (a : ℕ) (es : List ℕ) (k : ℕ) (xs : List ℤ) → k < length es → slice_get (parts xs a es) k ≡ Some (take (get_or es k 0 - start_of a es k) (drop (start_of a es k) xs))
unfolding parts start_of
nth_part a [] k xs h = absurd (omega arith)
nth_part a (e ∷ es) zero xs h = refl
nth_part a (e ∷ es) (suc k) xs h = nth_part e es k xs (omega arith)

pub nth_past : {A : Type 0} (xs : List A) (k : ℕ) → length xs ≤ k → slice_get xs k ≡ None
nth_past [] k h = refl
nth_past (x ∷ xs) zero h = absurd (omega arith)
nth_past (x ∷ xs) (suc k) h = nth_past xs k (omega arith)

pub place_bounds : (a : ℕ) (es : List ℕ) (k : ℕ) → k < length es → rises a es ≡ true → (start_of a es k ≤ get_or es k 0) × (get_or es k 0 ≤ last_of a es)
unfolding start_of last_of
place_bounds a [] k h r = absurd (omega arith)
place_bounds a (e ∷ es) zero h r = (rises_first a e es r, last_above e es (rises_rest a e es r))
place_bounds a (e ∷ es) (suc k) h r = place_bounds e es k (omega arith) (rises_rest a e es r)

-- the first parts only

pub parts_take : (k : ℕ) (xs : List ℤ) (a : ℕ) (es : List ℕ) → take k (parts xs a es) ≡ parts xs a (take k es)
unfolding parts
parts_take zero xs a es = refl
parts_take (suc k) xs a [] = refl
parts_take (suc k) xs a (e ∷ es) = ap (λ (l : List Clause). take (e - a) (drop a xs) ∷ l) (parts_take k xs e es)

pub rises_take : (k a : ℕ) (es : List ℕ) → rises a es ≡ true → rises a (take k es) ≡ true
rises_take zero a es r = rises_none a
rises_take (suc k) a [] r = rises_none a
rises_take (suc k) a (e ∷ es) r = rises_cons a e (take k es) (rises_first a e es r) (rises_take k e es (rises_rest a e es r))

pub last_take : (k a : ℕ) (es : List ℕ) → k ≤ length es → last_of a (take k es) ≡ start_of a es k
unfolding last_of start_of
last_take zero a es h = refl
last_take (suc k) a [] h = refl
last_take (suc k) a (e ∷ es) h = last_take k e es (omega arith)

pub start_low : (k a : ℕ) (es : List ℕ) → rises a es ≡ true → start_of a es k ≤ last_of a es
unfolding start_of last_of
start_low zero a es r = last_above a es r
start_low (suc k) a [] r = omega arith
start_low (suc k) a (e ∷ es) r = start_low k e es (rises_rest a e es r)
