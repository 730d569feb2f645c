-- The lists of the two kinds of order: by number, and by preference.
use Rattle.std.specs.Prelude.{ℕ, zero, suc, ◌+◌, Bool, true, false, cond, List, [], ◌∷◌, ◌++◌, ◌==◌, nat_le, nat_lt}
use Rattle.std.specs.List.{list_any}
use Rattle.model.specs.Settling.{OrderMeaning}

-- 1, 2, .., n
abbrev pub numbers : ℕ → List ℕ
numbers zero = []
numbers (suc n) = numbers n ++ (suc n ∷ [])

abbrev pub by_number : ℕ → OrderMeaning
by_number n = record { size = n; list = numbers n }

abbrev pub holds : List ℕ → ℕ → Bool
holds xs k = list_any (λ x. x == k) xs

-- one of 1 to n, and not in the list yet
abbrev pub wanted : ℕ → List ℕ → ℕ → Bool
wanted n xs k = cond (nat_lt 0 k) (cond (nat_le k n) (cond (holds xs k) false true) false) false

-- the list, and after it each of these numbers in turn that is wanted
abbrev pub listed : ℕ → List ℕ → List ℕ → List ℕ
listed n xs [] = xs
listed n xs (k ∷ ks) = listed n (cond (wanted n xs k) (xs ++ (k ∷ [])) xs) ks

-- the preferences in turn, without repeats and numbers outside 1 to n, and then the others by number
abbrev pub by_preference : ℕ → List ℕ → OrderMeaning
by_preference n ps = record { size = n; list = listed n (listed n [] ps) (numbers n) }

-- how many of 1 to n are in the list
abbrev pub tally : ℕ → List ℕ → ℕ
tally zero xs = 0
tally (suc n) xs = tally n xs + cond (holds xs (suc n)) 1 0
