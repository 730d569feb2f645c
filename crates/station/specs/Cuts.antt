-- A list cut at rising ends. It names no struct, so that a ghost field may cite it.
use Rattle.std.specs.Prelude.{ℕ, zero, suc, ◌-◌, Bool, true, false, cond, List, [], ◌∷◌, take, drop, ℤ, nat_le}

-- the parts of a list that end at the given places, the first from `from`
unfoldable pub parts : List ℤ → ℕ → List ℕ → List (List ℤ)
parts xs from [] = []
parts xs from (e ∷ es) = take (e - from) (drop from xs) ∷ parts xs e es

-- the last of the ends, or `from`
unfoldable pub last_of : ℕ → List ℕ → ℕ
last_of from [] = from
last_of from (e ∷ es) = last_of e es

-- each end is at least the one before it: a test, so that a ghost field may state it
unfoldable pub rises : ℕ → List ℕ → Bool
rises from [] = true
rises from (e ∷ es) = cond (nat_le from e) (rises e es) false

-- where the part at place k begins
unfoldable pub start_of : ℕ → List ℕ → ℕ → ℕ
start_of a es zero = a
start_of a [] (suc k) = a
start_of a (e ∷ es) (suc k) = start_of e es k
