-- What is put into a sink, a count or a buffer.
use Rattle.std.specs.Prelude.{◌≡◌, ℕ, ◌-◌, ◌^◌, min, List, ◌++◌, length, take, drop}

-- the bytes y lead from b to c: whatever was taken before, they are taken after it
abbrev pub Puts : {S : Type 0} → (S → List ℕ → S → Type 0) → S → List ℕ → S → Type 0
Puts {S = S} took b y c = (a : S) (x : List ℕ) → took a x b → took a (x ++ y) c

-- the number of bytes, up to the largest number
abbrev pub count : List ℕ → ℕ
count x = min (length x) (2 ^ 64 - 1)

-- Of a buffer, x fills the first `at` places, as many as there are of them, and the others are as they were.
pub record Filled (before x bytes : List ℕ) (at : ℕ) : Type 0 where
  pub front : take at bytes ≡ take (length before) x
  pub rest : drop at bytes ≡ drop (length x) before

-- a buffer when x was written over its front, as far as it goes
abbrev pub written : List ℕ → List ℕ → List ℕ
written x before = take (length before) x ++ drop (length x) before
