-- How steps are said in lines of 28 bytes, and which steps such lines say.
use Rattle.std.specs.Prelude.{ℕ, zero, suc, ◌+◌, ◌-◌, ◌*◌, ◌/◌, ◌%◌, cond, List, [], ◌∷◌, ◌++◌, take, drop, ◌==◌, slice_index}
use Rattle.std.specs.List.{flat_map}
use Rattle.model.specs.declared.Reference.{Reference}
use Rattle.model.specs.declared.Reference.TheVariants.{R, S}
use Rattle.model.specs.declared.Step.{Step}

-- the last k digits of n, leading zeros included
unfoldable pub digits : ℕ → ℕ → List ℕ
digits zero n = []
digits (suc k) n = digits k (n / 10) ++ ((48 + n % 10) ∷ [])

-- a reference: the letter R or S, and 10 digits
unfoldable pub word : Reference → List ℕ
word (R n) = 82 ∷ digits 10 n
word (S n) = 83 ∷ digits 10 n

-- left, byte 32, right, byte 32, the variable in 3 digits, byte 10
unfoldable pub line : Step → List ℕ
line s = word s.left ++ (32 ∷ (word s.right ++ (32 ∷ (digits 3 s.variable ++ (10 ∷ [])))))

-- one line after the other
abbrev pub lines : List Step → List ℕ
lines ss = flat_map line ss

-- the number that digits write after those of n
unfoldable pub number : ℕ → List ℕ → ℕ
number n [] = n
number n (b ∷ bs) = number (10 * n + (b - 48)) bs

-- the reference that 11 bytes say
unfoldable pub named : List ℕ → Reference
named bs = cond (slice_index bs 0 == 82) (R (number 0 (take 10 (drop 1 bs)) % 4294967296)) (S (number 0 (take 10 (drop 1 bs)) % 4294967296))

-- the step that a line says
unfoldable pub said : List ℕ → Step
said bs = record { left = named (take 11 bs); right = named (take 11 (drop 12 bs)); variable = number 0 (take 3 (drop 24 bs)) % 256 }

-- the steps that the first n lines say
unfoldable pub steps_in : ℕ → List ℕ → List Step
steps_in zero bs = []
steps_in (suc n) bs = steps_in n bs ++ (said (take 28 (drop (n * 28) bs)) ∷ [])
