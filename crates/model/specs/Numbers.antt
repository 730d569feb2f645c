-- Which words are numbers, and what they write.
use Rattle.std.specs.Prelude.{ℕ, zero, suc, ◌+◌, ◌-◌, ◌*◌, Bool, true, cond, ◌&&◌, List, [], ◌∷◌, length, drop, ℤ, pos, negsuc, Some, None, Option, ◌==◌, nat_le, slice_index}

-- the bytes 48 to 57
abbrev pub digit : ℕ → Bool
digit b = nat_le 48 b && nat_le b 57

unfoldable pub digits : List ℕ → Bool
digits [] = true
digits (b ∷ bs) = digit b && digits bs

-- the number that digits write after v
unfoldable pub decimal_value : ℕ → List ℕ → ℕ
decimal_value v [] = v
decimal_value v (b ∷ bs) = decimal_value (v * 10 + (b - 48)) bs

-- what 1 to 6 digits write
unfoldable pub natural : List ℕ → Option ℕ
natural w = cond (digits w && (nat_le 1 (length w) && nat_le (length w) 6)) (Some (decimal_value 0 w)) None

abbrev pub plain : Option ℕ → Option ℤ
plain None = None
plain (Some v) = Some (pos v)

-- no minus stands before 0
abbrev pub negative : Option ℕ → Option ℤ
negative None = None
negative (Some zero) = None
negative (Some (suc v)) = Some (negsuc v)

-- a number: 1 to 6 digits, before which a minus (45) may stand if they do not write 0
unfoldable pub integer : List ℕ → Option ℤ
integer w = cond (slice_index w 0 == 45) (negative (natural (drop 1 w))) (plain (natural w))
