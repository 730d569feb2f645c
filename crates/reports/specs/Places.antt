-- The line and the column of a place in a text. Nothing is assumed here.
use Rattle.std.specs.Prelude.{ℕ, ◌+◌, cond, List, [], ◌∷◌, take, ◌==◌}

-- how many bytes 10, which end a line, there are
unfoldable pub line_ends : List ℕ → ℕ
line_ends [] = 0
line_ends (b ∷ bs) = cond (b == 10) (1 + line_ends bs) (line_ends bs)

-- how many bytes follow the last byte 10, where n followed it before these
unfoldable pub since_end : ℕ → List ℕ → ℕ
since_end n [] = n
since_end n (b ∷ bs) = since_end (cond (b == 10) 0 (n + 1)) bs

-- lines and columns are counted from 1; a place is the number of bytes before it
abbrev pub line_of : List ℕ → ℕ → ℕ
line_of text place = 1 + line_ends (take place text)

abbrev pub column_of : List ℕ → ℕ → ℕ
column_of text place = 1 + since_end 0 (take place text)
