-- The lines, words and tokens of a text, with their places.
use Rattle.std.specs.Prelude.{ℕ, suc, ◌+◌, Bool, cond, ◌||◌, List, [], ◌∷◌, ◌++◌, length, ℤ, Some, None, Option, ◌==◌, slice_index}
use Rattle.model.specs.Numbers.{integer}

-- a part of the text, after its place: the number of bytes before it
abbrev pub Piece : Type 0
Piece = ℕ × List ℕ

unfoldable pub grow : ℕ → ℕ → List Piece → List Piece
grow at b [] = []
grow at b ((_, w) ∷ ps) = (at, b ∷ w) ∷ ps

-- the pieces between the bytes at which a test cuts, the first at the given place
unfoldable pub split : (ℕ → Bool) → ℕ → List ℕ → List Piece
split cuts at [] = (at, []) ∷ []
split cuts at (b ∷ bs) = cond (cuts b) ((at, []) ∷ split cuts (suc at) bs) (grow at b (split cuts (suc at) bs))

-- the pieces that have a byte
unfoldable pub filled : List Piece → List Piece
filled [] = []
filled ((at, []) ∷ ps) = filled ps
filled ((at, b ∷ w) ∷ ps) = (at, b ∷ w) ∷ filled ps

abbrev pub ends_line : ℕ → Bool
ends_line b = b == 10

abbrev pub blank : ℕ → Bool
blank b = b == 32 || (b == 9 || b == 13)

abbrev pub ends_word : ℕ → Bool
ends_word b = ends_line b || blank b

unfoldable pub lines : List ℕ → List Piece
lines text = split ends_line 0 text

unfoldable pub words : Piece → List Piece
words (at, line) = filled (split ends_word at line)

-- a number; a word that is none; a line that c opens; a line that p opens; the end of a line
pub data Token : Type 0 where
  number : ℤ → Token
  no_number : Token
  comment : Token
  problem : Token
  line_end : Token

-- a token and the piece that it came from
abbrev pub Placed : Type 0
Placed = Piece × Token

abbrev pub spelt : Option ℤ → Token
spelt (Some t) = number t
spelt None = no_number

unfoldable pub word_tokens : List Piece → List Placed
word_tokens [] = []
word_tokens (w ∷ ws) = (w, spelt (integer w.1)) ∷ word_tokens ws

-- as a line's first byte, c (99) opens a comment and p (112) the problem line; any other line is its words
unfoldable pub line_tokens : Piece → List Placed
line_tokens l =
    cond (slice_index l.1 0 == 99) ((l, comment) ∷ [])
    (cond (slice_index l.1 0 == 112) ((l, problem) ∷ [])
    (word_tokens (words l)))

-- the byte 10 after a line
abbrev pub end_of : Piece → Placed
end_of l = ((l.0 + length l.1, 10 ∷ []), line_end)

-- the tokens of lines, and the end of each but the last
unfoldable pub all_tokens : List Piece → List Placed
all_tokens [] = []
all_tokens (l ∷ []) = line_tokens l
all_tokens (l ∷ (m ∷ ls)) = line_tokens l ++ (end_of l ∷ all_tokens (m ∷ ls))

unfoldable pub tokens : List ℕ → List Placed
tokens text = all_tokens (lines text)
