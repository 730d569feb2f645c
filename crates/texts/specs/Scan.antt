-- What is left of a text to a reader, and what its calls answer.
use Rattle.std.specs.Prelude.{◌≡◌, ℕ, ◌+◌, ◌-◌, ◌<◌, Bool, true, false, cond, ◌||◌, ◌==◌, ◌≢◌, ◌⊎◌, List, [], ◌∷◌, ◌++◌, length, drop, Some, None, Ok, Err, Option, Result, MatchOption, slice_index}
use Rattle.std.specs.Borrow.{Bor}
use Rattle.std.specs.Fn.{Mut}
use Rattle.std.specs.Iterator.{ActsAsAt}
use Rattle.texts.specs.declared.Reader.{Reader}
use Rattle.texts.specs.declared.LineWords.{LineWords}
use Rattle.texts.specs.declared.Placed.{Placed as Read}
use Rattle.texts.specs.declared.Token.{Token as Cut}
use Rattle.texts.specs.declared.Token.TheVariants.{Number, Comment, Problem, LineEnd}
use Rattle.texts.specs.declared.LineKind.{LineKind}
use Rattle.texts.specs.declared.LineKind.TheVariants.{Comment as CommentLine, Problem as ProblemLine, Number as NumberLine, Other as OtherLine}
use Rattle.model.specs.declared.WordFault.{WordFault}
use Rattle.model.specs.Numbers.{digit}
use Rattle.model.specs.Reading.{spellings}
use Rattle.model.specs.Words.{Piece, Placed, Token, number, no_number, comment, problem, line_end, words, split, ends_line, word_tokens, line_tokens, all_tokens}

-- below a million, as six digits write
abbrev pub Small : Option ℕ → Type 0
Small None = Unit {0}
Small (Some v) = v < 1000000

-- parts of a text

-- no byte at which the test cuts
abbrev pub Clear : (ℕ → Bool) → List ℕ → Type 0
Clear cuts [] = Unit {0}
Clear cuts (b ∷ bs) = (cuts b ≡ false) × Clear cuts bs

-- the end, or a cut
abbrev pub Stops : (ℕ → Bool) → List ℕ → Type 0
Stops cuts [] = Unit {0}
Stops cuts (b ∷ bs) = cuts b ≡ true

-- the bytes before the first cut
abbrev pub front : (ℕ → Bool) → List ℕ → List ℕ
front cuts [] = []
front cuts (b ∷ bs) = cond (cuts b) [] (b ∷ front cuts bs)

-- the bytes before the first at which f answers true, whatever test it computes
abbrev pub Fronts : {F : Type 0} → Mut F (Bor ℕ × Unit {0}) Bool → F → List ℕ → List ℕ → Type 0
Fronts g f bs part = (cuts : ℕ → Bool) → ActsAsAt g f cuts → part ≡ front cuts bs

-- what the first byte of a line opens
abbrev pub Opens : ℕ → LineKind → Type 0
Opens b CommentLine = b ≡ 99
Opens b ProblemLine = b ≡ 112
Opens b NumberLine = (digit b ≡ true) ⊎ (b ≡ 45)
Opens b OtherLine = (b ≢ 99) × (b ≢ 112) × (digit b ≡ false) × (b ≢ 45)

-- tokens to come

-- the end of the line before the given lines, and their tokens
unfoldable pub after_line : ℕ → List Piece → List Placed
after_line end [] = []
after_line end (l ∷ ls) = ((end, 10 ∷ []), line_end) ∷ all_tokens (l ∷ ls)

-- the tokens of what is left, where the first line may have begun before
unfoldable pub rest_pieces : Bool → List Piece → List Placed
rest_pieces fresh [] = []
rest_pieces fresh (l ∷ ls) = cond fresh (line_tokens l) (word_tokens (words l)) ++ after_line (l.0 + length l.1) ls

unfoldable pub rest_tokens : Bool → ℕ → List ℕ → List Placed
rest_tokens fresh at bs = rest_pieces fresh (split ends_line at bs)

-- a line begins at a place
abbrev pub line_begins : List ℕ → ℕ → Bool
line_begins text at = at == 0 || ends_line (slice_index text (at - 1))

abbrev pub text_of : Reader → List ℕ
text_of r = r.text.now

abbrev pub rest_of : Reader → List Placed
rest_of r = rest_tokens (line_begins (text_of r) r.at) r.at (drop r.at (text_of r))

-- the words to come of a line
abbrev pub words_left : LineWords → List (List ℕ)
words_left w = spellings w.rest.now

-- the tokens given out

abbrev pub bytes_of : Cut → List ℕ
bytes_of (Number w t) = w.now
bytes_of (Comment l) = l.now
bytes_of (Problem l) = l.now
bytes_of (LineEnd e) = e.now

abbrev pub kind_of : Cut → Token
kind_of (Number w t) = number t
kind_of (Comment l) = comment
kind_of (Problem l) = problem
kind_of (LineEnd e) = line_end

abbrev pub meaning : Read → Placed
meaning p = ((p.place, bytes_of p.token), kind_of p.token)

-- a part at a place and its token, or a word that is no number
abbrev pub part_token : ℕ → List ℕ → Option Cut → Placed
part_token at part (Some t) = ((at, bytes_of t), kind_of t)
part_token at part None = ((at, part), no_number)

-- what is left, which begins with no blank, begins with a part that is one token
pub record FirstPart (fresh : Bool) (rest part : List ℕ) (o : Option Cut) : Type 0 where
  pub some : 0 < length part
  pub parts : rest ≡ part ++ drop (length part) rest
  pub gives : (at : ℕ) → rest_tokens fresh at rest ≡ part_token at part o ∷ rest_tokens (ends_line (slice_index part (length part - 1))) (at + length part) (drop (length part) rest)

-- a token is given out, or a word that is no number
abbrev pub Means : Result Read WordFault → Placed → Type 0
Means (Ok p) t = t ≡ meaning p
Means (Err e) t = (w : List ℕ) × (t ≡ ((e.place, w), no_number))

-- the first of what is left, or nothing at the end; the text stays
abbrev pub Cuts : Reader → Reader → Result Read WordFault → Type 0
Cuts a b r = (t : Placed) × Means r t × (rest_of a ≡ t ∷ rest_of b)

abbrev pub Gives : Reader → Option (Result Read WordFault) → Reader → Type 0
Gives a r b = MatchOption r ((rest_of a ≡ []) × (rest_of b ≡ [])) (Cuts a b) × (text_of b ≡ text_of a)
