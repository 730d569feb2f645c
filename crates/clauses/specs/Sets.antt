-- What a literal and a set of literals of the code stand for.
use Rattle.std.specs.Prelude.{◌≡◌, ℕ, zero, suc, ◌+◌, ◌*◌, Bool, true, false, cond, not, ◌&&◌, ◌||◌, ℤ, pos, negsuc, Ok, Err, Result, slice_index_or}
use Rattle.model.specs.Clauses.{Clause, ◌∈◌, Within, opposite, same, has}
use Rattle.model.specs.Machine.{names}
use Rattle.clauses.specs.declared.Literal.{Literal}
use Rattle.clauses.specs.declared.LiteralSet.{LiteralSet}
use Rattle.clauses.specs.declared.NoLiteral.{NoLiteral}

abbrev pub code : Literal → ℤ
code l = cond l.on (pos (suc l.index)) (negsuc l.index)

-- a signed number names a literal, or is none of the 256 variables'
abbrev pub Coded : ℤ → Result Literal NoLiteral → Type 0
Coded t (Ok l) = code l ≡ t
Coded t (Err e) = Within 256 t → ⊥

-- where the mark of a literal stands: first off, then on, for each variable in turn
abbrev pub place : Literal → ℕ
place l = 2 * l.index + cond l.on 1 0

abbrev pub member : LiteralSet → ℤ → Bool
member s (pos zero) = false
member s (pos (suc k)) = slice_index_or s.marks (2 * k + 1) false
member s (negsuc k) = slice_index_or s.marks (2 * k) false

-- a literal of the 256 variables that stands in the clause
abbrev pub named : Clause → ℤ → Bool
named C u = cond (names 256 u) (has C u) false

-- u is in the one set and is not t, or is in the other and is not the opposite of t
abbrev pub left_over : LiteralSet → LiteralSet → ℤ → ℤ → Bool
left_over a b t u = (member a u && not (same t u)) || (member b u && not (same (opposite t) u))

-- the set has the literals of the clause, and no other
abbrev pub Holds : LiteralSet → Clause → Type 0
Holds s C = (u : ℤ) → (u ∈ C → member s u ≡ true) × (member s u ≡ true → u ∈ C)

-- b tells whether the set has no literal
abbrev pub Emptiness : LiteralSet → Bool → Type 0
Emptiness s true = (u : ℤ) → member s u ≡ false
Emptiness s false = (u : ℤ) × (member s u ≡ true)
