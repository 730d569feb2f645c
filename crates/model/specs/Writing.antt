-- The text of a machine, and what writing it answers and leaves.
use Rattle.std.specs.Prelude.{ℕ, List, [], ◌∷◌, ◌++◌, length, drop, ℤ, codes, decimal, Option, Result, ◌==◌, nat_lt}
use Rattle.std.specs.Fmt.{signed_decimal}
use Rattle.model.specs.declared.Decline.{Decline}
use Rattle.model.specs.declared.Decline.TheVariants.{NotStarted, ShortBuffer}
use Rattle.model.specs.Clauses.{Clause}
use Rattle.model.specs.Machine.{Machine, first, Does}

-- each literal and a blank
unfoldable pub literal_texts : List ℤ → List ℕ
literal_texts [] = []
literal_texts (t ∷ ts) = signed_decimal t ++ (32 ∷ literal_texts ts)

-- a line for each clause, which 0 (48) ends
unfoldable pub clause_texts : List Clause → List ℕ
clause_texts [] = []
clause_texts (c ∷ cs) = (literal_texts c ++ (48 ∷ [])) ++ (10 ∷ clause_texts cs)

abbrev pub head_line : ℕ → ℕ → List ℕ
head_line n count = codes "p" ++ (32 ∷ (codes "cnf" ++ (32 ∷ (decimal n ++ (32 ∷ decimal count)))))

unfoldable pub text_of : Machine → List ℕ
text_of m = head_line m.variables (length m.clauses) ++ (10 ∷ clause_texts m.clauses)

abbrev pub write_refusal : Machine → ℕ → Option Decline
write_refusal m size = first (
    ((m.variables == 0), NotStarted)
    ∷ (nat_lt size (length (text_of m)), ShortBuffer)
    ∷ [])

-- write: the answer is the length of the text, which stands at the front of the buffer; the other bytes are as they were
abbrev pub Writes : Machine → List ℕ → List ℕ → Result ℕ Decline → Type 0
Writes m buffer buffer' r = Does (write_refusal m (length buffer)) (length (text_of m)) buffer (text_of m ++ drop (length (text_of m)) buffer) buffer' r
