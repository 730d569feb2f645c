-- The form of a text that is accepted, over its tokens.
use Rattle.std.specs.Prelude.{◌≡◌, ℕ, ◌<◌, ◌≢◌, List, [], ◌∷◌, ◌++◌, length, ℤ, pos, Some, None}
use Rattle.model.specs.Words.{Piece, Placed, number, comment, problem, line_end, tokens}
use Rattle.model.specs.Machine.{Machine, enter_refusal, entered}
use Rattle.model.specs.Reading.{accepted, counts, spellings, reading}

-- after the literals in hand the tokens write the clauses, each ended by 0, over any number of lines
pub data Clauses : List ℤ → List Placed → List (List ℤ) → Type 0 where
  all : Clauses [] [] []
  new_line : (h : List ℤ) (p : Piece) (ts : List Placed) (cs : List (List ℤ)) → Clauses h ts cs → Clauses h ((p, line_end) ∷ ts) cs
  literal : (h : List ℤ) (p : Piece) (t : ℤ) (ts : List Placed) (cs : List (List ℤ)) → t ≢ pos 0 → Clauses (h ++ (t ∷ [])) ts cs → Clauses h ((p, number t) ∷ ts) cs
  ended : (h : List ℤ) (p : Piece) (ts : List Placed) (cs : List (List ℤ)) → Clauses [] ts cs → Clauses h ((p, number (pos 0)) ∷ ts) (h ∷ cs)

-- comment lines and empty lines, one problem line with n and the number of clauses, and the clauses
pub data Form : ℕ → List Placed → List (List ℤ) → Type 0 where
  remark : (n : ℕ) (p : Piece) (ts : List Placed) (cs : List (List ℤ)) → Form n ts cs → Form n ((p, comment) ∷ ts) cs
  empty_line : (n : ℕ) (p : Piece) (ts : List Placed) (cs : List (List ℤ)) → Form n ts cs → Form n ((p, line_end) ∷ ts) cs
  headed : (n : ℕ) (p : Piece) (ts : List Placed) (cs : List (List ℤ)) → counts (spellings p.1) ≡ Some (record { variables = n; clauses = length cs }) → Clauses [] ts cs → Form n ((p, problem) ∷ ts) cs

-- the machine takes every clause, and is then the last
abbrev pub TakesAll : Machine → List (List ℤ) → Machine → Type 0
TakesAll m [] m' = m ≡ m'
TakesAll m (c ∷ cs) m' = (enter_refusal m c ≡ None) × TakesAll (entered m c) cs m'

-- the file was started, the text has the form, and the machine takes its k clauses
pub record Accepts (m : Machine) (text : List ℕ) (k : ℕ) (m' : Machine) : Type 0 where
  pub clauses : List (List ℤ)
  pub started : 0 < m.variables
  pub form : Form m.variables (tokens text) clauses
  pub taken : TakesAll m clauses m'
  pub count : k ≡ length clauses

-- a text is accepted exactly if it has the form and the machine takes every clause
abbrev pub AcceptedTexts : Type 0
AcceptedTexts = ((m : Machine) (text : List ℕ) (k : ℕ) (m' : Machine) → reading m text ≡ accepted k m' → Accepts m text k m')
    × ((m : Machine) (text : List ℕ) (k : ℕ) (m' : Machine) → Accepts m text k m' → reading m text ≡ accepted k m')
