-- What reading a text into a machine answers.
use Rattle.std.specs.Prelude.{◌≡◌, ℕ, zero, suc, Bool, true, false, cond, ◌&&◌, List, [], ◌∷◌, ◌++◌, map, length, ℤ, pos, negsuc, Some, None, Ok, Err, codes, Option, Result, ◌==◌, slice_index_or}
use Rattle.model.specs.declared.Decline.{Decline}
use Rattle.model.specs.declared.Decline.TheVariants.{NotStarted}
use Rattle.model.specs.declared.ProblemLine.{ProblemLine}
use Rattle.model.specs.declared.ReadFault.{ReadFault}
use Rattle.model.specs.Faults.{word_fault, problem_fault, variables_fault, clauses_fault, file_fault}
use Rattle.model.specs.Numbers.{natural}
use Rattle.model.specs.Words.{Piece, Placed, Token, number, no_number, comment, problem, line_end, words, tokens}
use Rattle.model.specs.Machine.{Machine, enter_refusal, entered}

-- the problem line

unfoldable pub same_bytes : List ℕ → List ℕ → Bool
same_bytes [] [] = true
same_bytes [] (y ∷ ys) = false
same_bytes (x ∷ xs) [] = false
same_bytes (x ∷ xs) (y ∷ ys) = x == y && same_bytes xs ys

abbrev pub counted : Option ℕ → Option ℕ → Option ProblemLine
counted (Some v) (Some c) = Some (record { variables = v; clauses = c })
counted (Some v) None = None
counted None c = None

-- four words: p, cnf, the variable count and the clause count
unfoldable pub counts : List (List ℕ) → Option ProblemLine
counts ws =
    cond (length ws == 4 && (same_bytes (slice_index_or ws 0 []) (codes "p") && same_bytes (slice_index_or ws 1 []) (codes "cnf")))
    (counted (natural (slice_index_or ws 2 [])) (natural (slice_index_or ws 3 [])))
    None

-- what a line's words spell
unfoldable pub spellings : List ℕ → List (List ℕ)
spellings line = map (λ w. w.1) (words (0, line))

-- where reading stands

-- the clause count of the problem line, if that came; the machine; how many clauses were entered; the literals since the last 0
pub record State : Type 0 where
  pub declared : Option ℕ
  pub machine : Machine
  pub done : ℕ
  pub hand : List ℤ

pub data Step : Type 0 where
  on : State → Step
  stop : ReadFault → Step

-- before the problem line

abbrev pub headed : State → ℕ → State
headed s c = record { declared = Some c; machine = s.machine; done = s.done; hand = s.hand }

-- the problem line at a place
unfoldable pub head : State → ℕ → Option ProblemLine → Step
head s at None = stop (problem_fault at)
head s at (Some line) = cond (line.variables == s.machine.variables) (on (headed s line.clauses)) (stop (variables_fault at))

unfoldable pub step_before : State → Piece → Token → Step
step_before s p (number t) = stop (problem_fault p.0)
step_before s p no_number = stop (word_fault p.0)
step_before s p comment = on s
step_before s p problem = head s p.0 (counts (spellings p.1))
step_before s p line_end = on s

-- after the problem line

abbrev pub holding : State → ℤ → State
holding s t = record { declared = s.declared; machine = s.machine; done = s.done; hand = s.hand ++ (t ∷ []) }

-- the 0 that ends the clause in hand: it is entered, unless the file declines it
unfoldable pub enter_hand : State → ℕ → Option Decline → Step
enter_hand s at (Some d) = stop (file_fault at d)
enter_hand s at None = on (record { declared = s.declared; machine = entered s.machine s.hand; done = suc s.done; hand = [] })

unfoldable pub took : State → ℕ → ℤ → Step
took s at (pos zero) = enter_hand s at (enter_refusal s.machine s.hand)
took s at (pos (suc k)) = on (holding s (pos (suc k)))
took s at (negsuc k) = on (holding s (negsuc k))

unfoldable pub step_after : State → Piece → Token → Step
step_after s p (number t) = took s p.0 t
step_after s p no_number = stop (word_fault p.0)
step_after s p comment = stop (word_fault p.0)
step_after s p problem = stop (problem_fault p.0)
step_after s p line_end = on s

-- the whole text

unfoldable pub step_on : Option ℕ → State → Placed → Step
step_on None s (p, t) = step_before s p t
step_on (Some c) s (p, t) = step_after s p t

unfoldable pub step : State → Placed → Step
step s t = step_on s.declared s t

pub data Reading : Type 0 where
  accepted : ℕ → Machine → Reading
  faulty : ReadFault → Reading

-- the end of a text of the given size
unfoldable pub finish_on : ℕ → Option ℕ → List ℤ → State → Reading
finish_on size None hand s = faulty (problem_fault size)
finish_on size (Some c) [] s = cond (s.done == c) (accepted s.done s.machine) (faulty (clauses_fault size))
finish_on size (Some c) (t ∷ ts) s = faulty (clauses_fault size)

unfoldable pub finish : ℕ → State → Reading
finish size s = finish_on size s.declared s.hand s

unfoldable pub run : ℕ → Step → List Placed → Reading
run size (stop f) ts = faulty f
run size (on s) [] = finish size s
run size (on s) (t ∷ ts) = run size (step s t) ts

abbrev pub begun : Machine → State
begun m = record { declared = None; machine = m; done = 0; hand = [] }

unfoldable pub reading : Machine → List ℕ → Reading
reading m text = cond (m.variables == 0) (faulty (file_fault 0 NotStarted)) (run (length text) (on (begun m)) (tokens text))

-- read: the answer is the number of clauses entered; at a fault the machine is as it was
abbrev pub Reads : Machine → List ℕ → Machine → Result ℕ ReadFault → Type 0
Reads m text m' (Ok k) = reading m text ≡ accepted k m'
Reads m text m' (Err f) = (reading m text ≡ faulty f) × (m' ≡ m)

-- the variable count of a text's first problem line

abbrev pub variables_told : Option ProblemLine → Option ℕ
variables_told None = None
variables_told (Some line) = Some line.variables

unfoldable pub variables_in : List Placed → Option ℕ
variables_in [] = None
variables_in ((p, number t) ∷ ts) = variables_in ts
variables_in ((p, no_number) ∷ ts) = variables_in ts
variables_in ((p, comment) ∷ ts) = variables_in ts
variables_in ((p, problem) ∷ ts) = variables_told (counts (spellings p.1))
variables_in ((p, line_end) ∷ ts) = variables_in ts
