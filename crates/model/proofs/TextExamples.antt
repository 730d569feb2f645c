-- The examples of docs/rule-texts.md, computed.
use Rattle.std.proofs.Common.{◌≡◌, List, [], ◌∷◌, ℤ, pos, negsuc, codes, refl}
use Rattle.model.specs.declared.Decline.TheVariants.{BadLiteral}
use Rattle.model.specs.Faults.{word_fault, problem_fault, variables_fault, clauses_fault, file_fault}
use Rattle.model.specs.Numbers.{digits, decimal_value, natural, integer}
use Rattle.model.specs.Words.{number, comment, problem, line_end, grow, split, filled, lines, words, word_tokens, line_tokens, all_tokens, tokens}
use Rattle.model.specs.Machine.{Machine}
use Rattle.model.specs.Reading.{accepted, faulty, same_bytes, counts, spellings, head, enter_hand, took, step_before, step_after, step_on, step, finish_on, finish, run, reading}

-- a file of 2 variables
abbrev two : List (List ℤ) → Machine
two cs = record { variables = 2; number = 7; clauses = cs; trials = [] }

cut : tokens (codes "c a\np cnf 1 1\n -1 0") ≡ ((0, codes "c a"), comment) ∷ (((3, codes "\n"), line_end) ∷ (((4, codes "p cnf 1 1"), problem) ∷ (((13, codes "\n"), line_end) ∷ (((15, codes "-1"), number (negsuc 0)) ∷ (((18, codes "0"), number (pos 0)) ∷ [])))))
unfolding digits decimal_value natural integer grow split filled lines words word_tokens line_tokens all_tokens tokens
cut = refl

examples :
    (reading (two []) (codes "p cnf 2 1\n1 -2 0") ≡ accepted 1 (two ((pos 1 ∷ (negsuc 1 ∷ [])) ∷ [])))
    × (reading (two []) (codes "p cnf 2 1\n1 -0") ≡ faulty (word_fault 12))
    × (reading (two []) (codes "p cnf 2 1\n1 0\nc x") ≡ faulty (word_fault 14))
    × (reading (two []) (codes " p cnf 2 1") ≡ faulty (word_fault 1))
    × (reading (two []) (codes "7") ≡ faulty (problem_fault 0))
    × (reading (two []) (codes "p cnf 2 1 0") ≡ faulty (problem_fault 0))
    × (reading (two []) (codes "c x") ≡ faulty (problem_fault 3))
    × (reading (two []) (codes "p cnf 3 1") ≡ faulty (variables_fault 0))
    × (reading (two []) (codes "p cnf 2 2\n1 0") ≡ faulty (clauses_fault 13))
    × (reading (two []) (codes "p cnf 2 1\n3 0 x") ≡ faulty (file_fault 12 BadLiteral))
unfolding digits decimal_value natural integer grow split filled lines words word_tokens line_tokens all_tokens tokens same_bytes counts spellings head enter_hand took step_before step_after step_on step finish_on finish run reading
examples = (refl, refl, refl, refl, refl, refl, refl, refl, refl, refl)
