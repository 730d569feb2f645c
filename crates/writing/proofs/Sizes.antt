-- A text is short: its clauses are few, and so are their literals and the digits of each.
use Rattle.std.proofs.Common.{ℕ, suc, ◌+◌, ◌*◌, ◌≤◌, List, [], ◌∷◌, ◌++◌, length, ℤ, pos, negsuc, decimal, refl, inl, inr, arith, length-append}
use Rattle.std.specs.Fmt.{signed_decimal}
use Rattle.std.proofs.lemmas.Fmt.{length-decimal-le}
use Rattle.model.specs.Clauses.{Clause, variable, ◌∈◌, Within, Over}
use Rattle.model.specs.Machine.{Machine, literals}
use Rattle.model.specs.Writing.{literal_texts, clause_texts, head_line, text_of}

three_digits : (n : ℕ) → n ≤ 200 → length (decimal n) ≤ 3
three_digits n h = length-decimal-le 3 n (omega arith) (omega arith) (omega arith)

four_digits : (n : ℕ) → n ≤ 1000 → length (decimal n) ≤ 4
four_digits n h = length-decimal-le 4 n (omega arith) (omega arith) (omega arith)

short_signed : (t : ℤ) → variable t ≤ 200 → length (signed_decimal t) ≤ 4
short_signed (pos k) h = let s = three_digits k h in omega arith
short_signed (negsuc k) h = let s = three_digits (suc k) h in omega arith

module _ (n : ℕ) (few : n ≤ 200) where
  short_literals : (c : Clause) → ((t : ℤ) → t ∈ c → Within n t) → length (literal_texts c) ≤ 5 * length c
  unfolding literal_texts
  short_literals [] w = omega arith
  short_literals (t ∷ ts) w =
      let here = w t (inl refl) in
      let i = short_literals ts (λ u m. w u (inr m)) in
      omega (arith, length-append (signed_decimal t) (32 ∷ literal_texts ts), short_signed t (omega arith))

  short_clauses : (cs : List Clause) → Over n cs → length (clause_texts cs) ≤ 5 * literals cs + 2 * length cs
  unfolding clause_texts
  short_clauses [] w = omega arith
  short_clauses (c ∷ cs) w =
      omega (arith, length-append (literal_texts c ++ (48 ∷ [])) (10 ∷ clause_texts cs), length-append (literal_texts c) (48 ∷ []), short_literals c w.0, short_clauses cs w.1)

pub short_text : (m : Machine) → m.variables ≤ 200 → Over m.variables m.clauses → length m.clauses ≤ 1000 → literals m.clauses ≤ 8000 → length (text_of m) ≤ 42015
unfolding text_of
short_text m few over count all =
    let n = m.variables in
    let k = length m.clauses in
    omega (arith, length-append (head_line n k) (10 ∷ clause_texts m.clauses), length-append (decimal n) (32 ∷ decimal k), three_digits n few, four_digits k count, short_clauses n few m.clauses over)
