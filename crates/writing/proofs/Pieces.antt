-- Literals and clauses as they are written, piece by piece.
use Rattle.std.proofs.Common.{◌≡◌, ℕ, List, [], ◌∷◌, ◌++◌, length, ℤ, sym, refl, ap, ◌∙◌, append_assoc}
use Rattle.std.specs.Fmt.{signed_decimal}
use Rattle.model.specs.Clauses.{Clause}
use Rattle.model.specs.Machine.{Machine}
use Rattle.model.specs.Writing.{literal_texts, clause_texts, head_line, text_of}
use Rattle.writing.specs.Sinks.{Puts}
use Rattle.writing.proofs.Putting.{puts_none, puts_both, puts_same}

pub literals_more : (ts : List ℤ) (t : ℤ) → literal_texts ts ++ (signed_decimal t ++ (32 ∷ [])) ≡ literal_texts (ts ++ (t ∷ []))
unfolding literal_texts
literals_more [] t = refl
literals_more (u ∷ ts) t = append_assoc (signed_decimal u) (32 ∷ literal_texts ts) (signed_decimal t ++ (32 ∷ [])) ∙ ap (λ w. signed_decimal u ++ (32 ∷ w)) (literals_more ts t)

-- the line of a clause, with its end
abbrev line : Clause → List ℕ
line c = literal_texts c ++ (48 ∷ (10 ∷ []))

line_first : (c : Clause) (cs : List Clause) → line c ++ clause_texts cs ≡ clause_texts (c ∷ cs)
unfolding clause_texts
line_first c cs = append_assoc (literal_texts c) (48 ∷ (10 ∷ [])) (clause_texts cs) ∙ sym (append_assoc (literal_texts c) (48 ∷ []) (10 ∷ clause_texts cs))

pub text_parts : (m : Machine) → (head_line m.variables (length m.clauses) ++ (10 ∷ [])) ++ clause_texts m.clauses ≡ text_of m
unfolding text_of
text_parts m = append_assoc (head_line m.variables (length m.clauses)) (10 ∷ []) (clause_texts m.clauses)

module _ {S : Type 0} (took : S → List ℕ → S → Type 0) where
  -- one clause, and those after it
  pub clause_put : (b d e : S) (F G : List Clause) (c : Clause) → F ≡ c ∷ G → Puts took b (line c) d → Puts took d (clause_texts G) e → Puts took b (clause_texts F) e
  clause_put b d e F G c q p r = puts_same took _ _ _ _ (line_first c G ∙ ap clause_texts (sym q)) (puts_both took b d e (line c) (clause_texts G) p r)

  pub none_put : (b : S) (F : List Clause) → F ≡ [] → Puts took b (clause_texts F) b
  unfolding clause_texts
  none_put b F q = puts_same took _ _ _ _ (ap clause_texts (sym q)) (puts_none took b)

  pub text_put : (s h e : S) (m : Machine) (n k : ℕ) → n ≡ m.variables → k ≡ length m.clauses → Puts took s (head_line n k ++ (10 ∷ [])) h → Puts took h (clause_texts m.clauses) e
      → Puts took s (text_of m) e
  text_put s h e m n k i j p q =
      let p' : Puts took s (head_line m.variables (length m.clauses) ++ (10 ∷ [])) h = rw (i, j) at p in
      puts_same took _ _ _ _ (text_parts m) (puts_both took s h e (head_line m.variables (length m.clauses) ++ (10 ∷ [])) (clause_texts m.clauses) p' q)
