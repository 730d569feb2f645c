-- What is written has the form of an accepted text, so it reads back.
use Rattle.std.proofs.Common.{◌≡◌, ℕ, suc, ◌+◌, ◌<◌, ◌≤◌, true, ltb, leb, ◌≢◌, List, [], ◌∷◌, ◌++◌, map, length, get_or, ℤ, pos, negsuc, Some, codes, decimal, Option, sym, refl, ap, ◌∙◌, append_assoc, append-nil, arith}
use Rattle.std.specs.Fmt.{signed_decimal}
use Rattle.std.proofs.lemmas.Bool.{ltb-true, leb-true, ne_eqb}
use Rattle.std.proofs.lemmas.List.{get_or_append_left, length_push}
use Rattle.model.specs.Clauses.{Clause, Each, variable}
use Rattle.model.specs.Machine.{Machine, fresh, every, names, literals}
use Rattle.model.specs.Reading.{same_bytes, counted, counts, spellings}
use Rattle.model.specs.Words.{Piece, Placed, number, problem, line_end, spelt, grow, split, filled, words, word_tokens, line_tokens, all_tokens, lines, tokens, end_of, ends_line, ends_word}
use Rattle.model.specs.Numbers.{natural, integer, digits, decimal_value}
use Rattle.model.specs.Writing.{literal_texts, clause_texts, head_line, text_of}
use Rattle.model.proofs.Calls.{EnterAllowed, enter_goes}
use Rattle.model.proofs.Merging.{both}
use Rattle.texts.specs.Scan.{Clear}
use Rattle.texts.specs.Form.{Clauses, all, new_line, literal, ended, Form, headed, TakesAll}
use Rattle.texts.specs.Laws.{Fair, copy, ReadsBack}
use Rattle.texts.proofs.Pieces.{split_piece, split_front, clear-++, words_none, words_gap, words_more}
use Rattle.texts.proofs.Spelled.{no_line_end, no_word_end, decimal_clear, decimal_filled, natural_decimal, integer_signed, signed_filled, signed_clear, signed_first}
use Rattle.texts.proofs.Accepting.{back}

-- lines

more_lines : (l : Piece) (at : ℕ) (bs : List ℕ) → all_tokens (l ∷ split ends_line at bs) ≡ line_tokens l ++ (end_of l ∷ all_tokens (split ends_line at bs))
unfolding all_tokens
more_lines l at bs = rw (split_front ends_line at bs)

first_line : (at : ℕ) (w bs : List ℕ) → Clear ends_line w → all_tokens (split ends_line at (w ++ (10 ∷ bs))) ≡ line_tokens (at, w) ++ (end_of (at, w) ∷ all_tokens (split ends_line (suc (at + length w)) bs))
first_line at w bs c = ap all_tokens (split_piece ends_line at w 10 bs c refl) ∙ more_lines (at, w) (suc (at + length w)) bs

-- the line of a clause

abbrev clause_line : Clause → List ℕ
clause_line c = literal_texts c ++ (48 ∷ [])

more_text : (t : ℤ) (ts : List ℤ) → clause_line (t ∷ ts) ≡ signed_decimal t ++ (32 ∷ clause_line ts)
unfolding literal_texts
more_text t ts = append_assoc (signed_decimal t) (32 ∷ literal_texts ts) (48 ∷ [])

not_zero : (t : ℤ) → 0 < variable t → t ≢ pos 0
not_zero (pos k) h e = let z : k ≡ 0 = cc in omega arith
not_zero (negsuc k) h e = absurd (let z : ◌≡◌ {A = ℕ} 0 1 = cc in omega arith)

module _ (n : ℕ) (few : n ≤ 200) where
  record Named (t : ℤ) (ts : List ℤ) : Type 0 where
    pub some : 0 < variable t
    pub small : variable t < 1000000
    pub others : every (names n) ts ≡ true

  named_first : (t : ℤ) (ts : List ℤ) → every (names n) (t ∷ ts) ≡ true → Named t ts
  named_first t ts h =
      let p = both (names n t) (every (names n) ts) h in
      let q = both (ltb 0 (variable t)) (leb (variable t) n) p.0 in
      record { some = ltb-true 0 (variable t) q.0; small = omega (arith, leb-true (variable t) n q.1); others = p.1 }

  line_clear : (c : Clause) → every (names n) c ≡ true → Clear ends_line (clause_line c)
  unfolding literal_texts
  line_clear [] h = (refl, tt)
  line_clear (t ∷ ts) h =
      let p = named_first t ts h in
      rw (more_text t ts) (clear-++ ends_line (signed_decimal t) (32 ∷ clause_line ts) (signed_clear ends_line t no_line_end p.small) (refl, line_clear ts p.others))

  line_first : (c : Clause) → every (names n) c ≡ true → get_or (clause_line c) 0 0 ≤ 57
  unfolding literal_texts
  line_first [] h = omega arith
  line_first (t ∷ ts) h =
      let s = (named_first t ts h).small in
      rw (more_text t ts, get_or_append_left (signed_decimal t) (32 ∷ clause_line ts) 0 0 (signed_filled t s)) (signed_first t s)

  line_words : (at : ℕ) (c : Clause) → every (names n) c ≡ true → line_tokens (at, clause_line c) ≡ word_tokens (words (at, clause_line c))
  unfolding line_tokens
  line_words at c h =
      let f = line_first c h in
      rw (ne_eqb (get_or (clause_line c) 0 0) 99 (λ e. omega arith), ne_eqb (get_or (clause_line c) 0 0) 112 (λ e. omega arith))

  next_word : (at : ℕ) (t : ℤ) (ts : List ℤ) → variable t < 1000000 → words (at, clause_line (t ∷ ts)) ≡ (at, signed_decimal t) ∷ words (suc (at + length (signed_decimal t)), clause_line ts)
  next_word at t ts s =
      ap (λ w. words (at, w)) (more_text t ts)
      ∙ (words_more at (signed_decimal t) (32 ∷ clause_line ts) (signed_clear ends_word t no_word_end s) (signed_filled t s) refl
      ∙ ap (λ ws. (at, signed_decimal t) ∷ ws) (words_gap (at + length (signed_decimal t)) 32 (clause_line ts) refl))

  next_token : (at : ℕ) (t : ℤ) (ts : List ℤ) → variable t < 1000000 → word_tokens (words (at, clause_line (t ∷ ts))) ≡ ((at, signed_decimal t), number t) ∷ word_tokens (words (suc (at + length (signed_decimal t)), clause_line ts))
  unfolding word_tokens
  next_token at t ts s =
      ap word_tokens (next_word at t ts s)
      ∙ ap (λ (o : Option ℤ). ((at, signed_decimal t), spelt o) ∷ word_tokens (words (suc (at + length (signed_decimal t)), clause_line ts))) (integer_signed t s)

  last_token : (at : ℕ) → word_tokens (words (at, clause_line [])) ≡ ((at, 48 ∷ []), number (pos 0)) ∷ []
  unfolding literal_texts word_tokens words split grow filled integer natural digits decimal_value
  last_token at = refl

  -- after the literals h, the line of ts ends the clause h ++ ts
  line_form : (h : List ℤ) (at : ℕ) (ts : List ℤ) (p : Piece) (rest : List Placed) (cs : List Clause) → every (names n) ts ≡ true → Clauses [] rest cs → Clauses h (word_tokens (words (at, clause_line ts)) ++ ((p, line_end) ∷ rest)) ((h ++ ts) ∷ cs)
  line_form h at [] p rest cs w r =
      rw (last_token at, append-nil h) (ended h (at, 48 ∷ []) ((p, line_end) ∷ rest) cs (new_line [] p rest cs r))
  line_form h at (t ∷ ts) p rest cs w r =
      let q = named_first t ts w in
      let e = append_assoc h (t ∷ []) ts in
      let i = line_form (h ++ (t ∷ [])) (suc (at + length (signed_decimal t))) ts p rest cs q.others r in
      rw (next_token at t ts q.small, sym e) (literal h (at, signed_decimal t) t _ _ (not_zero t q.some) i)

  clauses_form : (at : ℕ) (cs : List Clause) → Each (Fair n) cs → Clauses [] (all_tokens (split ends_line at (clause_texts cs))) cs
  unfolding clause_texts split all_tokens line_tokens word_tokens
  clauses_form at [] f = rw (words_none at) all
  clauses_form at (c ∷ cs) f =
      let w = f.0.named in
      let i = clauses_form (suc (at + length (clause_line c))) cs f.1 in
      rw (first_line at (clause_line c) (clause_texts cs) (line_clear c w), line_words at c w) (line_form [] at c _ _ cs w i)

-- the problem line

module _ (n c : ℕ) (small : n < 1000000) (few : c < 1000000) where
  head_clear : Clear ends_line (head_line n c)
  head_clear =
      (refl, (refl, (refl, (refl, (refl, (refl, clear-++ ends_line (decimal n) (32 ∷ decimal c) (decimal_clear n small ends_line no_line_end) (refl, decimal_clear c few ends_line no_line_end)))))))

  head_words : (k : ℕ) × (words (0, head_line n c) ≡ (0, codes "p") ∷ ((2, codes "cnf") ∷ ((6, decimal n) ∷ ((k, decimal c) ∷ []))))
  unfolding words split grow filled
  head_words =
      let k = suc (6 + length (decimal n)) in
      let last : words (k, decimal c) ≡ (k, decimal c) ∷ [] = ap (λ w. words (k, w)) (sym (append-nil (decimal c))) ∙ (words_more k (decimal c) [] (decimal_clear c few ends_word no_word_end) (decimal_filled c few) tt ∙ ap (λ ws. (k, decimal c) ∷ ws) (words_none (k + length (decimal c)))) in
      let both_counts = words_more 6 (decimal n) (32 ∷ decimal c) (decimal_clear n small ends_word no_word_end) (decimal_filled n small) refl ∙ ap (λ ws. (6, decimal n) ∷ ws) (words_gap (6 + length (decimal n)) 32 (decimal c) refl ∙ last) in
      (k, ap (λ ws. (0, codes "p") ∷ ((2, codes "cnf") ∷ ws)) both_counts)

  head_counts : counts (spellings (head_line n c)) ≡ Some (record { variables = n; clauses = c })
  unfolding counts spellings same_bytes
  head_counts =
      ap (λ ws. counts (map (λ w. w.1) ws)) head_words.1
      ∙ (ap (λ (o : Option ℕ). counted o (natural (decimal c))) (natural_decimal n small) ∙ ap (λ (o : Option ℕ). counted (Some n) o) (natural_decimal c few))

-- entering the clauses

abbrev mac : ℕ → ℕ → List Clause → Machine
mac n f cs = record { variables = n; number = f; clauses = cs; trials = [] }

literals_push : (cs : List Clause) (c : Clause) → literals (cs ++ (c ∷ [])) ≡ literals cs + length c
literals_push [] c = omega arith
literals_push (x ∷ cs) c = omega (arith, literals_push cs c)

takes_all : (n f : ℕ) (done cs : List Clause) → 0 < n → Each (Fair n) cs → length done + length cs ≤ 1000 → literals done + literals cs ≤ 8000 → TakesAll (mac n f done) cs (mac n f (done ++ cs))
takes_all n f done [] s e a b = ap (mac n f) (sym (append-nil done))
takes_all n f done (c ∷ cs) s e a b =
    let d = e.0.different in
    let g : EnterAllowed (mac n f done) c = record { some = s; named = e.0.named; short = rw d e.0.short; few = omega arith; room = rw d (omega arith) } in
    let i = takes_all n f (done ++ (c ∷ [])) cs s e.1 (omega (arith, length_push done c)) (omega (arith, literals_push done c)) in
    (enter_goes (mac n f done) c g, rw (d, sym (append_assoc done (c ∷ []) cs)) i)

pub reads_back : ReadsBack
unfolding text_of tokens lines line_tokens
reads_back m f l =
    let n = m.variables in
    let cs = m.clauses in
    let small : n < 1000000 = omega (arith, l.variables) in
    let few : length cs < 1000000 = omega (arith, l.clauses) in
    let h = head_line n (length cs) in
    let ts = all_tokens (split ends_line (suc (0 + length h)) (clause_texts cs)) in
    let e : tokens (text_of m) ≡ ((0, h), problem) ∷ (end_of (0, h) ∷ ts) = first_line 0 h (clause_texts cs) (head_clear n (length cs) small few) in
    let cl : Clauses [] (end_of (0, h) ∷ ts) cs = new_line [] _ ts cs (clauses_form n l.variables (suc (0 + length h)) cs l.fair) in
    let form : Form n (tokens (text_of m)) cs = rw e (headed n (0, h) (end_of (0, h) ∷ ts) cs (head_counts n (length cs) small few) cl) in
    let taken : TakesAll (fresh n f) cs (copy m f) = takes_all n f [] cs l.started l.fair (omega (arith, l.clauses)) (omega (arith, l.literals)) in
    back (fresh n f) (text_of m) (length cs) (copy m f) (record { clauses = cs; started = l.started; form = form; taken = taken; count = refl })
