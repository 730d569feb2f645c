-- The words of a line, as they are given one by one.
use Rattle.std.proofs.Common.{◌≡◌, ℕ, suc, ◌+◌, ◌<◌, Bool, true, false, cond, not, ◌==◌, List, [], ◌∷◌, ◌++◌, map, filter, length, drop, Some, None, Option, is_some, Bor, ◌≢◌, sym, refl, ap, ◌∙◌, subst, arith}
use Rattle.std.specs.Iterator.{MakesProgress, YieldsFirstRef, item_count}
use Rattle.std.specs.List.{slice_split, onto_first}
use Rattle.std.proofs.lemmas.Bool.{ne_eqb, true≢false}
use Rattle.model.specs.Reading.{spellings}
use Rattle.model.specs.Words.{Piece, grow, split, filled, words, ends_word}
use Rattle.texts.specs.declared.LineWords.{LineWords}
use Rattle.texts.specs.Scan.{Clear, Stops, front, words_left}
use Rattle.texts.proofs.Pieces.{split_front, Fronted, fronted, words_none, words_gap, words_more}

abbrev bytes : List Piece → List (List ℕ)
bytes ps = map (λ p. p.1) ps

abbrev has_bytes : List ℕ → Bool
has_bytes w = not (length w == 0)

grown : (at b : ℕ) (ps : List Piece) → 0 < length ps → bytes (grow at b ps) ≡ onto_first b (bytes ps)
unfolding grow
grown at b [] l = absurd (omega arith)
grown at b (p ∷ ps) l = refl

split_bytes : (cuts : ℕ → Bool) (at : ℕ) (bs : List ℕ) → bytes (split cuts at bs) ≡ slice_split cuts bs
unfolding split
split_bytes cuts at [] = refl
split_bytes cuts at (b ∷ bs) = look (cuts b) (split_bytes cuts (suc at) bs) (omega (arith, ap length (split_front cuts (suc at) bs)))
  where
    look : (t : Bool) → bytes (split cuts (suc at) bs) ≡ slice_split cuts bs → 0 < length (split cuts (suc at) bs) → bytes (cond t ((at, []) ∷ split cuts (suc at) bs) (grow at b (split cuts (suc at) bs))) ≡ cond t ([] ∷ slice_split cuts bs) (onto_first b (slice_split cuts bs))
    look true e l = ap (λ z. [] ∷ z) e
    look false e l = grown at b (split cuts (suc at) bs) l ∙ ap (onto_first b) e

filled_bytes : (ps : List Piece) → bytes (filled ps) ≡ filter has_bytes (bytes ps)
unfolding filled
filled_bytes [] = refl
filled_bytes ((at, []) ∷ ps) = filled_bytes ps
filled_bytes ((at, b ∷ w) ∷ ps) = ap (λ z. (b ∷ w) ∷ z) (filled_bytes ps) ∙ ap (λ t. cond (not t) ((b ∷ w) ∷ filter has_bytes (bytes ps)) (filter has_bytes (bytes ps))) (sym (ne_eqb (suc (length w)) 0 (λ e. omega (arith, e))))

spelt_by : (at : ℕ) (line : List ℕ) → bytes (words (at, line)) ≡ filter has_bytes (slice_split ends_word line)
unfolding words
spelt_by at line = filled_bytes (split ends_word at line) ∙ ap (filter has_bytes) (split_bytes ends_word at line)

-- a line spells the same at every place
spelt_at : (at : ℕ) (line : List ℕ) → bytes (words (at, line)) ≡ spellings line
unfolding spellings
spelt_at at line = spelt_by at line ∙ sym (spelt_by 0 line)

not-false : (b : Bool) → not b ≡ false → b ≡ true
not-false true e = refl
not-false false e = absurd (true≢false e)

past_gap : (w r : List ℕ) → Clear (λ b. not (ends_word b)) w → spellings (w ++ r) ≡ spellings r
unfolding spellings
past_gap [] r c = refl
past_gap (b ∷ w) r c = ap bytes (words_gap 0 b (w ++ r) (not-false (ends_word b) c.0)) ∙ (spelt_at 1 (w ++ r) ∙ past_gap w r c.1)

past_word : (w r : List ℕ) → Clear ends_word w → 0 < length w → Stops ends_word r → spellings (w ++ r) ≡ w ∷ spellings r
unfolding spellings
past_word w r c l s = ap bytes (words_more 0 w r c l s) ∙ ap (λ z. w ∷ z) (spelt_at (0 + length w) r)

-- no word where none begins after the gap
ended : (r w : List ℕ) → Stops (λ b. not (ends_word b)) r → Fronted ends_word r w → length w ≡ 0 → r ≡ []
ended [] w s f l = refl
ended (b ∷ r) [] s f l = absurd (true≢false (sym s ∙ ap not f.stops))
ended (b ∷ r) (x ∷ w) s f l = absurd (omega (arith, l))

none_spelt : spellings [] ≡ []
unfolding spellings
none_spelt = ap bytes (words_none 0)

some_bytes : (w : List ℕ) → length w ≢ 0 → 0 < length w
some_bytes [] h = absurd (h refl)
some_bytes (b ∷ w) h = omega arith

module _ (line gap rest word left : List ℕ) (g : gap ≡ front (λ b. not (ends_word b)) line) (r : rest ≡ drop (length gap) line) (w : word ≡ front ends_word rest) (l : left ≡ drop (length word) rest) where
  from_rest : spellings line ≡ spellings rest
  from_rest =
      let f = fronted (λ b. not (ends_word b)) line gap g in
      ap spellings (f.parts ∙ ap (λ z. gap ++ z) (sym r)) ∙ past_gap gap rest f.clear

  pub no_word : length word ≡ 0 → (spellings line ≡ []) × (spellings left ≡ [])
  no_word n =
      let s = subst (Stops (λ b. not (ends_word b))) (sym r) (fronted (λ b. not (ends_word b)) line gap g).stops in
      let e = ended rest word s (fronted ends_word rest word w) n in
      (from_rest ∙ (ap spellings e ∙ none_spelt), ap spellings (l ∙ (ap (λ k. drop k rest) n ∙ e)) ∙ none_spelt)

  pub next_word : length word ≢ 0 → spellings line ≡ word ∷ spellings left
  next_word n =
      let f = fronted ends_word rest word w in
      from_rest ∙ (ap spellings f.parts ∙ (past_word word (drop (length word) rest) f.clear (some_bytes word n) f.stops ∙ ap (λ z. word ∷ spellings z) (sym l)))

-- what calls of `next` tell

pub progress : (a : LineWords) (r : Option (Bor (List ℕ))) (b : LineWords) → YieldsFirstRef words_left a r b → MakesProgress (λ _. Unit {0}) (item_count words_left) a r b
progress a None b g = record { on = λ _. tt; keeps = tt; rests = λ _. tt }
progress a (Some x) b g = record { on = λ _. (tt, tt, omega (arith, ap length g)); keeps = tt; rests = λ _. tt }

pub some_left : (a b : LineWords) (r : Option (Bor (List ℕ))) → true ≡ is_some r → YieldsFirstRef words_left a r b → 0 < length (words_left a)
some_left a b None i g = absurd (true≢false i)
some_left a b (Some x) i g = omega (arith, ap length g)

pub none_left : (a b : LineWords) (r : Option (Bor (List ℕ))) → false ≡ is_some r → YieldsFirstRef words_left a r b → words_left a ≡ []
none_left a b None i g = g.0
none_left a b (Some x) i g = absurd (true≢false (sym i))
