-- What is left of a text, token by token.
use Rattle.std.proofs.Common.{◌≡◌, ℕ, suc, ◌+◌, ◌-◌, ◌<◌, Bool, true, false, not, cond, ◌||◌, eqb, ◌≢◌, ◌⊎◌, List, [], ◌∷◌, ◌++◌, length, get_or, take, drop, ℤ, Some, None, Option, MatchOption, IsSomeAnd, Bor, sym, refl, ap, ◌∙◌, subst, ⊎_elim, append-nil, add-zero, arith}
use Rattle.std.proofs.lemmas.Bool.{eqb-true, ne_eqb, or_cases, or_parts, not-false, not-true}
use Rattle.std.proofs.lemmas.List.{take_rest, drop-drop, length-drop, length-append, get_or-drop, get_or_append_left}
use Rattle.texts.specs.declared.Token.{Token as Cut}
use Rattle.texts.specs.declared.Token.TheVariants.{Number, Comment, Problem, LineEnd}
use Rattle.model.specs.Numbers.{digit, integer}
use Rattle.model.specs.Words.{Piece, Placed, line_end, spelt, split, grow, words, word_tokens, ends_line, ends_word, blank, line_tokens, all_tokens, lines, tokens}
use Rattle.texts.specs.Scan.{Clear, Stops, front, after_line, rest_pieces, rest_tokens, line_begins, bytes_of, kind_of, part_token, FirstPart}
use Rattle.texts.proofs.Digits.{at_most_57, no_integer}
use Rattle.texts.proofs.Pieces.{split_piece, split_last, clear_at, Fronted, fronted, front_some, front_first, line_stops, beyond, split_front, front-++, beyond-++, words_none, words_gap, words_more}

-- the end of a line, as a token
abbrev end_at : ℕ → Placed
end_at at = ((at, 10 ∷ []), line_end)

pieces_fresh : (ps : List Piece) → rest_pieces true ps ≡ all_tokens ps
unfolding rest_pieces all_tokens after_line
pieces_fresh [] = refl
pieces_fresh (p ∷ []) = append-nil (line_tokens p)
pieces_fresh (p ∷ (q ∷ ps)) = refl

pub rest_start : (text : List ℕ) → rest_tokens true 0 text ≡ tokens text
unfolding rest_tokens tokens lines
rest_start text = pieces_fresh (split ends_line 0 text)

pub rest_end : (f : Bool) (at : ℕ) → rest_tokens f at [] ≡ []
unfolding rest_tokens rest_pieces split line_tokens word_tokens after_line
rest_end true at = ap (λ z. word_tokens z ++ []) (words_none at)
rest_end false at = ap (λ z. word_tokens z ++ []) (words_none at)

-- after the end of a line, the next line is fresh
after_split : (end at : ℕ) (bs : List ℕ) → after_line end (split ends_line at bs) ≡ end_at end ∷ rest_tokens true at bs
unfolding after_line rest_tokens
after_split end at bs =
    ap (after_line end) (split_front ends_line at bs) ∙ ap (λ z. end_at end ∷ z) (ap all_tokens (sym (split_front ends_line at bs)) ∙ sym (pieces_fresh (split ends_line at bs)))

pub rest_line_end : (f : Bool) (at b : ℕ) (bs : List ℕ) → b ≡ 10 → rest_tokens f at (b ∷ bs) ≡ end_at at ∷ rest_tokens true (suc at) bs
unfolding rest_tokens rest_pieces split line_tokens word_tokens
rest_line_end f at b bs e = rw e (look f ∙ (ap (λ k. after_line k (split ends_line (suc at) bs)) (add-zero at) ∙ after_split at (suc at) bs))
  where
    look : (f : Bool) → cond f (line_tokens (at, [])) (word_tokens (words (at, []))) ++ after_line (at + 0) (split ends_line (suc at) bs) ≡ after_line (at + 0) (split ends_line (suc at) bs)
    look true = ap (λ z. word_tokens z ++ after_line (at + 0) (split ends_line (suc at) bs)) (words_none at)
    look false = ap (λ z. word_tokens z ++ after_line (at + 0) (split ends_line (suc at) bs)) (words_none at)

-- a blank

blank_cases : (P : ℕ → Type 0) (b : ℕ) → blank b ≡ true → P 32 → P 9 → P 13 → P b
blank_cases P b h x y z = ⊎_elim (λ e. subst P (sym (eqb-true b 32 e)) x) (λ e. ⊎_elim (λ e. subst P (sym (eqb-true b 9 e)) y) (λ e. subst P (sym (eqb-true b 13 e)) z) (or_cases (eqb b 9) (eqb b 13) e)) (or_cases (eqb b 32) (eqb b 9 || eqb b 13) h)

blank_words : (at b : ℕ) (l : List ℕ) → blank b ≡ true → words (at, b ∷ l) ≡ words (suc at, l)
blank_words at b l h = words_gap at b l (blank_cases (λ x. ends_word x ≡ true) b h refl refl refl)

blank_line : (at b : ℕ) (l : List ℕ) → blank b ≡ true → line_tokens (at, b ∷ l) ≡ word_tokens (words (suc at, l))
unfolding line_tokens
blank_line at b l h =
    let P : ℕ → Type 0 = λ x. line_tokens (at, x ∷ l) ≡ word_tokens (words (at, x ∷ l)) in
    blank_cases P b h refl refl refl ∙ ap word_tokens (blank_words at b l h)

rest_blank : (f : Bool) (at b : ℕ) (bs : List ℕ) → blank b ≡ true → rest_tokens f at (b ∷ bs) ≡ rest_tokens false (suc at) bs
unfolding rest_tokens split grow rest_pieces
rest_blank f at b bs h =
    rw (blank_cases (λ x. ends_line x ≡ false) b h refl refl refl, split_front ends_line (suc at) bs) (look f ∙ ap (λ k. word_tokens (words (suc at, front ends_line bs)) ++ after_line k (beyond ends_line (suc at) bs)) z)
  where
    z : at + suc (length (front ends_line bs)) ≡ suc at + length (front ends_line bs)
    z = omega arith

    look : (f : Bool) → rest_pieces f ((at, b ∷ front ends_line bs) ∷ beyond ends_line (suc at) bs) ≡ word_tokens (words (suc at, front ends_line bs)) ++ after_line (at + suc (length (front ends_line bs))) (beyond ends_line (suc at) bs)
    look true = ap (λ y. y ++ after_line (at + suc (length (front ends_line bs))) (beyond ends_line (suc at) bs)) (blank_line at b (front ends_line bs) h)
    look false = ap (λ y. word_tokens y ++ after_line (at + suc (length (front ends_line bs))) (beyond ends_line (suc at) bs)) (blank_words at b (front ends_line bs) h)

-- a whole line
rest_line : (at : ℕ) (l tail : List ℕ) → Clear ends_line l → Stops ends_line tail → rest_tokens true at (l ++ tail) ≡ line_tokens (at, l) ++ rest_tokens false (at + length l) tail
unfolding rest_tokens rest_pieces after_line
rest_line at l [] c s =
    ap (λ z. rest_pieces true (split ends_line at z)) (append-nil l) ∙ (ap (rest_pieces true) (split_last ends_line at l c) ∙ ap (λ z. line_tokens (at, l) ++ z) (sym (rest_end false (at + length l))))
rest_line at l (b ∷ t) c s =
    ap (rest_pieces true) (split_piece ends_line at l b t c s) ∙ ap (λ z. line_tokens (at, l) ++ z) (after_split (at + length l) (suc (at + length l)) t ∙ sym (rest_line_end false (at + length l) b t (eqb-true b 10 s)))

-- a word, where it opens no line of its own

clear_line : (w : List ℕ) → Clear ends_word w → Clear ends_line w
clear_line [] c = tt
clear_line (b ∷ w) c = ((or_parts (ends_line b) (blank b) c.0).0, clear_line w c.1)

plain_line : (at b : ℕ) (l : List ℕ) → b ≢ 99 → b ≢ 112 → line_tokens (at, b ∷ l) ≡ word_tokens (words (at, b ∷ l))
unfolding line_tokens
plain_line at b l x y = rw (ne_eqb b 99 x, ne_eqb b 112 y)

rest_word : (f : Bool) (at b : ℕ) (w tail : List ℕ) → (f ≡ true → (b ≢ 99) × (b ≢ 112)) → Clear ends_word (b ∷ w) → Stops ends_word tail → rest_tokens f at ((b ∷ w) ++ tail) ≡ ((at, b ∷ w), spelt (integer (b ∷ w))) ∷ rest_tokens false (at + length (b ∷ w)) tail
unfolding rest_tokens rest_pieces word_tokens
rest_word f at b w tail n c s =
    let cl = clear_line (b ∷ w) c in
    let e : split ends_line at ((b ∷ w) ++ tail) ≡ (at, (b ∷ w) ++ u) ∷ ls = split_front ends_line at ((b ∷ w) ++ tail) ∙ (ap (λ z. (at, z) ∷ beyond ends_line at ((b ∷ w) ++ tail)) (front-++ ends_line (b ∷ w) tail cl) ∙ ap (λ z. (at, (b ∷ w) ++ u) ∷ z) (beyond-++ ends_line at (b ∷ w) tail cl)) in
    let m = words_more at (b ∷ w) u c (omega arith) (line_stops tail s) in
    ap (rest_pieces f) e ∙ (look f n ∙ (ap (λ z. word_tokens z ++ after_line (at + length ((b ∷ w) ++ u)) ls) m ∙ (ap (λ k. word_tokens ((at, b ∷ w) ∷ words (at + length (b ∷ w), u)) ++ after_line k ls) far ∙ ap (λ z. ((at, b ∷ w), spelt (integer (b ∷ w))) ∷ rest_pieces false z) (sym (split_front ends_line (at + length (b ∷ w)) tail)))))
  where
    u : List ℕ
    u = front ends_line tail

    ls : List Piece
    ls = beyond ends_line (at + length (b ∷ w)) tail

    far : at + length ((b ∷ w) ++ u) ≡ (at + length (b ∷ w)) + length u
    far = let z = length-append w u in omega (arith, z)

    look : (f : Bool) → (f ≡ true → (b ≢ 99) × (b ≢ 112)) → rest_pieces f ((at, (b ∷ w) ++ u) ∷ ls) ≡ word_tokens (words (at, (b ∷ w) ++ u)) ++ after_line (at + length ((b ∷ w) ++ u)) ls
    look true n = ap (λ z. z ++ after_line (at + length ((b ∷ w) ++ u)) ls) (plain_line at b (w ++ u) (n refl).0 (n refl).1)
    look false n = refl

rest_any_word : (f : Bool) (at : ℕ) (w tail : List ℕ) → 0 < length w → (f ≡ true → (get_or w 0 0 ≢ 99) × (get_or w 0 0 ≢ 112)) → Clear ends_word w → Stops ends_word tail → rest_tokens f at (w ++ tail) ≡ ((at, w), spelt (integer w)) ∷ rest_tokens false (at + length w) tail
rest_any_word f at [] tail l n c s = absurd (omega arith)
rest_any_word f at (b ∷ w) tail l n c s = rest_word f at b w tail n c s

-- past the blanks

rest_blanks : (f : Bool) (at : ℕ) (w tail : List ℕ) → Clear (λ b. not (blank b)) w → 0 < length w → rest_tokens f at (w ++ tail) ≡ rest_tokens false (at + length w) tail
rest_blanks f at [] tail c l = absurd (omega arith)
rest_blanks f at (b ∷ []) tail c l =
    let z : suc at ≡ at + 1 = omega arith in
    rest_blank f at b tail (not-false (blank b) c.0) ∙ ap (λ k. rest_tokens false k tail) z
rest_blanks f at (b ∷ (x ∷ w)) tail c l =
    let z : suc at + length (x ∷ w) ≡ at + length (b ∷ (x ∷ w)) = omega arith in
    rest_blank f at b ((x ∷ w) ++ tail) (not-false (blank b) c.0) ∙ (rest_blanks false (suc at) (x ∷ w) tail c.1 (omega arith) ∙ ap (λ k. rest_tokens false k tail) z)

-- where a line begins, by the byte before

begins_after : (text : List ℕ) (at : ℕ) (part tail : List ℕ) → drop at text ≡ part ++ tail → 0 < length part → line_begins text (at + length part) ≡ ends_line (get_or part (length part - 1) 0)
begins_after text at part tail e l =
    let z : at + length part - 1 ≡ at + (length part - 1) = omega arith in
    let same : get_or text (at + length part - 1) 0 ≡ get_or part (length part - 1) 0 = ap (λ k. get_or text k 0) z ∙ (sym (get_or-drop at text (length part - 1) 0) ∙ (ap (λ w. get_or w (length part - 1) 0) e ∙ get_or_append_left part tail 0 (length part - 1) (omega arith))) in
    rw (ne_eqb (at + length part) 0 (λ q. omega (arith, q))) (ap ends_line same)

no_line_in_blanks : (w : List ℕ) → Clear (λ b. not (blank b)) w → 0 < length w → ends_line (get_or w (length w - 1) 0) ≡ false
no_line_in_blanks w c l = blank_cases (λ x. ends_line x ≡ false) _ (not-false (blank (get_or w (length w - 1) 0)) (clear_at (λ b. not (blank b)) w (length w - 1) c (omega arith))) refl refl refl

pub blanks : (text : List ℕ) (at : ℕ) (w : List ℕ) → w ≡ front (λ b. not (blank b)) (take (length text - at) (drop at text)) → Fronted (λ b. not (blank b)) (drop at text) w
blanks text at w e = fronted (λ b. not (blank b)) (drop at text) w (e ∙ ap (front (λ b. not (blank b))) (take_rest text at))

pub rest_skip : (text : List ℕ) (at : ℕ) (w : List ℕ) → Fronted (λ b. not (blank b)) (drop at text) w → rest_tokens (line_begins text at) at (drop at text) ≡ rest_tokens (line_begins text (at + length w)) (at + length w) (drop (at + length w) text)
rest_skip text at [] h = let z : at ≡ at + 0 = omega arith in ap (λ k. rest_tokens (line_begins text k) k (drop k text)) z
rest_skip text at (b ∷ v) h =
    let w = b ∷ v in
    let l : 0 < length w = omega arith in
    let f : line_begins text (at + length w) ≡ false = begins_after text at w _ h.parts l ∙ no_line_in_blanks w h.clear l in
    ap (rest_tokens (line_begins text at) at) h.parts ∙ (rest_blanks (line_begins text at) at w _ h.clear l ∙ (ap (λ z. rest_tokens z (at + length w) (drop (length w) (drop at text))) (sym f) ∙ ap (rest_tokens (line_begins text (at + length w)) (at + length w)) (drop-drop (length w) at text)))

pub starts : (text : List ℕ) (at : ℕ) (w bs : List ℕ) → Fronted (λ b. not (blank b)) (drop at text) w → at + length w < length text → bs ≡ drop (at + length w) text → blank (get_or bs 0 0) ≡ false
starts text at w bs h l e = look bs (omega (arith, ap length e, length-drop (at + length w) text)) (subst (Stops (λ b. not (blank b))) (drop-drop (length w) at text ∙ sym e) h.stops)
  where
    look : (bs : List ℕ) → 0 < length bs → Stops (λ b. not (blank b)) bs → blank (get_or bs 0 0) ≡ false
    look [] l s = absurd (omega arith)
    look (b ∷ bs) l s = not-true (blank b) s

-- past the first part

pub rest_part : (text : List ℕ) (at : ℕ) (part : List ℕ) (o : Option Cut) (f : Bool) (bs : List ℕ) → f ≡ line_begins text at → bs ≡ drop at text → FirstPart f bs part o → rest_tokens (line_begins text at) at (drop at text) ≡ part_token at part o ∷ rest_tokens (line_begins text (at + length part)) (at + length part) (drop (at + length part) text)
rest_part text at part o f bs q e h =
    ap (λ z. rest_tokens z at (drop at text)) (sym q) ∙ (ap (rest_tokens f at) (sym e) ∙ (h.gives at ∙ (ap (λ z. part_token at part o ∷ rest_tokens (ends_line (get_or part (length part - 1) 0)) (at + length part) z) (ap (drop (length part)) e ∙ drop-drop (length part) at text) ∙ ap (λ z. part_token at part o ∷ rest_tokens z (at + length part) (drop (at + length part) text)) (sym (begins_after text at part _ (sym e ∙ h.parts) h.some)))))

-- the first part is a line that c or p opens, a word, or the end of a line

line_part : (bs : List ℕ) (t : Cut) → 0 < length (bytes_of t) → Fronted ends_line bs (bytes_of t) → ((at : ℕ) → line_tokens (at, bytes_of t) ≡ ((at, bytes_of t), kind_of t) ∷ []) → FirstPart true bs (bytes_of t) (Some t)
line_part bs t l h k =
    let w = bytes_of t in
    record {
      some = l;
      parts = h.parts;
      gives = λ at. ap (rest_tokens true at) h.parts ∙ (rest_line at w (drop (length w) bs) h.clear h.stops ∙ (ap (λ y. y ++ rest_tokens false (at + length w) (drop (length w) bs)) (k at) ∙ ap (λ y. ((at, w), kind_of t) ∷ rest_tokens y (at + length w) (drop (length w) bs)) (sym (clear_at ends_line w (length w - 1) h.clear (omega arith)))));
    }

pub comment_part : (bs : List ℕ) (w : Bor (List ℕ)) → 0 < length bs → get_or bs 0 0 ≡ 99 → w.now ≡ front ends_line bs → FirstPart true bs w.now (Some (Comment w))
unfolding line_tokens
comment_part bs w l c e =
    let h = fronted ends_line bs w.now e in
    let s = front_some ends_line bs w.now h l (ap ends_line c) in
    line_part bs (Comment w) s h (λ at. rw (front_first ends_line bs w.now h s ∙ c))

pub problem_part : (bs : List ℕ) (w : Bor (List ℕ)) → 0 < length bs → get_or bs 0 0 ≡ 112 → w.now ≡ front ends_line bs → FirstPart true bs w.now (Some (Problem w))
unfolding line_tokens
problem_part bs w l c e =
    let h = fronted ends_line bs w.now e in
    let s = front_some ends_line bs w.now h l (ap ends_line c) in
    line_part bs (Problem w) s h (λ at. rw (front_first ends_line bs w.now h s ∙ c))

pub end_part : (f : Bool) (bs : List ℕ) (w : Bor (List ℕ)) → 0 < length bs → get_or bs 0 0 ≡ 10 → w.now ≡ take 1 bs → FirstPart f bs w.now (Some (LineEnd w))
end_part f [] w l h e = absurd (omega arith)
end_part f (b ∷ bs) w l h e =
    let q : w.now ≡ 10 ∷ [] = e ∙ ap (λ x. x ∷ []) h in
    record {
      some = rw q (omega arith);
      parts = rw q (ap (λ x. x ∷ bs) h);
      gives = λ at. let z : suc at ≡ at + 1 = omega arith in rw q (rest_line_end f at b bs h ∙ ap (λ k. end_at at ∷ rest_tokens true k bs) z);
    }

pub word_part : (f : Bool) (bs w : List ℕ) (o : Option Cut) → 0 < length bs → ends_word (get_or bs 0 0) ≡ false → (f ≡ true → (get_or bs 0 0 ≢ 99) × (get_or bs 0 0 ≢ 112)) → w ≡ front ends_word bs → ((at : ℕ) → part_token at w o ≡ ((at, w), spelt (integer w))) → FirstPart f bs w o
word_part f bs w o l n k e t =
    let h = fronted ends_word bs w e in
    let s = front_some ends_word bs w h l n in
    let last = clear_at ends_line w (length w - 1) (clear_line w h.clear) (omega arith) in
    record {
      some = s;
      parts = h.parts;
      gives = λ at. ap (rest_tokens f at) h.parts ∙ (rest_any_word f at w (drop (length w) bs) s (λ q. rw (front_first ends_word bs w h s) (k q)) h.clear h.stops ∙ (ap (λ y. y ∷ rest_tokens false (at + length w) (drop (length w) bs)) (sym (t at)) ∙ ap (λ y. part_token at w o ∷ rest_tokens y (at + length w) (drop (length w) bs)) (sym last)));
    }

pub plain_part : (f : Bool) (bs w : List ℕ) → 0 < length bs → ends_word (get_or bs 0 0) ≡ false → (f ≡ true → (get_or bs 0 0 ≢ 99) × (get_or bs 0 0 ≢ 112)) × (digit (get_or bs 0 0) ≡ false) × (get_or bs 0 0 ≢ 45) → w ≡ front ends_word bs → FirstPart f bs w None
plain_part f bs w l n k e =
    let h = fronted ends_word bs w e in
    let s = front_some ends_word bs w h l n in
    let same = front_first ends_word bs w h s in
    word_part f bs w None l n k.0 e (λ at. ap (λ i. ((at, w), spelt i)) (sym (no_integer w s (rw same k.1) (rw same k.2))))

pub no_word_end : (b : ℕ) → ends_line b ≡ false → blank b ≡ false → ends_word b ≡ false
no_word_end b h e = rw (h, e)

-- neither 99 nor 112
pub number_first : (b : ℕ) → (digit b ≡ true) ⊎ (b ≡ 45) → (b ≢ 99) × (b ≢ 112)
number_first b h = ⊎_elim (λ d. let s = at_most_57 b d in (λ e. omega (arith, s, e), λ e. omega (arith, s, e))) (λ m. (λ e. omega (arith, m, e), λ e. omega (arith, m, e))) h

pub word_token : (at : ℕ) (w : Bor (List ℕ)) (i : Option ℤ) (o : Option Cut) (R : ℤ → Cut → Type 0) → MatchOption i (o ≡ None) (λ x. IsSomeAnd o (R x)) → ((x : ℤ) (t : Cut) → R x t → t ≡ Number w x) → part_token at w.now o ≡ ((at, w.now), spelt i)
word_token at w None o R h k = ap (part_token at w.now) h
word_token at w (Some x) None R h k = absurd h
word_token at w (Some x) (Some t) R h k = ap (λ y. part_token at w.now (Some y)) (k x t h)
