-- What splitting gives, and the words of a line.
use Rattle.std.proofs.Common.{◌≡◌, ℕ, zero, suc, ◌+◌, ◌<◌, ◌≤◌, Bool, true, false, not, cond, ltb, List, [], ◌∷◌, ◌++◌, length, get_or, take, drop, Some, None, Option, unwrap_or, sym, refl, ap, ◌∙◌, subst, append-nil, arith}
use Rattle.std.specs.List.{position_or_len}
use Rattle.std.proofs.lemmas.Bool.{true≢false, ltb-false}
use Rattle.std.proofs.lemmas.List.Sums.{prefix_len-le-length}
use Rattle.model.specs.Words.{Piece, grow, split, filled, words, ends_line, ends_word}
use Rattle.texts.specs.Scan.{Clear, Stops, front}

pub split_piece : (cuts : ℕ → Bool) (at : ℕ) (w : List ℕ) (s : ℕ) (rest : List ℕ) → Clear cuts w → cuts s ≡ true → split cuts at (w ++ (s ∷ rest)) ≡ (at, w) ∷ split cuts (suc (at + length w)) rest
unfolding split grow
split_piece cuts at [] s rest h e =
    let z : suc at ≡ suc (at + 0) = omega arith in
    rw e (ap (λ k. (at, []) ∷ split cuts k rest) z)
split_piece cuts at (b ∷ w) s rest h e =
    let z : suc (suc at + length w) ≡ suc (at + suc (length w)) = omega arith in
    let i = split_piece cuts (suc at) w s rest h.1 e in
    rw h.0 (ap (grow at b) i ∙ ap (λ k. (at, b ∷ w) ∷ split cuts k rest) z)

pub split_last : (cuts : ℕ → Bool) (at : ℕ) (w : List ℕ) → Clear cuts w → split cuts at w ≡ (at, w) ∷ []
unfolding split grow
split_last cuts at [] h = refl
split_last cuts at (b ∷ w) h = rw h.0 (ap (grow at b) (split_last cuts (suc at) w h.1))

pub clear-++ : (cuts : ℕ → Bool) (v w : List ℕ) → Clear cuts v → Clear cuts w → Clear cuts (v ++ w)
clear-++ cuts [] w a b = b
clear-++ cuts (x ∷ v) w a b = (a.0, clear-++ cuts v w a.1 b)

filled_piece : (at : ℕ) (w : List ℕ) (ps : List Piece) → 0 < length w → filled ((at, w) ∷ ps) ≡ (at, w) ∷ filled ps
unfolding filled
filled_piece at [] ps h = absurd (omega arith)
filled_piece at (b ∷ w) ps h = refl

-- the pieces after the first cut
unfoldable pub beyond : (ℕ → Bool) → ℕ → List ℕ → List Piece
beyond cuts at [] = []
beyond cuts at (b ∷ bs) = cond (cuts b) (split cuts (suc at) bs) (beyond cuts (suc at) bs)

pub split_front : (cuts : ℕ → Bool) (at : ℕ) (bs : List ℕ) → split cuts at bs ≡ (at, front cuts bs) ∷ beyond cuts at bs
unfolding split grow beyond
split_front cuts at [] = refl
split_front cuts at (b ∷ bs) = look (cuts b) (ap (grow at b) (split_front cuts (suc at) bs))
  where
    look : (t : Bool) → grow at b (split cuts (suc at) bs) ≡ (at, b ∷ front cuts bs) ∷ beyond cuts (suc at) bs → cond t ((at, []) ∷ split cuts (suc at) bs) (grow at b (split cuts (suc at) bs)) ≡ (at, cond t [] (b ∷ front cuts bs)) ∷ cond t (split cuts (suc at) bs) (beyond cuts (suc at) bs)
    look true e = refl
    look false e = e

pub front-++ : (cuts : ℕ → Bool) (w t : List ℕ) → Clear cuts w → front cuts (w ++ t) ≡ w ++ front cuts t
front-++ cuts [] t c = refl
front-++ cuts (b ∷ w) t c = rw c.0 (ap (λ z. b ∷ z) (front-++ cuts w t c.1))

pub beyond-++ : (cuts : ℕ → Bool) (at : ℕ) (w t : List ℕ) → Clear cuts w → beyond cuts at (w ++ t) ≡ beyond cuts (at + length w) t
unfolding beyond
beyond-++ cuts at [] t c = let z : at ≡ at + 0 = omega arith in ap (λ k. beyond cuts k t) z
beyond-++ cuts at (b ∷ w) t c =
    let z : suc at + length w ≡ at + suc (length w) = omega arith in
    rw c.0 (beyond-++ cuts (suc at) w t c.1 ∙ ap (λ k. beyond cuts k t) z)

-- the bytes before the first cut, and the others

pub clear_at : (cuts : ℕ → Bool) (w : List ℕ) (k : ℕ) → Clear cuts w → k < length w → cuts (get_or w k 0) ≡ false
clear_at cuts [] k c l = absurd (omega arith)
clear_at cuts (b ∷ w) zero c l = c.0
clear_at cuts (b ∷ w) (suc k) c l = clear_at cuts w k c.1 (omega arith)

pub record Fronted (cuts : ℕ → Bool) (bs w : List ℕ) : Type 0 where
  pub clear : Clear cuts w
  pub parts : bs ≡ w ++ drop (length w) bs
  pub stops : Stops cuts (drop (length w) bs)

front_fronted : (cuts : ℕ → Bool) (bs : List ℕ) → Fronted cuts bs (front cuts bs)
front_fronted cuts [] = record { clear = tt; parts = refl; stops = tt }
front_fronted cuts (b ∷ bs) = look (cuts b) refl (front_fronted cuts bs)
  where
    look : (t : Bool) → cuts b ≡ t → Fronted cuts bs (front cuts bs) → Fronted cuts (b ∷ bs) (cond t [] (b ∷ front cuts bs))
    look true e r = record { clear = tt; parts = refl; stops = e }
    look false e r = record { clear = (e, r.clear); parts = ap (λ z. b ∷ z) r.parts; stops = r.stops }

pub fronted : (cuts : ℕ → Bool) (bs w : List ℕ) → w ≡ front cuts bs → Fronted cuts bs w
fronted cuts bs w e = subst (Fronted cuts bs) (sym e) (front_fronted cuts bs)

pub front_some : (cuts : ℕ → Bool) (bs w : List ℕ) → Fronted cuts bs w → 0 < length bs → cuts (get_or bs 0 0) ≡ false → 0 < length w
front_some cuts [] w h l n = absurd (omega arith)
front_some cuts (b ∷ bs) [] h l n = absurd (true≢false (sym h.stops ∙ n))
front_some cuts (b ∷ bs) (x ∷ w) h l n = omega arith

pub front_first : (cuts : ℕ → Bool) (bs w : List ℕ) → Fronted cuts bs w → 0 < length w → get_or w 0 0 ≡ get_or bs 0 0
front_first cuts bs [] h l = absurd (omega arith)
front_first cuts bs (x ∷ w) h l = sym (ap (λ z. get_or z 0 0) h.parts)

-- the first place at which a test passes ends them

front_at : (cuts : ℕ → Bool) (bs : List ℕ) → take (position_or_len cuts bs) bs ≡ front cuts bs
front_at cuts [] = refl
front_at cuts (b ∷ bs) = look (cuts b) (front_at cuts bs)
  where
    look : (t : Bool) → take (position_or_len cuts bs) bs ≡ front cuts bs → take (cond (not t) (1 + position_or_len cuts bs) 0) (b ∷ bs) ≡ cond t [] (b ∷ front cuts bs)
    look true e = refl
    look false e =
        let z : 1 + position_or_len cuts bs ≡ suc (position_or_len cuts bs) = omega arith in
        ap (λ k. take k (b ∷ bs)) z ∙ ap (λ w. b ∷ w) e

place_or_end : (p l : ℕ) → p ≤ l → unwrap_or (cond (ltb p l) (Some p) None) l ≡ p
place_or_end p l h = look (ltb p l) refl
  where
    look : (t : Bool) → ltb p l ≡ t → unwrap_or (cond t (Some p) None) l ≡ p
    look true e = refl
    look false e = omega (arith, ltb-false p l e)

pub front_by : (cuts : ℕ → Bool) (bs : List ℕ) (o : Option ℕ) (n : ℕ) → o ≡ cond (ltb (position_or_len cuts bs) (length bs)) (Some (position_or_len cuts bs)) None → n ≡ unwrap_or o (length bs) → take n bs ≡ front cuts bs
front_by cuts bs o n p e = ap (λ k. take k bs) (e ∙ (ap (λ x. unwrap_or x (length bs)) p ∙ place_or_end (position_or_len cuts bs) (length bs) (prefix_len-le-length (λ x. not (cuts x)) bs))) ∙ front_at cuts bs

-- what stands before the line's end stops a word too
pub line_stops : (t : List ℕ) → Stops ends_word t → Stops ends_word (front ends_line t)
line_stops [] s = tt
line_stops (b ∷ t) s = look (ends_line b) refl
  where
    look : (e : Bool) → ends_line b ≡ e → Stops ends_word (cond e [] (b ∷ front ends_line t))
    look true h = tt
    look false h = s

-- words

pub words_none : (at : ℕ) → words (at, []) ≡ []
unfolding words split filled
words_none at = refl

pub words_gap : (at b : ℕ) (l : List ℕ) → ends_word b ≡ true → words (at, b ∷ l) ≡ words (suc at, l)
unfolding words split filled
words_gap at b l h = rw h

pub words_more : (at : ℕ) (w u : List ℕ) → Clear ends_word w → 0 < length w → Stops ends_word u → words (at, w ++ u) ≡ (at, w) ∷ words (at + length w, u)
unfolding words split filled
words_more at w [] c l s =
    ap (λ z. filled (split ends_word at z)) (append-nil w) ∙ (ap filled (split_last ends_word at w c) ∙ filled_piece at w [] l)
words_more at w (b ∷ u) c l s =
    ap filled (split_piece ends_word at w b u c s) ∙ (filled_piece at w (split ends_word (suc (at + length w)) u) l ∙ ap (λ z. (at, w) ∷ z) (sym (words_gap (at + length w) b u s)))
