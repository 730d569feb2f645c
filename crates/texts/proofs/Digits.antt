-- What the functions on numbers need.
use Rattle.std.proofs.Common.{◌≡◌, ℕ, ◌+◌, ◌-◌, ◌*◌, ◌<◌, ◌≤◌, Bool, true, false, ◌&&◌, leb, ◌≢◌, ◌⊎◌, List, [], ◌∷◌, length, get_or, take, drop, Some, None, Option, sym, refl, ap, ◌∙◌, ⊎_elim, arith}
use Rattle.std.proofs.lemmas.List.{take_rest, drop_more, drop_all}
use Rattle.std.proofs.lemmas.Bool.{ne_eqb, lt-leb, le-leb, and_left, and_right, and_from, and_parts, leb-true, cond-true, cond-false}
use Rattle.std.specs.Char.{digit_value, NotDecimalDigitIn}
use Rattle.std.proofs.lemmas.Str.{digit_value_digit}
use Rattle.std.proofs.lemmas.Str.Parse.{digit_from_value}
use Rattle.model.specs.Numbers.{digit, digits, decimal_value, natural, integer, plain, negative}

pub bad_length : (w : List ℕ) → (length w < 1) ⊎ (6 < length w) → None ≡ natural w
unfolding natural
bad_length w h =
    let f : (leb 1 (length w) && leb (length w) 6) ≡ false = ⊎_elim (λ a. and_left _ _ (lt-leb 1 (length w) a)) (λ a. and_right _ _ (lt-leb (length w) 6 a)) h in
    sym (cond-false _ (Some (decimal_value 0 w)) None (and_right (digits w) _ f))

pub bad_digit : (w : List ℕ) → digits w ≡ false → None ≡ natural w
unfolding natural
bad_digit w h = sym (cond-false _ (Some (decimal_value 0 w)) None (and_left (digits w) _ h))

pub good_digits : (w : List ℕ) (v : ℕ) → 1 ≤ length w → length w ≤ 6 → digits w ≡ true → v ≡ decimal_value 0 w → Some v ≡ natural w
unfolding natural
good_digits w v a b d e =
    ap (λ (x : ℕ). Some x) e ∙ sym (cond-true _ (Some (decimal_value 0 w)) None (and_from (digits w) _ d (and_from _ _ (le-leb 1 (length w) a) (le-leb (length w) 6 b))))

pub digits_more : (w : List ℕ) (i : ℕ) → i < length w → digit (get_or w i 0) ≡ true → digits (drop (i + 1) w) ≡ digits (drop i w)
unfolding digits
digits_more w i l h = sym (ap digits (drop_more w i 0 l) ∙ rw h)

pub digits_broken : (w : List ℕ) (i : ℕ) → i < length w → digit (get_or w i 0) ≡ false → digits (drop i w) ≡ false
unfolding digits
digits_broken w i l h = ap digits (drop_more w i 0 l) ∙ and_left _ _ h

pub digits_done : (w : List ℕ) (i : ℕ) → length w ≤ i → digits (drop i w) ≡ true
unfolding digits
digits_done w i l = ap digits (drop_all i w l)

pub value_more : (w : List ℕ) (i v d : ℕ) → i < length w → d ≡ get_or w i 0 - 48 → decimal_value (v * 10 + d) (drop (i + 1) w) ≡ decimal_value v (drop i w)
unfolding decimal_value
value_more w i v d l e = ap (λ x. decimal_value (v * 10 + x) (drop (i + 1) w)) e ∙ sym (ap (decimal_value v) (drop_more w i 0 l))

pub value_done : (w : List ℕ) (i v : ℕ) → length w ≤ i → decimal_value v (drop i w) ≡ v
unfolding decimal_value
value_done w i v l = ap (decimal_value v) (drop_all i w l)

pub with_minus : (w : List ℕ) (o : Option ℕ) → get_or w 0 0 ≡ 45 → o ≡ natural (take (length w - 1) (drop 1 w)) → negative o ≡ integer w
unfolding integer
with_minus w o e q = ap (λ (x : Option ℕ). negative x) (q ∙ ap natural (take_rest w 1)) ∙ rw e

pub without_minus : (w : List ℕ) (o : Option ℕ) → get_or w 0 0 ≢ 45 → o ≡ natural w → plain o ≡ integer w
unfolding integer
without_minus w o e q = ap (λ (x : Option ℕ). plain x) q ∙ rw (ne_eqb (get_or w 0 0) 45 e)

-- what `to_digit` told

pub no_digit : (b : ℕ) → NotDecimalDigitIn 10 b → digit b ≡ false
no_digit b h = look (leb 48 b) (leb b 57) refl refl
  where
    look : (s t : Bool) → leb 48 b ≡ s → leb b 57 ≡ t → (s && t) ≡ false
    look true true p q = let k : 58 ≤ b = h (leb-true 48 b p) (leb-true b 57 q) in absurd (omega (arith, k, leb-true b 57 q))
    look true false p q = refl
    look false t p q = refl

pub a_digit : (b d : ℕ) → d < 10 → d ≡ digit_value b → (digit b ≡ true) × (d ≡ b - 48)
a_digit b d l e =
    let r = digit_from_value b (omega (arith, e)) in
    (and_from _ _ (le-leb 48 b r.0) (le-leb b 57 r.1), omega (arith, e, digit_value_digit b r))

pub at_most_57 : (b : ℕ) → digit b ≡ true → b ≤ 57
at_most_57 b h = leb-true b 57 (and_parts (leb 48 b) (leb b 57) h).1

pub no_first : (w : List ℕ) → length w < 1 → get_or w 0 0 ≢ 45
no_first [] l e = absurd (omega (arith, e))
no_first (b ∷ w) l e = absurd (omega arith)

-- a word whose first byte is neither a digit nor a minus
pub no_integer : (w : List ℕ) → 0 < length w → digit (get_or w 0 0) ≡ false → get_or w 0 0 ≢ 45 → integer w ≡ None
unfolding integer digits
no_integer [] l d m = absurd (omega arith)
no_integer (b ∷ w) l d m = rw (ne_eqb b 45 m) (ap (λ (x : Option ℕ). plain x) (sym (bad_digit (b ∷ w) (and_left (digit b) (digits w) d))))
