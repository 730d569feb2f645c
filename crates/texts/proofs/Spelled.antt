-- The words that numbers are written with.
use Rattle.std.proofs.Common.{◌≡◌, ℕ, suc, ◌^◌, ◌<◌, ◌≤◌, Bool, true, false, ◌&&◌, leb, List, [], ◌∷◌, length, get_or, ℤ, pos, negsuc, Some, decimal, Option, sym, ap, arith, rules}
use Rattle.std.specs.Fmt.{signed_decimal}
use Rattle.std.proofs.lemmas.Bool.{and_parts, leb-true, ne_eqb}
use Rattle.std.proofs.lemmas.Str.Parse.{IsNumeralModel, numerals_by_fold}
use Rattle.std.proofs.lemmas.Fmt.{digits_decimal, digits_value-decimal, decimal_nonempty, length-decimal-le}
use Rattle.model.specs.Clauses.{variable}
use Rattle.model.specs.Numbers.{digits, decimal_value, natural, integer, plain, negative}
use Rattle.model.specs.Words.{ends_line, ends_word}
use Rattle.texts.specs.Scan.{Clear}
use Rattle.texts.proofs.Digits.{good_digits}

own : IsNumeralModel (λ ds. digits ds ≡ true) (decimal_value 0)
unfolding digits decimal_value
own = numerals_by_fold _ (search rules) decimal_value (search rules)

digits_clear : (cuts : ℕ → Bool) (w : List ℕ) → ((b : ℕ) → 45 ≤ b → cuts b ≡ false) → digits w ≡ true → Clear cuts w
unfolding digits
digits_clear cuts [] f h = tt
digits_clear cuts (b ∷ w) f h =
    let p = and_parts (leb 48 b && leb b 57) (digits w) h in
    let l : 48 ≤ b = leb-true 48 b (and_parts (leb 48 b) (leb b 57) p.0).0 in
    (f b (omega arith), digits_clear cuts w f p.1)

first_digit : (w : List ℕ) → digits w ≡ true → 0 < length w → (48 ≤ get_or w 0 0) × (get_or w 0 0 ≤ 57)
unfolding digits
first_digit [] h l = absurd (omega arith)
first_digit (b ∷ w) h l =
    let p = and_parts (leb 48 b && leb b 57) (digits w) h in
    let q = and_parts (leb 48 b) (leb b 57) p.0 in
    (leb-true 48 b q.0, leb-true b 57 q.1)

pub no_line_end : (b : ℕ) → 45 ≤ b → ends_line b ≡ false
no_line_end b h = ne_eqb b 10 (λ e. omega arith)

pub no_word_end : (b : ℕ) → 45 ≤ b → ends_word b ≡ false
no_word_end b h = rw (no_line_end b h, ne_eqb b 32 (λ e. omega arith), ne_eqb b 9 (λ e. omega arith), ne_eqb b 13 (λ e. omega arith))

module _ (n : ℕ) (small : n < 1000000) where
  fits : n < 2 ^ 64
  fits = omega arith

  decimal_digits : digits (decimal n) ≡ true
  decimal_digits = digits_decimal own n fits

  pub decimal_clear : (cuts : ℕ → Bool) → ((b : ℕ) → 45 ≤ b → cuts b ≡ false) → Clear cuts (decimal n)
  decimal_clear cuts f = digits_clear cuts (decimal n) f decimal_digits

  pub decimal_filled : 0 < length (decimal n)
  decimal_filled = decimal_nonempty n fits

  decimal_first : (48 ≤ get_or (decimal n) 0 0) × (get_or (decimal n) 0 0 ≤ 57)
  decimal_first = first_digit (decimal n) decimal_digits decimal_filled

  pub natural_decimal : natural (decimal n) ≡ Some n
  natural_decimal =
      let l : length (decimal n) ≤ 6 = length-decimal-le 6 n (omega arith) (omega arith) fits in
      sym (good_digits (decimal n) n decimal_filled l decimal_digits (sym (digits_value-decimal own n fits)))

pub integer_signed : (t : ℤ) → variable t < 1000000 → integer (signed_decimal t) ≡ Some t
unfolding integer
integer_signed (pos n) h =
    let f = decimal_first n h in
    rw (ne_eqb (get_or (decimal n) 0 0) 45 (λ e. omega (arith, f.0))) (ap (λ (o : Option ℕ). plain o) (natural_decimal n h))
integer_signed (negsuc n) h = ap (λ (o : Option ℕ). negative o) (natural_decimal (suc n) h)

pub signed_filled : (t : ℤ) → variable t < 1000000 → 0 < length (signed_decimal t)
signed_filled (pos n) h = decimal_filled n h
signed_filled (negsuc n) h = omega arith

pub signed_clear : (cuts : ℕ → Bool) (t : ℤ) → ((b : ℕ) → 45 ≤ b → cuts b ≡ false) → variable t < 1000000 → Clear cuts (signed_decimal t)
signed_clear cuts (pos n) f h = decimal_clear n h cuts f
signed_clear cuts (negsuc n) f h = (f 45 (omega arith), decimal_clear (suc n) h cuts f)

pub signed_first : (t : ℤ) → variable t < 1000000 → get_or (signed_decimal t) 0 0 ≤ 57
signed_first (pos n) h = (decimal_first n h).1
signed_first (negsuc n) h = omega arith
