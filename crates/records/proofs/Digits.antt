use Rattle.std.proofs.Common.{◌≡◌, ℕ, zero, suc, ◌+◌, ◌-◌, ◌*◌, ◌/◌, ◌%◌, ◌^◌, ◌<◌, List, [], ◌∷◌, ◌++◌, length, drop, set, sym, refl, ap, ◌∙◌, pow-suc, arith}
use native.Mathlib.Nat.{add-mul-mod_self_left}
use Rattle.std.specs.List.{fold}
use Rattle.std.proofs.lemmas.List.{append_assoc, drop-set, length_push}
use Rattle.records.specs.Line.{digits, number}

pub digits_push : (k n : ℕ) → digits (k + 1) n ≡ digits k (n / 10) ++ ((48 + n % 10) ∷ [])
unfolding digits
digits_push k n = let e : k + 1 ≡ suc k = omega arith in rw e

pub digits_count : (k n : ℕ) → length (digits k n) ≡ k
unfolding digits
digits_count zero n = refl
digits_count (suc k) n = length_push (digits k (n / 10)) (48 + n % 10) ∙ (ap (λ j. j + 1) (digits_count k (n / 10)) ∙ omega arith)

pub number_push : (n : ℕ) (bs : List ℕ) (b : ℕ) → number n (bs ++ (b ∷ [])) ≡ 10 * number n bs + (b - 48)
unfolding number
number_push n [] b = refl
number_push n (x ∷ bs) b = number_push (10 * n + (x - 48)) bs b

-- what digits say, if they are enough
pub number_digits : (k n : ℕ) → n < 10 ^ k → number 0 (digits k n) ≡ n
unfolding number digits
number_digits zero n h = omega arith
number_digits (suc k) n h =
    let p : 10 ^ suc k ≡ 10 ^ k * 10 = pow-suc 10 k in
    let i = number_digits k (n / 10) (omega arith) in
    let q = number_push 0 (digits k (n / 10)) (48 + n % 10) in
    q ∙ omega arith

-- one turn of writing, from the last place back
pub digit_put : (i r : ℕ) (bs all : List ℕ) → i < length bs → digits (i + 1) r ++ drop (i + 1) bs ≡ all → digits i (r / 10) ++ drop i (set bs i (48 + r % 10)) ≡ all
digit_put i r bs all h e =
    ap (λ x. digits i (r / 10) ++ x) (drop-set bs i (48 + r % 10) h)
    ∙ (sym (append_assoc (digits i (r / 10)) ((48 + r % 10) ∷ []) (drop (i + 1) bs))
    ∙ (ap (λ x. x ++ drop (i + 1) bs) (sym (digits_push i r)) ∙ e))

carried : (m d : ℕ) → (10 * (m % 4294967296) + d) % 4294967296 ≡ (10 * m + d) % 4294967296
carried m d =
    let e : 10 * m + d ≡ 10 * (m % 4294967296) + d + 4294967296 * (10 * (m / 4294967296)) = omega arith in
    sym (ap (λ x. x % 4294967296) e ∙ add-mul-mod_self_left (10 * (m % 4294967296) + d) 4294967296 (10 * (m / 4294967296)))

step : ℕ → ℕ → ℕ
step n b = (n * 10 % 4294967296 + (b - 48)) % 4294967296

one_read : (n b : ℕ) → step (n % 4294967296) b ≡ (10 * n + (b - 48)) % 4294967296
unfolding step
one_read n b =
    let m : (n % 4294967296 * 10 % 4294967296 + (b - 48)) % 4294967296 ≡ (10 * (n % 4294967296) + (b - 48)) % 4294967296 = omega arith in
    m ∙ carried n (b - 48)

digits_fold : (n : ℕ) (bs : List ℕ) → fold step (n % 4294967296) bs ≡ number n bs % 4294967296
unfolding number step
digits_fold n [] = refl
digits_fold n (b ∷ bs) = ap (λ m. fold step m bs) (one_read n b) ∙ digits_fold (10 * n + (b - 48)) bs

-- reading in 32 bits
pub digits_read : (bs : List ℕ) → fold (λ n b. (n * 10 % 4294967296 + (b - 48)) % 4294967296) 0 bs ≡ number 0 bs % 4294967296
unfolding step
digits_read bs = digits_fold 0 bs
