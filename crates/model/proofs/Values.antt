-- What a literal's value is after one is made true.
use Rattle.std.proofs.Common.{◌≡◌, ℕ, zero, suc, ◌<◌, ◌≤◌, ◌≢◌, length, get_or, set, ℤ, pos, negsuc, refl, ap, ⊎_elim, arith}
use Rattle.std.proofs.lemmas.List.{get_or-set_same, get_or-set_other, get_or_past}
use Rattle.std.proofs.lemmas.Bool.{cases_lt, cases_eq}
use Rattle.model.specs.Clauses.{off, opposite}
use Rattle.model.specs.Search.{Setting, entry, flipped, value, make_true}

pub flipped_two : (b : ℕ) → flipped b ≡ 2 → b ≡ 2
flipped_two zero e = omega arith
flipped_two (suc zero) e = omega arith
flipped_two (suc (suc b)) e = e

pub two_flipped : (b : ℕ) → b ≡ 2 → flipped b ≡ 2
two_flipped b e = rw e

pub in_range : (σ : Setting) (k : ℕ) → get_or σ k 0 ≡ 2 → k < length σ
in_range σ k e = ⊎_elim (λ (h : k < length σ). h) (λ (h : length σ ≤ k). let z = get_or_past σ k 0 h in omega arith) (cases_lt k (length σ))

-- a literal that is false with t true, and is not the opposite of t, was false before
pub false_before : (σ : Setting) (t u : ℤ) → value σ t ≡ 2 → value (make_true σ t) u ≡ 0 → u ≢ opposite t → value σ u ≡ 0
false_before σ (pos zero) u two z n = omega arith
false_before σ (pos (suc k)) (pos zero) two z n = refl
false_before σ (pos (suc k)) (pos (suc j)) two z n =
    ⊎_elim
    (λ (e : j ≡ k). let r = in_range σ k two in let s = get_or-set_same σ k 1 0 r in let z' : get_or (set σ k 1) k 0 ≡ 0 = rw e at z in omega arith)
    (λ (d : j ≢ k). rw (get_or-set_other σ k j 1 0 d) at z)
    (cases_eq j k)
false_before σ (pos (suc k)) (negsuc j) two z n =
    let d : j ≢ k = λ e. n (ap negsuc e) in rw (get_or-set_other σ k j 1 0 d) at z
false_before σ (negsuc k) (pos zero) two z n = refl
false_before σ (negsuc k) (pos (suc j)) two z n =
    let d : j ≢ k = λ e. n (ap (λ (i : ℕ). pos (suc i)) e) in rw (get_or-set_other σ k j 0 0 d) at z
false_before σ (negsuc k) (negsuc j) two z n =
    ⊎_elim
    (λ (e : j ≡ k). let r = in_range σ k (flipped_two (get_or σ k 0) two) in let s = get_or-set_same σ k 0 0 r in let z' : flipped (get_or (set σ k 0) k 0) ≡ 0 = rw e at z in let z'' : flipped 0 ≡ 0 = rw s at z' in omega arith)
    (λ (d : j ≢ k). rw (get_or-set_other σ k j 0 0 d) at z)
    (cases_eq j k)

pub off_two : (σ : Setting) (k : ℕ) → entry σ k ≡ 2 → value σ (off k) ≡ 2
off_two σ zero e = e
off_two σ (suc k) e = two_flipped (get_or σ k 0) e
