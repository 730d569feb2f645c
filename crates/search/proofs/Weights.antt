-- What a trail weighs: a measure that falls with each turn of the search.
use Rattle.std.proofs.Common.{◌≡◌, ℕ, zero, suc, ◌+◌, ◌-◌, ◌*◌, ◌^◌, ◌<◌, ◌≤◌, Bool, true, false, cond, List, [], ◌∷◌, ◌++◌, length, ap, ◌∙◌, mul_comm, pow-suc, arith, length-append}
use Rattle.search.specs.declared.Why.{Why}
use Rattle.search.specs.declared.Why.TheVariants.{On, Off}
use Rattle.search.specs.declared.Mark.{Mark}
use Rattle.search.specs.States.{is_on, heavy, weight}

three_pos : (k : ℕ) → 0 < 3 ^ k
three_pos zero = omega arith
three_pos (suc k) = let h = three_pos k in let e = pow-suc 3 k in omega (arith, h, e)

three : (n d : ℕ) → d < n → 3 ^ (n - d) ≡ 3 * 3 ^ (n - suc d)
three n d l =
    let e : n - d ≡ suc (n - suc d) = omega arith in
    ap (λ (x : ℕ). 3 ^ x) e ∙ pow-suc 3 (n - suc d) ∙ mul_comm (3 ^ (n - suc d)) 3

heavy_push : (n d : ℕ) (ms : List Mark) (m : Mark) → heavy n d (ms ++ (m ∷ [])) ≡ heavy n d ms + cond (is_on m.why) (3 ^ (n - suc (d + length ms))) 0
heavy_push n d [] m = let e : d + 0 ≡ d = omega arith in let p = ap (λ (k : ℕ). cond (is_on m.why) (3 ^ (n - suc k)) 0) e in omega (arith, p)
heavy_push n d (x ∷ ms) m =
    let h = heavy_push n (suc d) ms m in
    let e : suc d + length ms ≡ d + suc (length ms) = omega arith in
    let p = ap (λ (k : ℕ). cond (is_on m.why) (3 ^ (n - suc k)) 0) e in
    omega (arith, h, p)

pushed : (n : ℕ) (ms : List Mark) (m : Mark) → heavy n 0 (ms ++ (m ∷ [])) ≡ heavy n 0 ms + cond (is_on m.why) (3 ^ (n - suc (length ms))) 0
pushed n ms m = let h = heavy_push n 0 ms m in let e : 0 + length ms ≡ length ms = omega arith in let p = ap (λ (k : ℕ). cond (is_on m.why) (3 ^ (n - suc k)) 0) e in omega (arith, h, p)

cond_le : (b : Bool) (x : ℕ) → cond b x 0 ≤ x
cond_le true x = omega arith
cond_le false x = omega arith

-- a mark taken off leaves no more
pub lighter : (n : ℕ) (ms rest : List Mark) (m : Mark) → ms ≡ rest ++ (m ∷ []) → (length rest < length ms) × (heavy n 0 rest ≤ heavy n 0 ms)
lighter n ms rest m e =
    let h = pushed n rest m in
    let q = ap (heavy n 0) e in
    let l = ap length e ∙ length-append rest (m ∷ []) in
    (omega (arith, l), omega (arith, h, q))

-- a choice turned off weighs no more than it did on
pub turned_weight : (n : ℕ) (ms rest : List Mark) (m x : Mark) → ms ≡ rest ++ (m ∷ []) → m.why ≡ On → x.why ≡ Off → weight n (rest ++ (x ∷ [])) ≤ heavy n 0 ms
turned_weight n ms rest m x e on off =
    let a = pushed n rest m in
    let b = pushed n rest x in
    let p = ap (λ (w : Why). cond (is_on w) (3 ^ (n - suc (length rest))) 0) on in
    let q = ap (λ (w : Why). cond (is_on w) (3 ^ (n - suc (length rest))) 0) off in
    let l : length (rest ++ (x ∷ [])) ≡ suc (length rest) = length-append rest (x ∷ []) ∙ omega arith in
    let r = ap (λ (k : ℕ). 3 ^ (n - k)) l in
    let h = ap (heavy n 0) e in
    omega (arith, a, b, p, q, r, h)

-- one mark more weighs less
pub pushed_weight : (n : ℕ) (ms : List Mark) (m : Mark) → length ms < n → weight n (ms ++ (m ∷ [])) < weight n ms
pushed_weight n ms m h =
    let a = pushed n ms m in
    let t = three n (length ms) h in
    let z = three_pos (n - suc (length ms)) in
    let c = cond_le (is_on m.why) (3 ^ (n - suc (length ms))) in
    let l : length (ms ++ (m ∷ [])) ≡ suc (length ms) = length-append ms (m ∷ []) ∙ omega arith in
    let r = ap (λ (k : ℕ). 3 ^ (n - k)) l in
    omega (arith, a, t, z, c, r)

pub under_weight : (n w : ℕ) (ms : List Mark) → w ≤ heavy n 0 ms → w < weight n ms
under_weight n w ms h = let p = three_pos (n - length ms) in omega (arith, p, h)
