-- More bytes in a buffer.
use Rattle.std.proofs.Common.{◌≡◌, ℕ, zero, suc, ◌+◌, ◌-◌, ◌≤◌, min, List, [], ◌∷◌, ◌++◌, length, take, drop, sym, refl, ap, ◌∙◌, ap₂, arith, length-append}
use borrow.Rule.Slice.PartMut.{put_mid}
use Rattle.std.proofs.lemmas.List.{length-drop, length-take, take_all, take-append-drop, drop-drop, take_min, drop_min}
use Rattle.std.proofs.lemmas.Slice.{take-put_mid, drop-put_mid}
use Rattle.writing.specs.Sinks.{Filled, written}

take_both : (n : ℕ) (xs ys : List ℕ) → take n xs ++ take (n - length xs) ys ≡ take n (xs ++ ys)
take_both zero xs ys = let e : 0 - length xs ≡ 0 = omega arith in rw e
take_both (suc n) [] ys = let e : suc n - 0 ≡ suc n = omega arith in rw e
take_both (suc n) (x ∷ xs) ys = let e : suc n - suc (length xs) ≡ n - length xs = omega arith in rw e (ap (λ zs. x ∷ zs) (take_both n xs ys))

pub filled_more : (before x bytes : List ℕ) (at : ℕ) → Filled before x bytes at → at ≤ length bytes → (y ys : List ℕ) (k end : ℕ)
    → end ≡ at + k → k ≡ min (length bytes - at) (length y) → ys ≡ take k y → Filled before (x ++ y) (put_mid at k bytes ys) end
filled_more before x bytes at f w y ys k end e m t =
    let zs : List ℕ = drop (length x) before in
    let room : length bytes - at ≡ length before - length x = sym (length-drop at bytes) ∙ (ap length f.rest ∙ length-drop (length x) before) in
    let n : length ys ≡ k = ap length t ∙ (length-take k y ∙ omega arith) in
    let put : ys ≡ take (length before - length x) y = t ∙ (ap (λ j. take j y) m ∙ (take_min (length bytes - at) y ∙ ap (λ j. take j y) room)) in
    let past : k ≡ min (length y) (length zs) = omega (arith, length-drop (length x) before) in
    record {
      front = take-put_mid at k bytes ys end (omega arith) w ∙ (ap₂ ◌++◌ f.front put ∙ take_both (length before) x y);
      rest = drop-put_mid at k bytes ys end (omega arith) w n ∙ (ap (λ j. drop j bytes) e ∙ (sym (drop-drop k at bytes) ∙ (ap (drop k) f.rest
          ∙ (ap (λ j. drop j zs) past ∙ (drop_min (length y) zs ∙ (drop-drop (length y) (length x) before ∙ ap (λ j. drop j before) (sym (length-append x y))))))));
    }

pub filled_none : (bytes : List ℕ) (at : ℕ) → at ≡ 0 → Filled bytes [] bytes at
filled_none bytes at e = rw e (record { front = sym (none (length bytes)); rest = refl })
  where
    none : (n : ℕ) → take {A = ℕ} n [] ≡ []
    none zero = refl
    none (suc n) = refl

pub filled_is : (before x bytes : List ℕ) (at : ℕ) → Filled before x bytes at → bytes ≡ written x before
filled_is before x bytes at f = sym (take-append-drop at bytes) ∙ ap₂ ◌++◌ f.front f.rest

-- where there is room for all of it
pub written_whole : (x before : List ℕ) → length x ≤ length before → written x before ≡ x ++ drop (length x) before
written_whole x before h = ap (λ w. w ++ drop (length x) before) (take_all (length before) x h)
