use Rattle.std.proofs.Common.{◌≡◌, ℕ, zero, suc, ◌+◌, ◌-◌, ◌*◌, ◌<◌, ◌≤◌, List, [], ◌∷◌, ◌++◌, map, length, take, drop, Some, sym, refl, ap, ◌∙◌, arith}
use borrow.Rule.Slice.PartMut.{put_mid}
use Rattle.std.specs.List.{slice_get}
use Rattle.std.specs.Simd.{first_chunks}
use Rattle.std.proofs.lemmas.Option.{slice_get_within, get_or_from_slice_get}
use Rattle.std.proofs.lemmas.Slice.{take-put_mid, take-put_mid_below, drop-put_mid}
use Rattle.std.proofs.lemmas.List.{length_push, length-append, length-drop, length-take-le, drop_at, drop-drop, drop-take, take-take, map-append, take_more, take-append-drop, flat_map_more}
use Rattle.model.specs.declared.Step.{Step}
use Rattle.records.specs.Kept.{Beyond}
use Rattle.records.specs.Line.{line, lines, said, steps_in}
use Rattle.records.proofs.Laid.{line_count}

pub steps_count : (n : ℕ) (bs : List ℕ) → length (steps_in n bs) ≡ n
unfolding steps_in
steps_count zero bs = refl
steps_count (suc n) bs = length_push (steps_in n bs) (said (take 28 (drop (n * 28) bs))) ∙ (ap (λ k. k + 1) (steps_count n bs) ∙ omega arith)

part_same : (m : ℕ) (bs cs : List ℕ) → take (m + 28) bs ≡ take (m + 28) cs → take 28 (drop m bs) ≡ take 28 (drop m cs)
part_same m bs cs e = sym (drop-take m 28 bs) ∙ (ap (drop m) e ∙ drop-take m 28 cs)

front_same : (m n : ℕ) (bs cs : List ℕ) → m ≤ n → take n bs ≡ take n cs → take m bs ≡ take m cs
front_same m n bs cs h e = sym (take-take m n bs h) ∙ (ap (take m) e ∙ take-take m n cs h)

-- the first n lines rest on the first n * 28 bytes alone
steps_same : (n : ℕ) (bs cs : List ℕ) → take (n * 28) bs ≡ take (n * 28) cs → steps_in n bs ≡ steps_in n cs
unfolding steps_in
steps_same zero bs cs e = refl
steps_same (suc n) bs cs e =
    let m : suc n * 28 ≡ n * 28 + 28 = omega arith in
    let f : take (n * 28 + 28) bs ≡ take (n * 28 + 28) cs = rw m at e in
    let below : n * 28 ≤ n * 28 + 28 = omega arith in
    let l = steps_same n bs cs (front_same (n * 28) (n * 28 + 28) bs cs below f) in
    let p = part_same (n * 28) bs cs f in
    ap (λ x. x ++ (said (take 28 (drop (n * 28) bs)) ∷ [])) l ∙ ap (λ y. steps_in n cs ++ (said y ∷ [])) p

steps_more : (n : ℕ) (bs : List ℕ) → steps_in (n + 1) bs ≡ steps_in n bs ++ (said (take 28 (drop (n * 28) bs)) ∷ [])
unfolding steps_in
steps_more n bs = let e : n + 1 ≡ suc n = omega arith in rw e

-- the lines that the bytes hold, one by one
lines_at : (n k : ℕ) (bs : List ℕ) → k < n → slice_get (first_chunks 28 n bs) k ≡ Some (take 28 (drop (k * 28) bs))
lines_at zero k bs h = absurd (omega arith)
lines_at (suc n) zero bs h = refl
lines_at (suc n) (suc k) bs h = let e : suc k * 28 ≡ 28 + k * 28 = omega arith in rw e (lines_at n k (drop 28 bs) (omega arith) ∙ ap (λ x. Some (take 28 x)) (drop-drop (k * 28) 28 bs))

pub steps_lines : (n m : ℕ) (bs : List ℕ) → n ≤ m → map said (take n (first_chunks 28 m bs)) ≡ steps_in n bs
unfolding steps_in
steps_lines zero m bs h = refl
steps_lines (suc n) m bs h =
    let cs : List (List ℕ) = first_chunks 28 m bs in
    let l : slice_get cs n ≡ Some (take 28 (drop (n * 28) bs)) = lines_at m n bs (omega arith) in
    let e : suc n ≡ n + 1 = omega arith in
    ap (λ k. map said (take k cs)) e ∙ (ap (map said) (take_more cs n [] (slice_get_within cs n _ l) ∙ ap (λ x. take n cs ++ (x ∷ [])) (get_or_from_slice_get cs n _ [] l))
    ∙ (map-append said (take n cs) (take 28 (drop (n * 28) bs) ∷ []) ∙ ap (λ x. x ++ (said (take 28 (drop (n * 28) bs)) ∷ [])) (steps_lines n m bs (omega arith))))

-- the bytes used are the lines of the steps that they say
abbrev pub Exact : ℕ → List ℕ → Type 0
Exact n bs = take (n * 28) bs ≡ lines (steps_in n bs)

pub exact_none : (bs : List ℕ) → Exact 0 bs
unfolding steps_in
exact_none bs = refl

-- what a line more leaves
pub record OneMore (n : ℕ) (es bs : List ℕ) (s : Step) : Type 0 where
  pub beyond : Beyond (n * 28) es ((n + 1) * 28) bs
  pub held : steps_in (n + 1) bs ≡ steps_in n es ++ (s ∷ [])
  pub exact : Exact n es → Exact (n + 1) bs

pub one_more : (n : ℕ) (es text : List ℕ) (s : Step) → n * 28 + 28 ≤ length es → text ≡ line s → said text ≡ s → OneMore n es (put_mid (n * 28) (n * 28 + 28 - n * 28) es text) s
one_more n es text s le is st =
    let k : ℕ = n * 28 + 28 - n * 28 in
    let e : k ≡ 28 = omega arith in
    let tl : length text ≡ 28 = ap length is ∙ line_count s in
    let at : n * 28 ≤ length es = omega arith in
    let end : (n + 1) * 28 ≡ n * 28 + 28 = omega arith in
    let bs : List ℕ = put_mid (n * 28) k es text in
    let t : take (n * 28 + 28) bs ≡ take (n * 28) es ++ text = take-put_mid (n * 28) k es text (n * 28 + 28) (omega arith) at in
    let d : drop (n * 28 + 28) bs ≡ drop (n * 28 + 28) es = drop-put_mid (n * 28) k es text (n * 28 + 28) (omega arith) at (omega arith) in
    let front : take (n * 28) bs ≡ take (n * 28) es = take-put_mid_below (n * 28) k es text (n * 28) (omega arith) at in
    let back : take 28 (drop (n * 28) bs) ≡ text = sym (drop-take (n * 28) 28 bs) ∙ (ap (drop (n * 28)) t ∙ drop_at (take (n * 28) es) text (n * 28) (length-take-le (n * 28) es at)) in
    let held : steps_in (n + 1) bs ≡ steps_in n es ++ (s ∷ []) =
    steps_more n bs ∙ (ap (λ x. x ++ (said (take 28 (drop (n * 28) bs)) ∷ [])) (steps_same n bs es front) ∙ ap (λ y. steps_in n es ++ (y ∷ [])) (ap said back ∙ st)) in
    record {
      beyond = record { grows = omega arith; long = omega (arith, length-append (take (n * 28) es) (text ++ drop k (drop (n * 28) es)), length-append text (drop k (drop (n * 28) es)), length-drop k (drop (n * 28) es), length-drop (n * 28) es, length-take-le (n * 28) es at); rest = rw end d };
      held = held;
      exact = λ x. rw end (t ∙ (ap (λ y. y ++ text) x ∙ (ap (λ y. lines (steps_in n es) ++ y) is ∙ (flat_map_more line [] (steps_in n es) s ∙ ap lines (sym held)))));
    }

-- what the lent bytes hold after a record that was made over them: the lines of its steps, and beyond these what was there
pub lent_bytes : (n i : ℕ) (es bs : List ℕ) (ss : List Step) → Exact n bs → Beyond i es (n * 28) bs → steps_in n bs ≡ ss → bs ≡ lines ss ++ drop (length ss * 28) es
lent_bytes n i es bs ss x b e =
    let l : length ss ≡ n = ap length (sym e) ∙ steps_count n bs in
    rw l (sym (take-append-drop (n * 28) bs) ∙ (ap (λ xs. xs ++ drop (n * 28) bs) (x ∙ ap lines e) ∙ ap (λ xs. lines ss ++ xs) b.rest))
