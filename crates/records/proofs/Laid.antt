use Rattle.std.proofs.Common.{◌≡◌, ℕ, suc, ◌%◌, ◌<◌, ◌≤◌, List, [], ◌∷◌, ◌++◌, length, take, drop, set, replicate, sym, refl, ap, ◌∙◌, arith}
use borrow.Rule.Slice.PartMut.{put_mid}
use Rattle.std.proofs.lemmas.List.{append_assoc, append-nil, length-append, take_at, drop_at, set_at, take_all, take-take, length-drop, length-take-le}
use Rattle.model.specs.declared.Reference.{Reference}
use Rattle.model.specs.declared.Reference.TheVariants.{R, S}
use Rattle.model.specs.declared.Step.{Step}
use Rattle.records.specs.Line.{digits, number, word, line, named, said}
use Rattle.records.proofs.Digits.{digits_count, number_digits}

-- a part written after a front p
put_after : (p q ys : List ℕ) (a k : ℕ) → length p ≡ a → put_mid a k (p ++ q) ys ≡ p ++ (ys ++ drop k q)
put_after p q ys a k e = ap (λ x. x ++ (ys ++ drop k (drop a (p ++ q)))) (take_at p q a e) ∙ ap (λ x. p ++ (ys ++ drop k x)) (drop_at p q a e)

-- a letter and 10 digits fill 11 places
pub letter_laid : (b n : ℕ) (ys : List ℕ) → ys ≡ digits 10 n → b ∷ (ys ++ []) ≡ b ∷ digits 10 n
letter_laid b n ys e = ap (λ z. b ∷ z) (append-nil ys ∙ e)

digits_read : (n : ℕ) → n < 4294967296 → number 0 (take 10 (digits 10 n)) % 4294967296 ≡ n
digits_read n h =
    let le : length (digits 10 n) ≤ 10 = omega (arith, digits_count 10 n) in
    let e : number 0 (take 10 (digits 10 n)) ≡ n = ap (number 0) (take_all 10 (digits 10 n) le) ∙ number_digits 10 n (omega arith) in
    omega arith

pub named_R : (n : ℕ) → n < 4294967296 → named (82 ∷ digits 10 n) ≡ R n
unfolding named
named_R n h = ap R (digits_read n h)

pub named_S : (n : ℕ) → n < 4294967296 → named (83 ∷ digits 10 n) ≡ S n
unfolding named
named_S n h = ap S (digits_read n h)

pub word_count : (r : Reference) → length (word r) ≡ 11
unfolding word
word_count (R n) = ap suc (digits_count 10 n)
word_count (S n) = ap suc (digits_count 10 n)

pub line_count : (s : Step) → length (line s) ≡ 28
unfolding line
line_count s =
    let d = length-append (digits 3 s.variable) (10 ∷ []) in
    let r = length-append (word s.right) (32 ∷ (digits 3 s.variable ++ (10 ∷ []))) in
    let l = length-append (word s.left) (32 ∷ (word s.right ++ (32 ∷ (digits 3 s.variable ++ (10 ∷ []))))) in
    omega (arith, digits_count 3 s.variable, word_count s.right, word_count s.left)

-- a line's two references with a blank after each
front : List ℕ → List ℕ → List ℕ
front w u = (w ++ (32 ∷ [])) ++ (u ++ (32 ∷ []))

blank_after : (w : List ℕ) → length w ≡ 11 → length (w ++ (32 ∷ [])) ≡ 12
blank_after w h = length-append w (32 ∷ []) ∙ omega arith

front_count : (w u : List ℕ) → length w ≡ 11 → length u ≡ 11 → length (front w u) ≡ 24
unfolding front
front_count w u hw hu = length-append (w ++ (32 ∷ [])) (u ++ (32 ∷ [])) ∙ omega (arith, blank_after w hw, blank_after u hu)

-- laid into 28 blanks
references_laid : (w u : List ℕ) → length w ≡ 11 → put_mid 12 11 (w ++ replicate 17 32) u ≡ front w u ++ replicate 4 32
unfolding front
references_laid w u hw =
    ap (λ x. put_mid 12 11 x u) (sym (append_assoc w (32 ∷ []) (replicate 16 32)))
    ∙ (put_after (w ++ (32 ∷ [])) (replicate 16 32) u 12 11 (blank_after w hw) ∙ simp append_assoc)

pub room_after : (w q u : List ℕ) → length w ≡ 11 → length q ≡ 17 → length u ≡ 11 → 27 ≤ length (put_mid 12 11 (w ++ q) u)
room_after w q u hw hq hu =
    let l : length (w ++ q) ≡ 28 = length-append w q ∙ omega arith in
    let a : length (take 12 (w ++ q)) ≡ 12 = length-take-le 12 (w ++ q) (omega arith) in
    let b = length-append (take 12 (w ++ q)) (u ++ drop 11 (drop 12 (w ++ q))) in
    let d = length-append u (drop 11 (drop 12 (w ++ q))) in
    let e = length-drop 11 (drop 12 (w ++ q)) in
    let f = length-drop 12 (w ++ q) in
    omega arith

digits_laid : (w u : List ℕ) → length w ≡ 11 → length u ≡ 11 → length (take 3 (drop 24 (put_mid 12 11 (w ++ replicate 17 32) u))) ≡ 3
digits_laid w u hw hu =
    let r = room_after w (replicate 17 32) u hw refl hu in
    let l = length-drop 24 (put_mid 12 11 (w ++ replicate 17 32) u) in
    length-take-le 3 (drop 24 (put_mid 12 11 (w ++ replicate 17 32) u)) (omega arith)

parts_laid : (w u d : List ℕ) → length w ≡ 11 → length u ≡ 11 → length d ≡ 3
    → set (put_mid 24 3 (put_mid 12 11 (w ++ replicate 17 32) u) d) 27 10 ≡ w ++ (32 ∷ (u ++ (32 ∷ (d ++ (10 ∷ [])))))
unfolding front
parts_laid w u d hw hu hd =
    let l : length (front w u ++ d) ≡ 27 = length-append (front w u) d ∙ omega (arith, front_count w u hw hu) in
    let e : put_mid 24 3 (put_mid 12 11 (w ++ replicate 17 32) u) d ≡ (front w u ++ d) ++ (32 ∷ []) =
    ap (λ x. put_mid 24 3 x d) (references_laid w u hw) ∙ (put_after (front w u) (replicate 4 32) d 24 3 (front_count w u hw hu) ∙ simp append_assoc) in
    ap (λ x. set x 27 10) e ∙ (set_at (front w u ++ d) 32 [] 10 27 l ∙ simp append_assoc)

-- what a line says is read off its parts
parts_said : (w u d : List ℕ) → length w ≡ 11 → length u ≡ 11 → length d ≡ 3
    → said (w ++ (32 ∷ (u ++ (32 ∷ (d ++ (10 ∷ [])))))) ≡ record { left = named w; right = named u; variable = number 0 d % 256 }
unfolding said front
parts_said w u d hw hu hd =
    let bs = w ++ (32 ∷ (u ++ (32 ∷ (d ++ (10 ∷ []))))) in
    let a : take 11 bs ≡ w = take_at w (32 ∷ (u ++ (32 ∷ (d ++ (10 ∷ []))))) 11 hw in
    let e1 : bs ≡ (w ++ (32 ∷ [])) ++ (u ++ (32 ∷ (d ++ (10 ∷ [])))) = simp append_assoc in
    let e2 : bs ≡ front w u ++ (d ++ (10 ∷ [])) = simp append_assoc in
    let b : take 11 (drop 12 bs) ≡ u = ap (λ x. take 11 (drop 12 x)) e1 ∙ (ap (take 11) (drop_at (w ++ (32 ∷ [])) (u ++ (32 ∷ (d ++ (10 ∷ [])))) 12 (blank_after w hw)) ∙ take_at u (32 ∷ (d ++ (10 ∷ []))) 11 hu) in
    let c : take 3 (drop 24 bs) ≡ d = ap (λ x. take 3 (drop 24 x)) e2 ∙ (ap (take 3) (drop_at (front w u) (d ++ (10 ∷ [])) 24 (front_count w u hw hu)) ∙ take_at d (10 ∷ []) 3 hd) in
    cc

-- the parts of a step's line
pub record Parts (s : Step) (w u d : List ℕ) : Type 0 where
  pub left_part : w ≡ word s.left
  pub right_part : u ≡ word s.right
  pub variable_part : d ≡ digits (length (take 3 (drop 24 (put_mid 12 11 (w ++ replicate 17 32) u)))) s.variable

left_count : {s : Step} {w u d : List ℕ} → Parts s w u d → length w ≡ 11
left_count {s = s} p = ap length p.left_part ∙ word_count s.left

right_count : {s : Step} {w u d : List ℕ} → Parts s w u d → length u ≡ 11
right_count {s = s} p = ap length p.right_part ∙ word_count s.right

three_digits : {s : Step} {w u d : List ℕ} → Parts s w u d → d ≡ digits 3 s.variable
three_digits {s = s} {w = w} {u = u} p = p.variable_part ∙ ap (λ k. digits k s.variable) (digits_laid w u (left_count p) (right_count p))

digits_counted : {s : Step} {w u d : List ℕ} → Parts s w u d → length d ≡ 3
digits_counted {s = s} p = ap length (three_digits p) ∙ digits_count 3 s.variable

pub line_laid : (s : Step) (w u d : List ℕ) → Parts s w u d → set (put_mid 24 3 (put_mid 12 11 (w ++ replicate 17 32) u) d) 27 10 ≡ line s
unfolding line
line_laid s w u d p =
    let t = three_digits p in
    let l = p.left_part in
    let r = p.right_part in
    parts_laid w u d (left_count p) (right_count p) (digits_counted p) ∙ simp (l, r, t)

pub line_said : (s : Step) (w u d : List ℕ) → Parts s w u d → named w ≡ s.left → named u ≡ s.right → s.variable < 256
    → said (set (put_mid 24 3 (put_mid 12 11 (w ++ replicate 17 32) u) d) 27 10) ≡ s
line_said s w u d p l r h =
    let n : number 0 d ≡ s.variable = ap (number 0) (three_digits p) ∙ number_digits 3 s.variable (omega arith) in
    let v : number 0 d % 256 ≡ s.variable = omega arith in
    ap said (parts_laid w u d (left_count p) (right_count p) (digits_counted p))
    ∙ (parts_said w u d (left_count p) (right_count p) (digits_counted p) ∙ simp (l, r, v))

-- the byte after a reference says nothing
pub named_front : (bs : List ℕ) → named (take 12 bs) ≡ named (take 11 bs)
unfolding named
named_front [] = refl
named_front (b ∷ bs) = let e = take-take 10 11 bs (omega arith) in let f = take-take 10 10 bs (omega arith) in rw (e, f)
