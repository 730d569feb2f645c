-- The line ends of a text as a count, and the bytes after the last of them as counted from its end.
use Rattle.std.proofs.Common.{◌≡◌, ℕ, ◌+◌, Bool, true, false, not, cond, ◌==◌, List, [], ◌∷◌, ◌++◌, length, reverse, refl, sym, ap, ◌∙◌, add_comm, append_assoc, append-nil}
use Rattle.std.proofs.lemmas.List.{reverse-append}
use Rattle.std.proofs.lemmas.List.Recursion.{is_count_by}
use Rattle.std.proofs.lemmas.List.Folds.{length-prefix_len}
use Rattle.std.specs.List.{count_by, prefix_len, take_while}
use Rattle.reports.specs.Places.{line_ends, since_end}

pub ends_counted : (w : List ℕ) → line_ends w ≡ count_by (λ b. b == 10) w
unfolding line_ends
ends_counted w = is_count_by line_ends (λ b. b == 10) refl (λ b bs. refl) w

one_more : (v : Bool) (n : ℕ) → cond v 0 (n + 1) ≡ cond (not v) (1 + n) 0
one_more true n = refl
one_more false n = add_comm n 1

since_onto : (w before : List ℕ) → since_end (prefix_len (λ b. not (b == 10)) before) w ≡ prefix_len (λ b. not (b == 10)) (reverse w ++ before)
unfolding since_end
since_onto [] before = refl
since_onto (b ∷ bs) before =
    let e : reverse bs ++ (b ∷ before) ≡ reverse (b ∷ bs) ++ before = sym (append_assoc (reverse bs) (b ∷ []) before) ∙ ap (λ (l : List ℕ). l ++ before) (sym (reverse-append (b ∷ []) bs)) in
    ap (λ (n : ℕ). since_end n bs) (one_more (b == 10) (prefix_len (λ c. not (c == 10)) before)) ∙ since_onto bs (b ∷ before) ∙ ap (prefix_len (λ c. not (c == 10))) e

pub since_counted : (w : List ℕ) → since_end 0 w ≡ length (take_while (λ b. not (b == 10)) (reverse w))
since_counted w =
    since_onto w [] ∙ ap (prefix_len (λ b. not (b == 10))) (append-nil (reverse w)) ∙ sym (length-prefix_len (λ b. not (b == 10)) (reverse w))
