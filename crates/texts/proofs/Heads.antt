-- What the functions on the problem line need.
use Rattle.std.proofs.Common.{◌≡◌, ℕ, ◌≢◌, Bool, true, false, not, cond, ◌&&◌, eqb, List, [], ◌∷◌, length, get_or, Some, None, codes, Option, sym, refl, ap, ◌∙◌}
use Rattle.std.specs.Cmp.Lexicographic.{pointwise}
use Rattle.std.proofs.lemmas.Bool.{ne_eqb, and_left, and_right, cond-false}
use Rattle.model.specs.declared.ProblemLine.{ProblemLine}
use Rattle.model.specs.Numbers.{natural}
use Rattle.model.specs.Reading.{same_bytes, counted, counts}

-- two words, byte by byte

same_pointwise : (a b : List ℕ) → same_bytes a b ≡ pointwise eqb a b
unfolding same_bytes
same_pointwise [] [] = refl
same_pointwise [] (y ∷ b) = refl
same_pointwise (x ∷ a) [] = refl
same_pointwise (x ∷ a) (y ∷ b) = ap (λ t. eqb x y && t) (same_pointwise a b)

not_not : (t : Bool) → not (not t) ≡ t
not_not true = refl
not_not false = refl

pub same_by : (t : Bool) (a b c : List ℕ) → t ≡ not (pointwise eqb a b) → b ≡ c → same_bytes a c ≡ not t
same_by t a b c h e = same_pointwise a c ∙ (ap (pointwise eqb a) (sym e) ∙ (sym (not_not (pointwise eqb a b)) ∙ ap not (sym h)))

-- the counts of a line that is not four words, not these words, or without a number

pub other_length : (ws : List (List ℕ)) → length ws ≢ 4 → None ≡ counts ws
unfolding counts
other_length ws h = sym (cond-false _ _ _ (and_left _ _ (ne_eqb (length ws) 4 h)))

no_counts : (b : Bool) → ◌≡◌ {A = Option ProblemLine} (cond b None None) None
no_counts true = refl
no_counts false = refl

no_second : (v : Option ℕ) → counted v None ≡ None
no_second None = refl
no_second (Some v) = refl

pub no_variables : (ws : List (List ℕ)) → natural (get_or ws 2 []) ≡ None → None ≡ counts ws
unfolding counts
no_variables ws e = sym (rw e (no_counts _))

pub no_clauses : (ws : List (List ℕ)) → natural (get_or ws 3 []) ≡ None → None ≡ counts ws
unfolding counts
no_clauses ws e = sym (rw (e, no_second (natural (get_or ws 2 []))) (no_counts _))

pub no_p : (ws : List (List ℕ)) → same_bytes (get_or ws 0 []) (codes "p") ≡ false → None ≡ counts ws
unfolding counts
no_p ws h = sym (cond-false _ _ _ (and_right _ _ (and_left _ _ h)))

pub no_cnf : (ws : List (List ℕ)) → same_bytes (get_or ws 1 []) (codes "cnf") ≡ false → None ≡ counts ws
unfolding counts
no_cnf ws h = sym (cond-false _ (counted (natural (get_or ws 2 [])) (natural (get_or ws 3 []))) None (and_right (eqb (length ws) 4) _ (and_right (same_bytes (get_or ws 0 []) (codes "p")) _ h)))

pub four_words : (p cnf v c : List ℕ) (x y : ℕ) → same_bytes p (codes "p") ≡ true → same_bytes cnf (codes "cnf") ≡ true → natural v ≡ Some x → natural c ≡ Some y → Some (record { variables = x; clauses = y }) ≡ counts (p ∷ (cnf ∷ (v ∷ (c ∷ []))))
unfolding counts
four_words p cnf v c x y a b d e = sym (rw (a, b, d, e) refl)
