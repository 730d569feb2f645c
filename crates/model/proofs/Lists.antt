use Rattle.std.proofs.Common.{ℕ, suc, List, [], ◌∷◌, ◌++◌, length}
use Rattle.model.specs.Clauses.{Each}
use Rattle.model.specs.Arguments.{At, at_first, at_later}

pub each_append : {A : Type 0} (P : A → Type 0) (xs ys : List A) → Each P xs → Each P ys → Each P (xs ++ ys)
each_append P [] ys p q = q
each_append P (x ∷ xs) ys p q = (p.0, each_append P xs ys p.1 q)

pub each_at : {A : Type 0} (P : A → Type 0) {xs : List A} {k : ℕ} {x : A} → Each P xs → At xs k x → P x
each_at P p at_first = p.0
each_at P p (at_later a) = each_at P p.1 a

pub each_map : {A : Type 0} (P Q : A → Type 0) (xs : List A) → ((x : A) → P x → Q x) → Each P xs → Each Q xs
each_map P Q [] f p = tt
each_map P Q (x ∷ xs) f p = (f x p.0, each_map P Q xs f p.1)

pub at_grows : {A : Type 0} {xs : List A} {k : ℕ} {x : A} (ys : List A) → At xs k x → At (xs ++ ys) k x
at_grows ys at_first = at_first
at_grows ys (at_later a) = at_later (at_grows ys a)

pub at_last : {A : Type 0} (xs : List A) (x : A) → At (xs ++ x ∷ []) (suc (length xs)) x
at_last [] x = at_first
at_last (y ∷ xs) x = at_later (at_last xs x)
