-- A hand with one more literal.
use Rattle.std.proofs.Common.{◌≡◌, ℕ, ◌≤◌, Bool, true, false, cond, ◌||◌, ltb, List, [], ◌∷◌, ◌++◌, length, ℤ, Ok, Err, sym, refl, ap, ◌∙◌, arith}
use Rattle.std.specs.List.{list_any}
use Rattle.std.specs.Ordering.{int_eq}
use Rattle.std.proofs.lemmas.List.{length_push}
use Rattle.std.proofs.lemmas.Bool.{lt-ltb, le-ltb, ltb-true}
use Rattle.std.proofs.lemmas.Bool.Decides.{same_from_decides, Decides-int_eq}
use Rattle.arrayvec.specs.ArrayVec.{ArrayVec}
use Rattle.model.specs.declared.Decline.TheVariants.{BadLiteral, WideClause}
use Rattle.model.specs.Clauses.{Clause, same, has}
use Rattle.model.specs.Machine.{every, names, merged}
use Rattle.model.proofs.Merging.{every_append, merged_push}
use Rattle.model.proofs.Signs.{same_refl, same_true}
use Rattle.station.specs.declared.Hand.{Hand}
use Rattle.station.specs.Hands.{fitting, gathered, joined, Holds}

-- a slice's search for a literal is that of the clause
pub any_has : (C : Clause) (t : ℤ) → list_any (λ y. int_eq y t) C ≡ has C t
any_has [] t = refl
any_has (u ∷ C) t =
    let e : int_eq u t ≡ same u t = same_from_decides _ _ (Decides-int_eq u t) (same_true u t, λ p. ap (same u) (sym p) ∙ same_refl u) in
    rw (e, any_has C t) (look (same u t) (has C t))
  where
    look : (a b : Bool) → (a || b) ≡ cond a true b
    look true b = refl
    look false b = refl

-- a literal in range joins a clause: it stands there already, or there is no room, or it comes last
pub record Joins (n : ℕ) (v : ArrayVec ℤ) (t : ℤ) (b : Bool) : Type 0 where
  pub old : b ≡ true → joined n (Ok v) t ≡ Ok v
  pub wide : b ≡ false → length v.items ≡ 24 → joined n (Ok v) t ≡ Err WideClause
  pub new : (w : ArrayVec ℤ) → b ≡ false → w.items ≡ v.items ++ (t ∷ []) → length w.items ≤ 24 → joined n (Ok v) t ≡ Ok w

pub joins : (n : ℕ) (v : ArrayVec ℤ) (t u : ℤ) (C : Clause) (a b : Bool) → u ≡ t → a ≡ names n u → a ≡ true → C ≡ v.items → b ≡ list_any (λ y. int_eq y u) C → Joins n v t b
joins n v t u C a b is told inside all h =
    let i : names n t ≡ true = ap (names n) (sym is) ∙ (sym told ∙ inside) in
    let q : list_any (λ y. int_eq y u) C ≡ list_any (λ y. int_eq y t) v.items = rw (is, all) in
    let m : has v.items t ≡ b = sym (any_has v.items t) ∙ sym (h ∙ q) in
    record {
      old = λ e. rw (i, m, e);
      wide = λ e l. rw (i, m, e, lt-ltb 24 (length (v.items ++ (t ∷ []))) (omega (arith, l, length_push v.items t)));
      new = λ w e p l. rw (i, m, e, sym p, le-ltb 24 (length w.items) l);
    }

-- what is gathered of one literal more
pub gathered_push : (n : ℕ) (ts : List ℤ) (t : ℤ) → gathered n (ts ++ (t ∷ [])) ≡ joined n (gathered n ts) t
gathered_push n ts t = rw (every_append (names n) ts (t ∷ []), merged_push [] ts t) (look (every (names n) ts) (names n t) (has (merged [] ts) t) (ltb 24 (length (merged [] ts))) (merged [] ts) refl refl refl)
  where
    look : (a b h w : Bool) (C : Clause) → names n t ≡ b → has C t ≡ h → ltb 24 (length C) ≡ w → cond (cond a (cond b true false) false) (fitting (cond h C (C ++ (t ∷ [])))) (Err BadLiteral) ≡ joined n (cond a (fitting C) (Err BadLiteral)) t
    look false true h w C p q r = rw p
    look false false h w C p q r = rw p
    look true false h true C p q r = rw (r, p)
    look true false h false C p q r = rw (r, p)
    look true true true true C p q r = rw (r, p)
    look true true false true C p q r = rw (r, p, lt-ltb 24 (length (C ++ (t ∷ []))) (omega (arith, ltb-true 24 (length C) r, length_push C t)))
    look true true true false C p q r = rw (r, p, q)
    look true true false false C p q r = rw (r, p, q)

pub holds_push : (n : ℕ) (ts : List ℤ) (t : ℤ) (h h' : Hand) → Holds n h ts → h'.variables ≡ h.variables → h'.clause ≡ joined h.variables h.clause t → Holds n h' (ts ++ (t ∷ []))
holds_push n ts t h h' g e q = record { size = e ∙ g.size; clause = q ∙ rw (g.size, g.clause, gathered_push n ts t) }
