-- One step of checking, and its end.
use Rattle.std.proofs.Common.{◌≡◌, ℕ, zero, suc, ◌+◌, ◌<◌, ◌≤◌, Bool, true, false, cond, ◌&&◌, eqb, ltb, List, [], ◌∷◌, ◌++◌, length, drop, ℤ, w32, to_z, Some, None, IsSome, Ok, Err, Option, Result, sym, refl, ap, ◌∙◌, subst, inl, drop-cons, add-one, arith}
use Rattle.std.proofs.lemmas.List.{drop_all}
use Rattle.std.proofs.lemmas.Option.{slice_get_within, get_or_from_slice_get}
use Rattle.std.proofs.Math.Bool.{and-false}
use Rattle.std.proofs.lemmas.Int.{to_z_pos}
use Rattle.std.proofs.lemmas.Bool.{false≢true, and_from, ne_eqb, le-ltb}
use Rattle.std.specs.List.{slice_get}
use Rattle.model.specs.declared.Reference.{Reference}
use Rattle.model.specs.declared.Step.{Step}
use Rattle.model.specs.declared.Decline.{Decline}
use Rattle.model.specs.declared.Decline.TheVariants.{LacksVariable}
use Rattle.model.specs.Clauses.{Clause, on, off, opposite, Within, has}
use Rattle.model.specs.Machine.{Machine}
use Rattle.model.specs.Checking.{named, without, step_clause, at_closing, check_from, check_refusal, Checks}
use Rattle.records.specs.Kept.{step_at}
use Rattle.clauses.specs.declared.LiteralSet.{LiteralSet}
use Rattle.clauses.specs.Sets.{member, left_over, Holds, Emptiness}
use Rattle.checking.specs.Held.{HoldAll, Found, Made, Refuses, Resolves, Closing}
use Rattle.checking.proofs.Held.{held_length, held_more}
use Rattle.checking.proofs.Resolvents.{has_member, holds_resolvent}

-- one step, by what its references find

-- what two sets say of a variable decides
by_members : (j k : ℕ) (l n : LiteralSet) (L N : Clause) → Holds l L → Holds n N → (b : Bool) → (member l (on k) && member n (off k)) ≡ b
    → step_clause j k (Some L) (Some N) ≡ cond b (Ok (without (on k) L ++ without (off k) N)) (Err (LacksVariable j))
by_members j k l n L N hl hn b e =
    ap (λ (x : Bool). cond x (Ok (without (on k) L ++ without (off k) N)) (Err (LacksVariable j)))
    (ap (λ (x : Bool). x && has N (off k)) (has_member l L hl (on k)) ∙ ap (λ (x : Bool). member l (on k) && x) (has_member n N hn (off k)) ∙ e)

-- the sets that are found on the left and on the right
module _ (j : ℕ) {k : ℕ} {l n : LiteralSet} (L N : Option Clause) {o p : Option LiteralSet}
    (f : Found L o) (is_left : o ≡ Some l) (g : Found N p) (is_right : p ≡ Some n) (small : k < 256) where
  lacking : (member l (on k) && member n (off k)) ≡ false → Made (step_clause j k L N) (Err (LacksVariable j))
  lacking e = look L N (subst (Found L) is_left f) (subst (Found N) is_right g)
    where
      look : (L N : Option Clause) → Found L (Some l) → Found N (Some n) → Made (step_clause j k L N) (Err (LacksVariable j))
      look None N f g = absurd f
      look (Some L) None f g = absurd g
      look (Some L) (Some N) f g = subst (λ (x : Result Clause Decline). Made x (Err (LacksVariable j))) (sym (by_members j k l n L N f g false e)) refl

  signed : to_z w32 k ≡ on k
  signed = to_z_pos w32 k (omega arith)

  -- variable 0 has no literal, and no set has it
  pub no_variable : (Within 256 (to_z w32 k) → ⊥) → Made (step_clause j k L N) (Err (LacksVariable j))
  no_variable w = lacking (look k small (subst (λ (x : ℤ). Within 256 x → ⊥) signed w))
    where
      look : (i : ℕ) → i < 256 → (Within 256 (on i) → ⊥) → (member l (on i) && member n (off i)) ≡ false
      look zero h w = refl
      look (suc i) h w = absurd (w (omega arith, omega arith))

  pub left_lacks : {t : ℤ} → t ≡ to_z w32 k → false ≡ member l t → Made (step_clause j k L N) (Err (LacksVariable j))
  left_lacks is e = lacking (ap (λ (x : Bool). x && member n (off k)) (sym (e ∙ ap (member l) (is ∙ signed))))

  pub right_lacks : {t u : ℤ} → t ≡ to_z w32 k → u ≡ opposite t → false ≡ member n u → Made (step_clause j k L N) (Err (LacksVariable j))
  right_lacks is other e = lacking
      (ap (λ (x : Bool). member l (on k) && x) (sym (e ∙ ap (member n) (other ∙ ap opposite (is ∙ signed)))) ∙ and-false (member l (on k)))

  pub resolved : {t u : ℤ} (r : LiteralSet) → t ≡ to_z w32 k → u ≡ opposite t → true ≡ member l t → true ≡ member n u
      → ((v : ℤ) → member r v ≡ left_over l n t v) → Made (step_clause j k L N) (Ok r)
  resolved {t = t} r is other a b h = look L N (subst (Found L) is_left f) (subst (Found N) is_right g)
    where
      both : (member l (on k) && member n (off k)) ≡ true
      both = and_from (member l (on k)) (member n (off k)) (sym (a ∙ ap (member l) (is ∙ signed))) (sym (b ∙ ap (member n) (other ∙ ap opposite (is ∙ signed))))

      look : (L N : Option Clause) → Found L (Some l) → Found N (Some n) → Made (step_clause j k L N) (Ok r)
      look None N f g = absurd f
      look (Some L) None f g = absurd g
      look (Some L) (Some N) f g = subst (λ (x : Result Clause Decline). Made x (Ok r)) (sym (by_members j k l n L N f g true both))
          (holds_resolvent l n r L N k f g (λ u. h u ∙ ap (λ (x : ℤ). left_over l n x u) (is ∙ signed)))

-- the end

pub closing_empty : (o : Option Clause) (s : LiteralSet) → Found o (Some s) → Emptiness s true → Refuses (at_closing o) (Ok tt)
closing_empty None s f e = absurd f
closing_empty (Some []) s f e = refl
closing_empty (Some (t ∷ C)) s f e = absurd (false≢true (sym (e t) ∙ (f t).0 (inl refl)))

-- the loop over the steps

next_step : (ss : List Step) (i : ℕ) (s : Step) → slice_get ss i ≡ Some s → drop i ss ≡ s ∷ drop (suc i) ss
next_step ss i s e = drop-cons ss i s (slice_get_within ss i s e) ∙ ap (λ (x : Step). x ∷ drop (suc i) ss) (get_or_from_slice_get ss i s s e)

pub some_step : (ss : List Step) (i : ℕ) → i < length ss → IsSome (step_at ss (i + 1))
some_step ss i l = rw add-one (look ss i l)
  where
    look : (ss : List Step) (i : ℕ) → i < length ss → IsSome (slice_get ss i)
    look [] i l = absurd (omega arith)
    look (s ∷ ss) zero l = refl
    look (s ∷ ss) (suc i) l = look ss i (omega arith)

module _ (F : List Clause) (ss : List Step) (closing : Reference) where
  -- the sets hold the clauses of the first i steps, and the steps that are left decide
  pub record Going (sets : List LiteralSet) (i : ℕ) : Type 0 where
    pub Ds : List Clause
    pub held : HoldAll sets Ds
    pub goes : check_from F Ds (drop i ss) closing ≡ check_from F [] ss closing

  module _ (sets : List LiteralSet) (i : ℕ) (g : Going sets i) where
    pub going_end : length ss ≤ i → (r : Result (Unit {0}) Decline) → Closing F sets closing r → Refuses (check_from F [] ss closing) r
    unfolding check_from
    going_end l r h =
        let e : at_closing (named F g.Ds closing) ≡ check_from F [] ss closing =
        sym (ap (λ (us : List Step). check_from F g.Ds us closing) (drop_all i ss l)) ∙ g.goes in
        subst (λ (o : Option Decline). Refuses o r) e (h g.Ds g.held)

    module _ (s : Step) (n : i ≡ length sets) (this : Some s ≡ step_at ss (i + 1)) where
      abbrev clause : Result Clause Decline
      clause = step_clause (suc (length g.Ds)) s.variable (named F g.Ds s.left) (named F g.Ds s.right)

      -- the answer by the clause of the step
      by_clause : (c : Result Clause Decline) → clause ≡ c → check_from F [] ss closing ≡ elim c [ Ok E ↦ check_from F (g.Ds ++ (E ∷ [])) (drop (suc i) ss) closing | Err d ↦ Some d ]
      unfolding check_from
      by_clause c e = sym g.goes ∙ ap (λ (us : List Step). check_from F g.Ds us closing) (next_step ss i s (sym (rw add-one at this)))
          ∙ ap (λ (x : Result Clause Decline). elim x [ Ok E ↦ check_from F (g.Ds ++ (E ∷ [])) (drop (suc i) ss) closing | Err d ↦ Some d ]) e

      made : (r : Result LiteralSet Decline) → Resolves F sets s (i + 1) r → Made clause r
      made r h = let q : i + 1 ≡ suc (length g.Ds) = omega (arith, n, held_length sets g.Ds g.held) in
          subst (λ (j : ℕ). Made (step_clause j s.variable (named F g.Ds s.left) (named F g.Ds s.right)) r) q (h g.Ds g.held)

      pub going_wrong : (d : Decline) → Resolves F sets s (i + 1) (Err d) → check_from F [] ss closing ≡ Some d
      going_wrong d h = look clause refl (made (Err d) h)
        where
          look : (c : Result Clause Decline) → clause ≡ c → Made c (Err d) → check_from F [] ss closing ≡ Some d
          look (Ok E) e m = absurd m
          look (Err x) e m = by_clause (Err x) e ∙ ap Some (sym m)

      pub going_on : (r : LiteralSet) → Resolves F sets s (i + 1) (Ok r) → Going (sets ++ (r ∷ [])) (i + 1)
      going_on r h = look clause refl (made (Ok r) h)
        where
          look : (c : Result Clause Decline) → clause ≡ c → Made c (Ok r) → Going (sets ++ (r ∷ [])) (i + 1)
          look (Ok E) e m = record {
            Ds = g.Ds ++ (E ∷ []);
            held = held_more sets g.Ds r E g.held m;
            goes = rw add-one (sym (by_clause (Ok E) e));
          }
          look (Err x) e m = absurd m

rows : (m : Machine) (ss : List Step) (closing : Reference) (places : ℕ) → eqb m.variables 0 ≡ false → ltb places (length ss) ≡ false
    → check_refusal m ss closing places ≡ check_from m.clauses [] ss closing
rows m ss closing places e f = rw (e, f)

-- the answer of the call: the steps' first fault, where neither of the rows above it holds
pub checks : (m : Machine) (ss : List Step) (closing : Reference) (places : ℕ) (r : Result (Unit {0}) Decline) → (m.variables ≡ 0 → ⊥) → length ss ≤ places
    → Refuses (check_from m.clauses [] ss closing) r → Checks m ss closing places r
checks m ss closing places (Ok u) e f h = rows m ss closing places (ne_eqb m.variables 0 e) (le-ltb places (length ss) f) ∙ h
checks m ss closing places (Err d) e f h = rows m ss closing places (ne_eqb m.variables 0 e) (le-ltb places (length ss) f) ∙ h
