-- Resolution is sound: no valuation satisfies rules that an argument refutes.
use Rattle.std.proofs.Common.{◌≡◌, ℕ, zero, suc, true, List, [], ◌∷◌, inl, inr}
use lib.IntN.{ℤ_discrete}
use Rattle.std.proofs.lemmas.Bool.{both_ways, not-true, false≢true}
use Rattle.model.specs.Clauses.{Clause, on, off, Valuation, true_at, Satisfies, Model, Resolvent}
use Rattle.model.specs.Search.{Reference, Step}
use Rattle.model.specs.Arguments.{Named, rule, step, Derives, none, one_more, Argument}
use Rattle.model.proofs.Lists.{each_append, each_at}

not_both : (v : Valuation) (k : ℕ) → true_at v (on k) ≡ true → true_at v (off k) ≡ true → ⊥
not_both v zero p q = false≢true p
not_both v (suc k) p q = both_ways (v (suc k)) (not-true (v (suc k)) q) p

pub resolvent_sound : (v : Valuation) {k : ℕ} {L N E : Clause} → Resolvent k L N E → Satisfies v L → Satisfies v N → Satisfies v E
resolvent_sound v {k} {L} {N} {E} r l n = at_left (ℤ_discrete l.0 (on k))
  where
    at_right : (l.0 ≡ on k) → Dec (n.0 ≡ off k) → Satisfies v E
    at_right p (yes q) = absurd (not_both v k (rw p at l.2) (rw q at n.2))
    at_right p (no d) = (n.0, r.all n.0 (inr (n.1, d)), n.2)

    at_left : Dec (l.0 ≡ on k) → Satisfies v E
    at_left (yes p) = at_right p (ℤ_discrete n.0 (off k))
    at_left (no d) = (l.0, r.all l.0 (inl (l.1, d)), l.2)

named_satisfied : (v : Valuation) {F Ds : List Clause} {r : Reference} {C : Clause} → Model v F → Model v Ds → Named F Ds r C → Satisfies v C
named_satisfied v f d (rule a) = each_at (Satisfies v) f a
named_satisfied v f d (step a) = each_at (Satisfies v) d a

pub derives_sound : (v : Valuation) {F Ds : List Clause} {ss : List Step} {Es : List Clause} → Model v F → Model v Ds → Derives F Ds ss Es → Model v Es
derives_sound v f d none = tt
derives_sound v f d (one_more {Ds = Ds} {E = E} l n r rest) =
    let s : Satisfies v E = resolvent_sound v r (named_satisfied v f d l) (named_satisfied v f d n) in
    (s, derives_sound v f (each_append (Satisfies v) Ds (E ∷ []) d (s, tt)) rest)

pub no_model : {F : List Clause} {ss : List Step} {r : Reference} → Argument F ss r → (v : Valuation) → Model v F → ⊥
no_model a v f = (named_satisfied v f (derives_sound v f tt a.1) a.2).1
