-- The steps of a branch derive the clause that it fails with.
use Rattle.std.proofs.Common.{◌≡◌, ℕ, suc, ◌+◌, ◌≤◌, min, List, [], ◌∷◌, ◌++◌, length, ℤ, pos, negsuc, sym, refl, ap, subst, append_assoc, append-nil, arith, length-append}
use Rattle.model.specs.Clauses.{Clause}
use Rattle.model.specs.Search.{Setting, First, here, later, Reference, Step, Outcome, fits, fails, made, Joined, Back, passes, joins, Branch, conflict, forced, satisfied, on_ends, then_off}
use Rattle.model.specs.Arguments.{At, at_first, at_later, Named, rule, step, Derives, none, one_more}
use Rattle.model.proofs.Lists.{at_grows, at_last}

abbrev Names : List Clause → List Clause → Outcome → Type 0
Names F Ds (fits τ) = Unit {0}
Names F Ds (fails r C) = Named F Ds r C

first_at : {P : Clause → Type 0} {F : List Clause} {k : ℕ} {C : Clause} → First P F k C → At F k C
first_at (here p) = at_first
first_at (later n f) = at_later (first_at f)

named_grows : {F Ds : List Clause} {r : Reference} {C : Clause} (Es : List Clause) → Named F Ds r C → Named F (Ds ++ Es) r C
named_grows Es (rule a) = rule a
named_grows Es (step a) = step (at_grows Es a)

names_grows : (F Ds Es : List Clause) (out : Outcome) → Names F Ds out → Names F (Ds ++ Es) out
names_grows F Ds Es (fits τ) n = tt
names_grows F Ds Es (fails r C) n = named_grows Es n

derives_length : {F Ds : List Clause} {ss : List Step} {Es : List Clause} → Derives F Ds ss Es → length Es ≡ length ss
derives_length none = refl
derives_length (one_more l n r d) = ap suc (derives_length d)

derives_joins : {F Ds : List Clause} {ss us : List Step} {Es Gs : List Clause} → Derives F Ds ss Es → Derives F (Ds ++ Es) us Gs → Derives F Ds (ss ++ us) (Es ++ Gs)
derives_joins {F} {us = us} {Gs = Gs} (none {Ds = Ds}) e = subst (λ (X : List Clause). Derives F X us Gs) (append-nil Ds) e
derives_joins {F} {us = us} {Gs = Gs} (one_more {Ds = Ds} {Es = Es} {E = E} l n r d) e =
    one_more l n r (derives_joins d (subst (λ (X : List Clause). Derives F X us Gs) (sym (append_assoc Ds (E ∷ []) Es)) e))

made_derives : {F Ds : List Clause} (t : ℤ) (setter r : Reference) (C D E : Clause) → Named F Ds setter C → Named F Ds r D → Joined t C D E → Derives F Ds (made t setter r ∷ []) (E ∷ [])
made_derives (pos k) setter r C D E c d j = one_more c d j none
made_derives (negsuc k) setter r C D E c d j = one_more d c j none

abbrev Extends : List Clause → List Clause → List Step → Outcome → Type 0
Extends F Ds ss out = (Es : List Clause) × Derives F Ds ss Es × Names F (Ds ++ Es) out

back_extends : (F Ds : List Clause) {t : ℤ} {setter : Reference} {C : Clause} {m : ℕ} {below : Outcome} {us : List Step} {out : Outcome}
    → Named F Ds setter C → m ≡ length Ds → m + length us ≤ 4294967295 → Names F Ds below → Back t setter C m below us out → Extends F Ds us out
back_extends F Ds {out = out} c e h n (passes l) = ([], none, names_grows F Ds [] out n)
back_extends F Ds {t} {setter} {C} {m} c e h n (joins {r = r} {D = D} {E = E} j) =
    let k : min (suc m) 4294967295 ≡ suc (length Ds) = omega arith in
    (E ∷ [], made_derives t setter r C D E c n j, step (rw k (at_last Ds E)))

joins_extends : (F Ds : List Clause) (ss us : List Step) (out : Outcome) (Es : List Clause) → Derives F Ds ss Es → Extends F (Ds ++ Es) us out → Extends F Ds (ss ++ us) out
joins_extends F Ds ss us out Es d x = (Es ++ x.0, derives_joins d x.1, subst (λ (X : List Clause). Names F X out) (append_assoc Ds Es x.0) x.2)

longer : {F Ds : List Clause} {ss : List Step} {Es : List Clause} (m : ℕ) → m ≡ length Ds → Derives F Ds ss Es → m + length ss ≡ length (Ds ++ Es)
longer {Ds = Ds} {Es = Es} m e d = let l = derives_length d in let k = length-append Ds Es in omega arith

pub extends : {F : List Clause} {order : List ℕ} {σ : Setting} {m : ℕ} {ss : List Step} {out : Outcome} → Branch F order σ m ss out
    → m + length ss ≤ 4294967295 → (Ds : List Clause) → m ≡ length Ds → Extends F Ds ss out
extends (conflict f) h Ds e = ([], none, rule (first_at f))
extends {F} (forced {m = m} {ss = ss} {us = us} {out = out} n f u b back) h Ds e =
    let a = length-append ss us in
    let x = extends b (omega arith) Ds e in
    joins_extends F Ds ss us out x.0 x.1 (back_extends F (Ds ++ x.0) (rule (first_at f)) (longer m e x.1) (omega arith) x.2 back)
extends (satisfied s) h Ds e = ([], none, tt)
extends (on_ends un c b l) h Ds e = extends b h Ds e
extends {F} (then_off {m = m} {ss = ss} {us = us} {vs = vs} {out = out} un c b i d back) h Ds e =
    let a = length-append ss (us ++ vs) in
    let a' = length-append us vs in
    let x = extends b (omega arith) Ds e in
    let e' = longer m e x.1 in
    let y = extends d (omega arith) (Ds ++ x.0) e' in
    joins_extends F Ds ss (us ++ vs) out x.0 x.1
    (joins_extends F (Ds ++ x.0) us vs out y.0 y.1
    (back_extends F ((Ds ++ x.0) ++ y.0) (named_grows y.0 x.2) (longer (m + length ss) e' y.1) (omega arith) y.2 back))
