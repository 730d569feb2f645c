use Rattle.std.proofs.Common.{refl, ◌∙◌, arith, rules}
use Rattle.std.proofs.lemmas.Slice.{overwrites}
use Rattle.station.proofs.Appending.{in_hand, is_full, is_long, added}
use Rattle.station.proofs.Tables.append.Goals as goal

pub returns-then-counts-ge-MOST_CLAUSES : goal.returns-then-counts-ge-MOST_CLAUSES
returns-then-counts-ge-MOST_CLAUSES c = λ n ts s g.
    let f = in_hand _ n ts _ _ _ _ g c.as_ref.ensures.value c.map_err.ensures.cases c.in_ok-clause.was in
    record { same = refl; refused = is_full n _ _ s ts _ f (λ e. c.if-hand-eq0.false (g.size ∙ e)) c.if-counts-ge-MOST_CLAUSES.true }

pub returns-then-to-gt-MOST_LITERALS : goal.returns-then-to-gt-MOST_LITERALS
returns-then-to-gt-MOST_LITERALS c = λ n ts s g.
    let f = in_hand _ n ts _ _ _ _ g c.as_ref.ensures.value c.map_err.ensures.cases c.in_ok-clause.was in
    record { same = refl; refused = is_long n _ _ s ts _ f (λ e. c.if-hand-eq0.false (g.size ∙ e)) c.if-counts-ge-MOST_CLAUSES.false (omega arith) }

pub returns : goal.returns
returns c = λ n ts s g.
    let f = in_hand _ n ts _ _ _ _ g c.as_ref.ensures.value c.map_err.ensures.cases c.in_ok-clause.was in
    added n _ _ s ts _ f (λ e. c.if-hand-eq0.false (g.size ∙ e)) _ (omega arith) c.if-counts-ge-MOST_CLAUSES.false c.if-to-gt-MOST_LITERALS.false _ (search (rules, overwrites)) (search (rules, overwrites)) refl
