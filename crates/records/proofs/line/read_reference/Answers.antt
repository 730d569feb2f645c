use Rattle.std.proofs.Common.{sym, ap, ◌∙◌, eq-eqb, ne_eqb}
use Rattle.std.proofs.lemmas.Bool.{cond-true, cond-false}
use Rattle.model.specs.declared.Reference.TheVariants.{R, S}
use Rattle.records.specs.Line.{named}
use Rattle.records.proofs.line.read_reference.Goals as goal

pub returns-then-bytes-eq82 : goal.returns-then-bytes-eq82
unfolding named
returns-then-bytes-eq82 c = ap R c.read_number-n.ensures ∙ sym (cond-true _ _ _ (eq-eqb _ _ c.if-bytes-eq82.true))

pub returns-else-bytes-eq82 : goal.returns-else-bytes-eq82
unfolding named
returns-else-bytes-eq82 c = ap S c.read_number-n.ensures ∙ sym (cond-false _ _ _ (ne_eqb _ _ c.if-bytes-eq82.false))
