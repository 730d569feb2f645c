use Rattle.std.proofs.Common.{◌∷◌, sym, ap, ◌∙◌, arith}
use Rattle.records.specs.Line.{digits, word, named}
use Rattle.records.proofs.Laid.{letter_laid, named_R, named_S}
use Rattle.records.proofs.line.write_reference.Goals as goal
use Rattle.records.proofs.line.write_reference.Goals.{in-R, in-S}

pub returns : goal.returns
unfolding word
returns c =
    let e = letter_laid c.match-reference.letter.0 c.match-reference.letter.1 c.write_number.new.places c.write_number.ensures in
    elim c.match-reference.branch [
      | in-R w ↦
          let f = e ∙ ap (λ p. p.0 ∷ digits 10 p.1) w.letter-is in
          record { written = f ∙ ap word (sym w.in-R.is); read_back = ap named f ∙ (named_R w.in-R.n (omega arith) ∙ sym w.in-R.is) }
      | in-S w ↦
          let f = e ∙ ap (λ p. p.0 ∷ digits 10 p.1) w.letter-is in
          record { written = f ∙ ap word (sym w.in-S.is); read_back = ap named f ∙ (named_S w.in-S.n (omega arith) ∙ sym w.in-S.is) }
    ]
