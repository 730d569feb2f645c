use Rattle.std.proofs.Common.{[], refl, arith}
use Rattle.station.specs.Views.{machine}
use Rattle.station.proofs.Files.{over_file, small_file, few_clauses, few_literals}
use Rattle.writing.proofs.Sizes.{short_text}
use Rattle.writing.proofs.text_length.Goals as goal

pub returns : goal.returns
returns c =
    let f = c.args.file.now in
    let e = c.text.ensures (record { bytes = 0 }) [] refl in
    let s = short_text (machine f) (small_file f) (over_file f) (few_clauses f) (few_literals f) in
    omega arith
