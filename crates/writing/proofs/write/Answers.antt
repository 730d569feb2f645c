use Rattle.std.proofs.Common.{◌≡◌, ◌≤◌, ◌++◌, length, take, drop, sym, ap, ◌∙◌, arith}
use Rattle.std.proofs.lemmas.List.{take_at}
use Rattle.model.specs.Machine.{fresh}
use Rattle.model.specs.Reading.{reading}
use Rattle.model.specs.Writing.{text_of}
use Rattle.station.specs.Views.{machine}
use Rattle.texts.proofs.Back.{reads_back}
use Rattle.writing.proofs.Filling.{written_whole}
use Rattle.writing.proofs.write.Goals as goal

pub returns-clause-back : goal.returns-clause-back
returns-clause-back c f l =
    let m = machine c.args.file.now in
    let t = text_of m in
    let before = c.args.buffer.now in
    let room : length t ≤ length before = omega arith in
    let e : c.fill.new.buffer ≡ t ++ drop (length t) before = c.fill.ensures ∙ written_whole t before room in
    let front : take c.text_length-length.result c.fill.new.buffer ≡ t = ap (take c.text_length-length.result) e ∙ take_at t (drop (length t) before) c.text_length-length.result (sym c.text_length-length.ensures) in
    ap (reading (fresh m.variables f)) front ∙ reads_back m f l
