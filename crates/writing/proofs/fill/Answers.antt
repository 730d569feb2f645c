use Rattle.std.proofs.Common.{◌≡◌, [], refl, ap, ◌∙◌, rules}
use Rattle.model.specs.Writing.{text_of}
use Rattle.station.specs.Views.{machine}
use Rattle.writing.specs.Sinks.{written}
use Rattle.writing.proofs.Filling.{filled_none, filled_is}
use Rattle.writing.proofs.fill.Goals as goal

pub returns : goal.returns
returns c =
    let front = c.over-front.result in
    let m = machine c.args.file.now in
    let h = c.text.ensures front [] (refl, filled_none front.buffer.now front.at c.over-front.ensures.empty) in
    let n = h.0 in
    let e : c.text.new.sink.buffer.now ≡ written (text_of m) c.args.buffer.now = filled_is _ _ _ _ h.1 ∙ ap (written (text_of m)) c.over-front.ensures.unchanged in
    search rules
