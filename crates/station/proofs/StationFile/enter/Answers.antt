use Rattle.std.proofs.Common.{get_or, take, pos, w32, SFits, rules}
use Rattle.std.proofs.lemmas.Int.{to_z-of_z}
use Rattle.std.proofs.lemmas.List.{take_more}
use Rattle.station.proofs.Pushed.{holds_push}
use Rattle.station.proofs.StationFile.enter.Goals as goal

pub loop-t-preserved : goal.loop-t-preserved
loop-t-preserved c =
    let ts = c.args.literals.now in
    let i = c.loop-t.t-index in
    let t = get_or ts i (pos 0) in
    let fit : SFits w32 t = search rules in
    let p = holds_push _ (take i ts) t c.loop-t.hand c.push.new.self c.loop-t.invariant c.push.ensures.size (simp to_z-of_z at c.push.ensures.joins) in
    rw (take_more ts i (pos 0) c.loop-t-test.true) p
