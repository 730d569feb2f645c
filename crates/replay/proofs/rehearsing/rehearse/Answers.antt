use Rattle.std.proofs.Common.{vec_items}
use Rattle.station.specs.Views.{machine}
use Rattle.replay.proofs.Taken.{rehearsed_back}
use Rattle.replay.proofs.rehearsing.rehearse.Goals as goal

pub drop-slip-requires-2 : goal.drop-slip-requires-2
drop-slip-requires-2 g c =
    (rehearsed_back _ _ c.args.calls.now (vec_items c.in_ok-replies.field-0) c.args.file.now c.open.new.self c.replay-replies.new.file c.close.new.self c.blank-slip.result c.open.new.slip c.close.new.slip
    _ _ _ _ _ _ c.close.result c.blank-slip.ensures c.in_ok-open.ensures c.in_ok-replies.ensures.replied c.close.ensures).is_blank

pub returns-clause-rehearsed : goal.returns-clause-rehearsed
returns-clause-rehearsed g c =
    let b = rehearsed_back _ _ c.args.calls.now (vec_items c.in_ok-replies.field-0) c.args.file.now c.open.new.self c.replay-replies.new.file c.close.new.self c.blank-slip.result c.open.new.slip c.close.new.slip
    _ _ _ _ _ c.in_ok-open.field-0 c.close.result c.blank-slip.ensures c.in_ok-open.ensures c.in_ok-replies.ensures.replied c.close.ensures in
    (b.allowed, b.same, (machine c.replay-replies.new.file, c.replay-replies.new.slips, rw b.inside at c.in_ok-replies.ensures.replied))
