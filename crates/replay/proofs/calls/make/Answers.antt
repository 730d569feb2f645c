use Rattle.std.proofs.Common.{[], ◌∷◌, get_or}
use Rattle.lives.specs.Lives.{rests}
use Rattle.replay.specs.Replays.{opening, closing, no_slip_to_open, no_slip_to_close}
use Rattle.replay.proofs.Desks.{run_open, run_close, made_enter, made_read, made_settle, made_nothing}
use Rattle.replay.proofs.calls.make.Goals as goal

pub returns-in-Enter-clause-made : goal.returns-in-Enter-clause-made
returns-in-Enter-clause-made g c = rw c.in-Enter.is (made_enter _ _ _ _ _ _ _ c.in-Enter.literals c.enter.result c.enter.ensures)

pub returns-in-Read-clause-made : goal.returns-in-Read-clause-made
returns-in-Read-clause-made g c = rw c.in-Read.is (made_read _ _ _ _ _ _ _ c.in-Read.text c.read.result c.read.ensures)

pub returns-in-Open-clause-made : goal.returns-in-Open-clause-made
returns-in-Open-clause-made g c =
    rw c.in-Open.is (_ ∷ [], opening c.if-i-slips.true, run_open _ _ c.args.slips.now _ _ c.open.new.slip c.open.result c.if-i-slips.true c.open.ensures)

pub returns-in-Open-2-clause-made : goal.returns-in-Open-2-clause-made
returns-in-Open-2-clause-made g c = rw c.in-Open.is ([], no_slip_to_open c.if-i-slips.false, rests)

pub returns-in-Close-clause-made : goal.returns-in-Close-clause-made
returns-in-Close-clause-made g c =
    rw c.in-Close.is (_ ∷ [], closing c.if-i-slips-2.true, run_close _ _ c.args.slips.now _ _ c.close.new.slip c.close.result c.if-i-slips-2.true c.close.ensures)

pub returns-in-Open-2-2-clause-made : goal.returns-in-Open-2-2-clause-made
returns-in-Open-2-2-clause-made g c = rw c.in-Close.is ([], no_slip_to_close c.if-i-slips-2.false, rests)

pub returns-in-Settle-clause-made : goal.returns-in-Settle-clause-made
returns-in-Settle-clause-made g c =
    let desk = c.args.desk.now in
    let x = c.index-desk-i.result in
    rw c.in-Settle.is
    (made_settle g.R.Record.meaning _ _ _ _ desk.records.now _ _ _ x c.settle.new.record c.settle.result (g.O.Order.whole desk.order.now) (g.R.Record.limits (get_or desk.records.now c.in-Settle.i x)) c.if-i-desk.true c.settle.ensures.settles)

pub returns-in-Open-2-3-clause-made : goal.returns-in-Open-2-3-clause-made
returns-in-Open-2-3-clause-made g c = rw c.in-Settle.is (made_nothing g.R.Record.meaning _ _ _ _ c.args.desk.now.records.now _ _ c.if-i-desk.false)
