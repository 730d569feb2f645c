use Rattle.std.proofs.Common.{◌≡◌, ◌≤◌, map, length, take, vec_items, vec_len}
use Rattle.std.specs.Vec.{vec_capacity}
use Rattle.station.specs.Views.{machine}
use Rattle.replay.specs.Desks.{stacks, Kept}
use Rattle.replay.specs.Replays.{Replayed}
use Rattle.replay.proofs.replaying.replay.Given as goal

abbrev pub invariant-loop-call : goal.invariant-loop-call
invariant-loop-call g l =
    let desk = l.initial.desk in record {
      kept : Kept desk l.desk;
      replayed :
          Replayed (g.O.Order.meaning desk.order.now) (stacks desk) (take l.call-index l.calls) (vec_items l.replies) (machine l.initial.file) l.initial.slips
          (map g.R.Record.meaning desk.records.now) desk.sheet.now (machine l.file) l.slips (map g.R.Record.meaning l.desk.records.now) l.desk.sheet.now;
      counted : vec_len l.replies ≡ l.call-index;
      room : length l.calls ≤ vec_capacity l.replies;
    }
