use Rattle.std.proofs.Common.{sym, rules, w32, SFits}
use Rattle.std.proofs.lemmas.Int.{to_z-of_z}
use Rattle.station.proofs.Pushed.{joins}
use Rattle.station.proofs.Hand.push.Goals as goal
use Rattle.station.proofs.Hand.push.Goals.{else-not-contains-via-then-not-contains+else-is_err, else-not-contains-via-else-not-contains}

pub returns-then-is_err-clause-joins : goal.returns-then-is_err-clause-joins
returns-then-is_err-clause-joins c =
    let fit : SFits w32 c.args.t = c.ranges.t in
    let j = joins _ c.in-Ok.kept _ _ _ _ _ (to_z-of_z w32 c.args.t fit) c.in_range.ensures c.if-not-in_range.false c.deref.ensures.0 c.contains.ensures.value in
    rw c.in-Ok.is (sym (j.wide c.if-not-contains.true (search rules)))

pub returns-else-not-contains-clause-joins : goal.returns-else-not-contains-clause-joins
returns-else-not-contains-clause-joins c =
    let fit : SFits w32 c.args.t = c.ranges.t in
    let j = joins _ c.in-Ok.kept _ _ _ _ _ (to_z-of_z w32 c.args.t fit) c.in_range.ensures c.if-not-in_range.false c.deref.ensures.0 c.contains.ensures.value in
    elim c.else-not-contains.branch [
      | else-not-contains-via-then-not-contains+else-is_err w ↦
          rw (w.self-is, c.in-Ok.is) (sym (j.new w.try_push.new.self w.if-not-contains.true (search rules) (search rules)))
      | else-not-contains-via-else-not-contains w ↦ rw (w.self-is, c.in-Ok.is) (sym (j.old w.if-not-contains.false))
    ]
