use Rattle.std.proofs.Common.{◌≡◌, [], ◌∷◌, ◌++◌, ap, vec_items, arith, rules}
use Rattle.std.proofs.lemmas.Grind.{common_steps}
use Rattle.lives.specs.Lives.{rests}
use Rattle.replay.specs.Replays.{done}
use Rattle.replay.proofs.Desks.{replayed_more, kept_joins}
use Rattle.replay.proofs.replaying.replay.Goals as goal

pub loop-call-init : goal.loop-call-init
loop-call-init g c = record { kept = search rules; replayed = rw c.in_ok-replies.ensures.items ([], done, rests); counted = search rules; room = search rules }

pub loop-call-preserved : goal.loop-call-preserved
loop-call-preserved g c =
    let l = c.loop-call in
    let a = c.args in
    let v = l.invariant in
    let pushed : vec_items c.push.new.self ≡ vec_items l.replies ++ (c.make.result ∷ []) = grind (arith, common_steps) in
    record {
      kept = kept_joins a.desk.now l.desk c.make.new.desk v.kept c.make.ensures.kept;
      replayed =
          rw pushed (replayed_more _ _ _ _ a.calls.now (vec_items l.replies) l.call-index _ c.make.result _ _ _ a.slips.now l.slips _ _ _ _ _ _ _
          (ap (λ (r : _). g.O.Order.meaning r.now) v.kept.order) v.kept.room l.auto.slips c.loop-call-test.true v.replayed c.make.ensures.made);
      counted = grind (arith, common_steps);
      room = search rules;
    }
