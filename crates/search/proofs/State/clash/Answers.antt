use Rattle.std.proofs.Common.{Ok, subst}
use Rattle.std.proofs.lemmas.Result.{err_from_is_err_and}
use Rattle.model.proofs.Numbered.{first_numbered}
use Rattle.search.specs.declared.Turn.{Turn}
use Rattle.search.specs.States.{position, machine_of, Run, Going, Stuck, Unwound}
use Rattle.search.proofs.Weights.{under_weight}
use Rattle.search.proofs.GoingOn.{going_stuck, stuck_root}
use Rattle.search.proofs.State.clash.Given.{Over}
use Rattle.search.proofs.State.clash.Goals.{After-frame_of-failure}
use Rattle.search.proofs.State.clash.Goals as goal

pub frame_of-failure-requires : goal.frame_of-failure-requires
frame_of-failure-requires g c = (c.requires.first.0, first_numbered c.requires.first.1)

-- the search has failed with the clause numbered k
failed : (g : Over) (c : After-frame_of-failure g) (run : Run) → Going run (machine_of c.args.self.now) (g.R.Record.meaning c.args.record.now) (position c.args.self.now)
    → Stuck run (machine_of c.args.self.now) (g.R.Record.meaning c.args.record.now) (position c.args.self.now) c.frame_of-failure.result
failed g c run s =
    let f = c.requires.first in
    going_stuck run _ _ _ s c.args.k c.frame_of-failure.result f.0 f.1 c.frame_of-failure.ensures.by (c.frame_of-failure.ensures.holds f.0 (first_numbered f.1))

pub unwind-requires : goal.unwind-requires
unwind-requires g c = record { stuck = (c.requires.going.0, failed g (goal.at.unwind-requires g c).After-frame_of-failure c.requires.going.0 c.requires.going.1) }

pub returns-in_err-unwind-clause-advanced : goal.returns-in_err-unwind-clause-advanced
returns-in_err-unwind-clause-advanced g c =
    let q = err_from_is_err_and c.from_residual.result c.from_residual.ensures.1 in
    λ run s. rw (q.1, q.2) (c.in_err-unwind.ensures.unwound run (failed g (goal.at.returns-in_err-unwind-clause-advanced g c).After-frame_of-failure run s))

pub returns-in-Turned-clause-advanced : goal.returns-in-Turned-clause-advanced
returns-in-Turned-clause-advanced g c =
    let m = machine_of c.args.self.now in
    λ run s.
    let u = c.in_ok-unwind.ensures.unwound run (failed g (goal.at.returns-in-Turned-clause-advanced g c).After-frame_of-failure run s) in
    let k = subst (λ (t : Turn). Unwound run m (position c.args.self.now) (g.R.Record.meaning c.unwind.new.record) (position c.unwind.new.self) c.unwind.new.failure (Ok t)) c.in-Turned.is u in
    (k.0, under_weight m.variables _ (position c.args.self.now).marks k.1)

pub returns-in-Failing-clause-advanced : goal.returns-in-Failing-clause-advanced
returns-in-Failing-clause-advanced g c =
    let m = machine_of c.args.self.now in
    λ run s.
    let u = c.in_ok-unwind.ensures.unwound run (failed g (goal.at.returns-in-Failing-clause-advanced g c).After-frame_of-failure run s) in
    let k = subst (λ (t : Turn). Unwound run m (position c.args.self.now) (g.R.Record.meaning c.unwind.new.record) (position c.unwind.new.self) c.unwind.new.failure (Ok t)) c.in-Failing.is u in
    stuck_root run m _ (position c.unwind.new.self) c.unwind.new.failure k.0 k.1
