use Rattle.std.proofs.Common.{Ok, ap, ◌∙◌, arith}
use Rattle.search.specs.declared.Turn.TheVariants.{Failing, Turned}
use Rattle.search.specs.States.{Run, position, machine_of, Stuck, Stepped}
use Rattle.search.proofs.Keeping.{stepped_there}
use Rattle.search.proofs.State.unwind.Given.{Over}
use Rattle.search.proofs.State.unwind.Goals as goal

pub returns-in-Turned-clause-unwound : goal.returns-in-Turned-clause-unwound
returns-in-Turned-clause-unwound g c =
    let v = c.loop-self.invariant in
    λ run s.
    let k = stepped_there (machine_of c.args.self.now) (machine_of c.loop-self.self) v.0 run _ (g.R.Record.meaning c.step_back.new.record) (position c.loop-self.self) (position c.step_back.new.self)
    c.loop-self.failure c.step_back.new.failure
    (Ok c.in_ok-step_back.field-0) (Ok Turned) (ap Ok c.in-Turned.is) (c.in_ok-step_back.ensures.stepped run) (v.2 run s) in
    (k.0, omega (arith, k.1, v.3))

-- the search still fails, one setting further back
still : (g : Over) (c : goal.In_default g) (run : Run) → Stuck run (machine_of c.args.self.now) (g.R.Record.meaning c.args.record.now) (position c.args.self.now) c.args.failure.now
    → Stepped run (machine_of c.args.self.now) (position c.loop-self.self) (g.R.Record.meaning c.step_back.new.record) (position c.step_back.new.self) c.step_back.new.failure (Ok Failing)
still g c run s =
    let v = c.loop-self.invariant in
    stepped_there (machine_of c.args.self.now) (machine_of c.loop-self.self) v.0 run _ (g.R.Record.meaning c.step_back.new.record) (position c.loop-self.self) (position c.step_back.new.self)
    c.loop-self.failure c.step_back.new.failure
    (Ok c.in_ok-step_back.field-0) (Ok Failing) (ap Ok c.in_default.is) (c.in_ok-step_back.ensures.stepped run) (v.2 run s)

pub loop-self-smaller : goal.loop-self-smaller
loop-self-smaller g c = (still g c c.requires.stuck.0 c.requires.stuck.1).1

pub loop-self-preserved : goal.loop-self-preserved
loop-self-preserved g c =
    let v = c.loop-self.invariant in
    (c.step_back.ensures.file ∙ v.0, g.R.Record.joins _ _ _ v.1 c.step_back.ensures.tied, (λ run s. (still g c run s).0), omega (arith, v.3, (still g c c.requires.stuck.0 c.requires.stuck.1).2))
