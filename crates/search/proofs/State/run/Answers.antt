use Rattle.std.proofs.Common.{◌≡◌, None, Some, Ok, ap}
use Rattle.search.specs.States.{Run, position, machine_of, Going, Advanced}
use Rattle.search.proofs.Keeping.{advanced_there}
use Rattle.search.proofs.State.run.Given.{Over}
use Rattle.search.proofs.State.run.Goals.{In_default}
use Rattle.search.proofs.State.run.Goals as goal

-- the search goes on
again : (g : Over) (c : In_default g) (run : Run) → run.order ≡ (g.O.Order.meaning c.args.order.now).list → Going run (machine_of c.args.self.now) (g.R.Record.meaning c.args.record.now) (position c.args.self.now)
    → Advanced run (machine_of c.args.self.now) (position c.loop-answer.self) (g.R.Record.meaning c.advance.new.record) (position c.advance.new.self) (Ok None)
again g c run o s =
    let v = c.loop-answer.invariant in
    advanced_there (machine_of c.args.self.now) (machine_of c.loop-answer.self) v.0 run _ (g.R.Record.meaning c.advance.new.record) (position c.loop-answer.self) (position c.advance.new.self)
    (Ok c.in_ok-answer.field-0) (Ok None) (ap Ok c.in_default.is) (c.in_ok-answer.ensures.advanced run o) (v.2 run o s)

pub loop-answer-smaller : goal.loop-answer-smaller
loop-answer-smaller g c = (again g c c.requires.going.0 c.requires.going.1 c.requires.going.2).1

pub returns-in-Some-clause-ran : goal.returns-in-Some-clause-ran
returns-in-Some-clause-ran g c =
    let v = c.loop-answer.invariant in
    λ run o s. advanced_there (machine_of c.args.self.now) (machine_of c.loop-answer.self) v.0 run _ (g.R.Record.meaning c.advance.new.record) (position c.loop-answer.self) (position c.advance.new.self)
    (Ok c.in_ok-answer.field-0) (Ok (Some c.in-Some.answer)) (ap Ok c.in-Some.is) (c.in_ok-answer.ensures.advanced run o) (v.2 run o s)
