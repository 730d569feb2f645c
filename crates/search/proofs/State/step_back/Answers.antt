use Rattle.std.proofs.Common.{[], ◌∷◌, length, Ok, Err, Result, ap, ◌∙◌, arith, rules, length-append}
use Rattle.std.proofs.lemmas.Result.{err_from_is_err_and}
use Rattle.model.specs.declared.Decline.{Decline}
use Rattle.clauses.specs.Sets.{code}
use Rattle.station.proofs.Files.{small_file}
use Rattle.search.specs.Stacks.{items}
use Rattle.search.specs.States.{position, machine_of, Run, Stuck, Past, Stepped}
use Rattle.search.proofs.GoingBack.{after, top_index, marks_low, clause_there, frame_there, on_frames, stepped_clause, stepped_off, stepped_on}
use Rattle.search.proofs.Views.{put_over, true_over}
use Rattle.search.proofs.State.step_back.Given.{Over}
use Rattle.search.proofs.State.step_back.Goals.{After-past, in-Clause, in-Off}
use Rattle.search.proofs.State.step_back.Goals as goal

pub frame_of-setter-requires : goal.frame_of-setter-requires
frame_of-setter-requires g c = clause_there c.requires.stuck.0 _ _ _ _ c.requires.stuck.1 _ c.pop-why.result c.pop-why.ensures.items c.in-Clause.k c.in-Clause.is

pub past-requires : goal.past-requires
past-requires g c =
    let i = top_index c.requires.stuck.0 _ _ _ _ c.requires.stuck.1 _ c.pop-why.result c.pop-why.ensures.items in
    omega (arith, i, small_file c.args.self.now.file.now)

pub turn-requires : goal.turn-requires
turn-requires g c =
    let run = c.requires.stuck.0 in
    let s = c.requires.stuck.1 in
    let x = c.pop-why.result in
    let last = c.pop-why.ensures.items in
    let low = marks_low run _ _ _ _ s _ x last in
    let less = ap length last ∙ length-append (items c.pop-why.new.self) (x ∷ []) in
    let o = on_frames run _ _ _ _ s _ x last c.in-On.is in
    record { marks = omega (arith, low, less); frames = omega (arith, o, low, less) }

pub pop-setter-requires : goal.pop-setter-requires
pop-setter-requires g c = frame_there c.requires.stuck.0 _ _ _ _ c.requires.stuck.1 _ c.pop-why.result c.pop-why.ensures.items c.in-Off.is

pub returns-in-On-clause-stepped : goal.returns-in-On-clause-stepped
returns-in-On-clause-stepped g c =
    λ run s. stepped_on run _ _ _ _ s _ c.pop-why.result c.pop-why.ensures.items _ (search (rules, put_over, true_over)) (position c.turn.new.self) c.in-On.is c.turn.result c.turn.ensures.turned

-- the failing clause went past the literal, whichever set it, or the record was full
went : (g : Over) (c : After-past g) (run : Run) → Stuck run (machine_of c.args.self.now) (g.R.Record.meaning c.args.record.now) (position c.args.self.now) c.args.failure.now
    → (r : Result (Unit {0}) Decline)
    → Past (code c.pop-why.result.literal) c.match-why.setter c.args.failure.now c.match-why.self.made (g.R.Record.meaning c.args.record.now) c.past.new.failure (position c.past.new.self).made (g.R.Record.meaning c.past.new.record) r
    → Stepped run (machine_of c.args.self.now) (position c.args.self.now) (g.R.Record.meaning c.past.new.record) (position c.past.new.self) c.past.new.failure (after r)
went g c run s r q =
    elim c.match-why.branch [
      | in-Clause w ↦
          stepped_clause run _ _ _ _ s _ c.pop-why.result c.pop-why.ensures.items _ (search (rules, put_over, true_over)) (position c.past.new.self) c.past.new.failure _ c.match-why.setter
          w.in-Clause.k w.in-Clause.is (rw w.setter-is w.frame_of-setter.ensures.by) (rw w.setter-is w.frame_of-setter.ensures.holds)
          (rw w.self-is at c.past.ensures.position) r (rw w.self-is at q)
      | in-Off w ↦
          stepped_off run _ _ _ _ s _ c.pop-why.result c.pop-why.ensures.items _ (search (rules, put_over, true_over)) (position c.past.new.self) c.past.new.failure _ c.match-why.setter
          w.in-Off.is (items w.pop-setter.new.self) (rw w.setter-is w.pop-setter.ensures.items)
          (rw w.self-is at c.past.ensures.position) r (rw w.self-is at q)
    ]

pub returns-in_err-past-clause-stepped : goal.returns-in_err-past-clause-stepped
returns-in_err-past-clause-stepped g c =
    let q = err_from_is_err_and c.from_residual.result c.from_residual.ensures.1 in
    λ run s. rw (q.1, q.2) (went g (goal.at.returns-in_err-past-clause-stepped g c).After-past run s (Err c.in_err-past.field-0.0) c.in_err-past.ensures.past)

pub returns-clause-stepped : goal.returns-clause-stepped
returns-clause-stepped g c = λ run s. went g (goal.at.returns-clause-stepped g c).After-past run s (Ok c.in_ok-past.field-0) c.in_ok-past.ensures.past
