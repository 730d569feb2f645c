use Rattle.std.proofs.Common.{◌≡◌, ◌<◌, length, take, Some, Err, sym, ap, ◌∙◌, arith}
use Rattle.std.proofs.lemmas.List.{length-take-le, take_more_set}
use Rattle.std.proofs.lemmas.Result.{err_from_is_err_and}
use Rattle.station.specs.Views.{machine}
use Rattle.checking.proofs.Checked.{some_step, going_on, going_wrong, going_end, checks}
use Rattle.checking.proofs.faultless.Goals as goal

pub unwrap-step-requires : goal.unwrap-step-requires
unwrap-step-requires g c = rw c.look.ensures (some_step (g.R.Record.meaning c.args.record.now).steps c.loop-i.i (omega (arith, c.count-count.ensures)))

pub loop-i-preserved : goal.loop-i-preserved
loop-i-preserved g c =
    let i = c.loop-i.i in
    let memory = c.loop-i.memory in
    let low : i < length memory = omega (arith, c.loop-i.auto.memory) in
    let long : i ≡ length (take i memory) = sym (length-take-le i memory (omega arith)) in
    rw (take_more_set memory i c.in_ok-memory.field-0 low)
    (going_on (machine c.args.file.now).clauses (g.R.Record.meaning c.args.record.now).steps c.args.closing (take i memory) i c.loop-i.invariant
    c.unwrap-step.result long (sym c.unwrap-step.ensures ∙ c.look.ensures) c.in_ok-memory.field-0 c.in_ok-memory.ensures)

pub returns-in_err-memory : goal.returns-in_err-memory
returns-in_err-memory g c =
    let m = machine c.args.file.now in
    let ss = (g.R.Record.meaning c.args.record.now).steps in
    let i = c.loop-i.i in
    let memory = c.loop-i.memory in
    let q = err_from_is_err_and c.from_residual-in_err-memory.result c.from_residual-in_err-memory.ensures.1 in
    let fault = going_wrong m.clauses ss c.args.closing (take i memory) i c.loop-i.invariant c.unwrap-step.result
    (sym (length-take-le i memory (omega (arith, c.loop-i.auto.memory))))
    (sym c.unwrap-step.ensures ∙ c.look.ensures) c.in_err-memory.field-0.0 c.in_err-memory.ensures in
    rw q.1 (checks m ss c.args.closing (length c.args.memory.now) (Err q.0) c.in_ok-started.ensures.0
    (omega (arith, c.count-count.ensures, c.if-memory-count.false)) (fault ∙ ap Some (sym q.2)))

pub returns : goal.returns
returns g c =
    let m = machine c.args.file.now in
    let ss = (g.R.Record.meaning c.args.record.now).steps in
    let i = c.loop-i.i in
    let memory = c.loop-i.memory in
    let same : c.count-count.result ≡ i = omega (arith, c.loop-i.auto.i-end, c.loop-i-test.false) in
    checks m ss c.args.closing (length c.args.memory.now) c.closes.result c.in_ok-started.ensures.0 (omega (arith, c.count-count.ensures, c.if-memory-count.false))
    (going_end m.clauses ss c.args.closing (take i memory) i c.loop-i.invariant (omega (arith, c.count-count.ensures, same)) c.closes.result
    (rw same at c.closes.ensures))
