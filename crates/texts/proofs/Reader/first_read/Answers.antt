use Rattle.std.proofs.lemmas.Result.{err_from_is_err_and}
use Rattle.std.proofs.Common.{[], ◌∷◌}
use Rattle.model.proofs.Lists.{each_append}
use Rattle.texts.proofs.Reader.first_read.Goals as goal

pub returns-in_err-x : goal.returns-in_err-x
returns-in_err-x g c =
    let p = err_from_is_err_and c.from_residual.result c.from_residual.ensures.1 in
    record { passed = c.loop-p.yielded; there = c.loop-p.self; given = c.loop-p.yielded_by; nothing = c.loop-p.invariant; last = rw (p.1, p.2) (c.in-Some.p, c.in-Some.ensures.steps, c.in_err-x.ensures) }

pub returns-in-Some-2 : goal.returns-in-Some-2
returns-in-Some-2 g c = record { passed = c.loop-p.yielded; there = c.loop-p.self; given = c.loop-p.yielded_by; nothing = c.loop-p.invariant; last = (c.in-Some.p, c.in-Some.ensures.steps, rw c.in-Some-2.is at c.in_ok-x.ensures) }

pub loop-p-preserved : goal.loop-p-preserved
loop-p-preserved g c = each_append _ c.loop-p.yielded (c.in-Some.p ∷ []) c.loop-p.invariant (rw c.in_default-2.is at c.in_ok-x.ensures, tt)

pub returns : goal.returns
returns g c = record { passed = c.loop-p.yielded; there = c.loop-p.self; given = c.loop-p.yielded_by; nothing = c.loop-p.invariant; last = c.in_default.ensures.steps }
