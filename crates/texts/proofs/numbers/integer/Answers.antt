use Rattle.std.proofs.Common.{◌≡◌, ◌<◌, ◌≢◌, Some, None, get_or, pos, ◌-ℤ◌, ap, sym, ◌∙◌, arith, rules, to_z, of_z, w32}
use Rattle.model.specs.Numbers.{plain, negative}
use Rattle.texts.proofs.Digits.{with_minus, without_minus, no_first}
use Rattle.texts.proofs.numbers.integer.Goals as goal
use Rattle.texts.proofs.numbers.integer.Goals.{in_default-via-then-w-lt1, in_default-via-else-w-lt1+in_default-1}

pub returns-in_err-x-in-45 : goal.returns-in_err-x-in-45
returns-in_err-x-in-45 c = c.from_residual.ensures ∙ with_minus c.args.w.now None (omega arith) c.in_err-x-in-45.ensures.value

pub returns-in-0 : goal.returns-in-0
returns-in-0 c = ap (λ x. negative (Some x)) (sym c.in-0.is) ∙ with_minus c.args.w.now _ (omega arith) c.in_ok-x-in-45.ensures.value

pub returns-in_default-2 : goal.returns-in_default-2
returns-in_default-2 c =
    let x = c.in_ok-x-in-45.x in
    let s : x < 1000000 = c.in_ok-x-in-45.ensures.small in
    let z : x ≢ 0 = search rules in
    let e : Some (to_z w32 (of_z w32 (pos 0 -ℤ to_z w32 x))) ≡ negative (Some x) = search rules in
    e ∙ with_minus c.args.w.now (Some x) (omega arith) c.in_ok-x-in-45.ensures.value

pub returns-in_err-natural-in_default : goal.returns-in_err-natural-in_default
returns-in_err-natural-in_default c =
    let ne : get_or c.args.w.now 0 0 ≢ 45 = elim c.in_default.branch [ in_default-via-then-w-lt1 w ↦ no_first c.args.w.now (search rules) | in_default-via-else-w-lt1+in_default-1 w ↦ search rules ] in
    c.from_residual-in_err-natural-in_default.ensures ∙ without_minus c.args.w.now None ne c.in_err-natural-in_default.ensures.value

pub returns-in_ok-natural-in_default : goal.returns-in_ok-natural-in_default
returns-in_ok-natural-in_default c =
    let x = c.in_ok-natural-in_default.field-0 in
    let s : x < 1000000 = c.in_ok-natural-in_default.ensures.small in
    let ne : get_or c.args.w.now 0 0 ≢ 45 = elim c.in_default.branch [ in_default-via-then-w-lt1 w ↦ no_first c.args.w.now (search rules) | in_default-via-else-w-lt1+in_default-1 w ↦ search rules ] in
    let e : Some (to_z w32 x) ≡ plain (Some x) = search rules in
    e ∙ without_minus c.args.w.now (Some x) ne c.in_ok-natural-in_default.ensures.value
