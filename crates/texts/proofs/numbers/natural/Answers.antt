use Rattle.std.proofs.Common.{◌≡◌, ◌+◌, ◌*◌, ◌^◌, ◌<◌, ◌≤◌, ◌≢◌, length, get_or, sym, ◌∙◌, inl, inr, ⊎_elim, add-one, arith}
use Rattle.std.proofs.lemmas.Bool.{eqb-true, eqb-false}
use native.Mathlib.Nat.{pow-succ', pow-le-pow_right}
use Rattle.texts.proofs.Digits.{bad_length, bad_digit, good_digits, digits_more, digits_broken, digits_done, value_more, value_done, no_digit, a_digit}
use Rattle.texts.proofs.numbers.natural.Goals as goal

pub returns-then-is_empty-clause-value : goal.returns-then-is_empty-clause-value
returns-then-is_empty-clause-value c =
    let n = length c.args.w.now in
    bad_length c.args.w.now (⊎_elim (λ a. inl (let z : n ≡ 0 = eqb-true n 0 (sym c.is_empty.ensures ∙ a) in omega arith)) (λ a. inr a.1) c.then-is_empty.either)

pub returns-in_err-v-clause-value : goal.returns-in_err-v-clause-value
returns-in_err-v-clause-value c =
    let w = c.args.w.now in
    c.from_residual.ensures ∙ bad_digit w (sym c.loop-b.invariant.1 ∙ digits_broken w c.loop-b.b-index c.loop-b-test.true (no_digit (get_or w c.loop-b.b-index 0) c.in_err-v.ensures.cases))

pub loop-b-preserved : goal.loop-b-preserved
loop-b-preserved c =
    let w = c.args.w.now in
    let i = c.loop-b.b-index in
    let v = c.loop-b.invariant in
    let l = c.loop-b-test.true in
    let d = c.in_ok-v.field-0 in
    let k = c.in_ok-v.ensures.value in
    let t = a_digit (get_or w i 0) d (omega (arith, k.0, k.1)) k.1 in
    let e : 10 ^ (i + 1) ≡ 10 * 10 ^ i = rw add-one (pow-succ' 10 i) in
    (omega (arith, e, v.0, k.0, k.1), digits_more w i l t.0 ∙ v.1, value_more w i c.loop-b.v d l t.1 ∙ v.2)

pub returns : goal.returns
returns c =
    let w = c.args.w.now in
    let i = c.loop-b.b-index in
    let v = c.loop-b.invariant in
    let l = c.loop-b-test.false in
    let top : 10 ^ i ≤ 10 ^ 6 = pow-le-pow_right (let z : 0 < 10 = omega arith in z) (let z : i ≤ 6 = omega arith in z) in
    record { small = omega (arith, top, v.0); value = good_digits w c.loop-b.v (let ne : length w ≢ 0 = eqb-false _ 0 (sym c.is_empty.ensures ∙ c.if-is_empty.false) in omega arith) (omega arith) (sym v.1 ∙ digits_done w i l) (sym (value_done w i c.loop-b.v l) ∙ v.2) }
