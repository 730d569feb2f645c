use Rattle.std.proofs.Common.{◌≡◌, arith, rules}
use Rattle.std.specs.List.{slice_get}
use Rattle.checking.proofs.Held.{copied_at, found_step, holds_shown}
use Rattle.checking.proofs.Named.clause_of.Goals as goal

pub returns-in_ok-show-in-R : goal.returns-in_ok-show-in-R
returns-in_ok-show-in-R c Ds h =
    let e = c.in_ok-show-in-R.ensures in
    rw (c.in-R.is, e) (holds_shown c.args.self.now.file.now c.in-R.k c.in_ok-show-in-R.field-0.now c.of.result e c.of.ensures)

pub returns-in_ok-checked_sub-in-S : goal.returns-in_ok-checked_sub-in-S
returns-in_ok-checked_sub-in-S c Ds h =
    let sets = c.args.self.now.earlier.now in
    let i = c.in_ok-checked_sub-in-S.field-0 in
    let e : c.copied.result ≡ slice_get sets i = let at = copied_at sets i c.get.result c.get.ensures.lookup.3 in search (rules, c.copied.ensures, at) in
    rw (c.in-S.is, e) (found_step sets Ds c.in-S.k i h (omega (arith, c.in_ok-checked_sub-in-S.ensures)))
