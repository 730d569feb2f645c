use Rattle.std.proofs.Common.{refl, inl, inr, arith}
use Rattle.std.specs.Iterator.Adapters.{zip_first, zip_second}
use Rattle.station.specs.Left.{clauses_left}
use Rattle.station.specs.Views.{machine}
use Rattle.station.proofs.Files.{few_clauses}
use Rattle.scan.proofs.Scanned.{UpTo, up_to_start, up_to_more, up_to_end, up_to_conflict, up_to_low}
use Rattle.scan.proofs.scans.scan.Goals.{After-add-so_far}
use Rattle.scan.proofs.scans.scan.Goals as goal

one_more : (c : After-add-so_far) → UpTo c.args.settings.now (machine c.args.file.now).clauses (zip_first c.next.new.self).start (clauses_left (zip_second c.next.new.self)) c.add-so_far.result
one_more c =
    let s = c.in-Some.ensures.steps in
    up_to_more c.args.settings.now (machine c.args.file.now).clauses _ _ _ _ _ _ _ _ _ c.loop-k.invariant s.1 s.0.0 s.0.1 c.test.ensures c.add-so_far.ensures

pub loop-k-init : goal.loop-k-init
loop-k-init c =
    let z = c.into_iter-k-iterator.ensures.into_iter_gives in
    up_to_start c.args.settings.now (machine c.args.file.now).clauses _ _ (rw (z, c.zip-k-items.ensures.first) refl) (rw (z, c.zip-k-items.ensures.second) c.iter.ensures)

pub returns-in-Conflict : goal.returns-in-Conflict
returns-in-Conflict c = up_to_conflict _ _ _ _ _ _ (one_more (goal.at.returns-in-Conflict c).After-add-so_far) c.in-Conflict.is

pub loop-k-preserved : goal.loop-k-preserved
loop-k-preserved c = one_more (goal.at.loop-k-preserved c).After-add-so_far

pub returns : goal.returns
returns c = elim c.in-None.ensures.steps [
  | inl p ↦ absurd (omega (arith, p.1.0, up_to_low _ _ _ _ _ c.loop-k.invariant, few_clauses c.args.file.now))
  | inr p ↦ up_to_end _ _ _ _ _ c.loop-k.invariant p.1.0
]
