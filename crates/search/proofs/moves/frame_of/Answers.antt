use Rattle.std.proofs.Common.{◌≡◌, ℤ, subst, arith}
use Rattle.model.specs.Clauses.{Clause, ◌∈◌, Within}
use Rattle.model.proofs.Numbered.{numbered_each}
use Rattle.clauses.specs.Sets.{Holds}
use Rattle.clauses.proofs.Members.{holds_named}
use Rattle.station.specs.Views.{machine}
use Rattle.station.proofs.Files.{over_file, small_file}
use Rattle.search.proofs.moves.frame_of.Goals as goal

pub returns-clause-holds : goal.returns-clause-holds
returns-clause-holds c =
    let f = c.args.file.now in
    let shown = rw c.unwrap.ensures at c.show.ensures in
    let within = numbered_each (λ C. (t : ℤ) → t ∈ C → Within (machine f).variables t) (machine f).clauses c.args.k c.unwrap.result.now (over_file f) shown in
    let few = small_file f in
    let h = holds_named c.of.result c.unwrap.result.now c.of.ensures (λ t i. let w = within t i in (w.0, omega (arith, w.1, few))) in
    λ C e. let q : c.unwrap.result.now ≡ C = cc in subst (λ (X : Clause). Holds c.of.result X) q h
