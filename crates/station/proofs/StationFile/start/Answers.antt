use Rattle.std.proofs.Common.{arith, rules}
use Rattle.std.proofs.lemmas.Bool.Decides.{nat_tests}
use Rattle.std.proofs.lemmas.List.{nil_from_length}
use Rattle.lives.proofs.Living.{lives}
use Rattle.station.specs.Cuts.{parts, rises, last_of}
use Rattle.station.specs.Views.{machine_in, machine}
use Rattle.station.proofs.StationFile.start.Goals as goal

pub returns-clause-lives : goal.returns-clause-lives
unfolding machine machine_in parts
returns-clause-lives c =
    let bare = nil_from_length c.args.self.now.marks.items (grind (arith, nat_tests)) in
    rw bare (lives c.args.variables c.args.number (grind (arith, nat_tests)) (grind (arith, nat_tests)))

pub invariant_of-self : goal.invariant_of-self
unfolding rises last_of
invariant_of-self c = search rules
