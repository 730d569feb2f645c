use Rattle.std.proofs.Common.{arith}
use Rattle.station.proofs.Kept.{start_fits, cut_sound}
use Rattle.station.proofs.StationFile.cut.Goals as goal

pub overflow_cast-literals : goal.overflow_cast-literals
overflow_cast-literals c =
    let f = c.args.self.now in
    record { fits = omega (arith, start_fits f c.args.kept c.if-kept-self.true, c.start_of-literals.ensures, f.sound.literals) }

pub invariant_of-self : goal.invariant_of-self
invariant_of-self c =
    let f = c.args.self.now in
    record { few_variables = f.few_variables; few_trials = f.few_trials; sound = cut_sound f c.args.kept c.if-kept-self.true c.start_of-literals.result c.start_of-literals.ensures }
