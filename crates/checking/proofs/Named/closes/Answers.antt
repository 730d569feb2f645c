use Rattle.model.specs.Checking.{named}
use Rattle.station.specs.Views.{machine}
use Rattle.checking.proofs.Checked.{closing_empty}
use Rattle.checking.proofs.Named.closes.Goals as goal

pub returns-in-Some : goal.returns-in-Some
returns-in-Some c Ds h =
    closing_empty (named (machine c.args.self.now.file.now).clauses Ds c.args.closing) c.in-Some.clause (c.in-Some.ensures Ds h) c.if-is_empty.ensures
