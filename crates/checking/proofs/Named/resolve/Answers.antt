use Rattle.std.proofs.Common.{rules}
use Rattle.checking.proofs.Checked.{no_variable, left_lacks, right_lacks, resolved}
use Rattle.checking.proofs.Named.resolve.Goals as goal

pub returns-in-Ok : goal.returns-in-Ok
returns-in-Ok c Ds h =
    resolved _ _ _ (c.clause_of.ensures Ds h) c.in_ok-left.ensures.ok_part (c.clause_of-2.ensures Ds h) c.in_ok-right.ensures.ok_part (search rules)
    _ c.in-Ok.ensures c.opposite.ensures c.if-contains.ensures c.if-contains-2.ensures c.resolvent.ensures

pub returns-in_default : goal.returns-in_default
returns-in_default c Ds h =
    right_lacks _ _ _ (c.clause_of.ensures Ds h) c.in_ok-left.ensures.ok_part (c.clause_of-2.ensures Ds h) c.in_ok-right.ensures.ok_part (search rules)
    c.in-Ok.ensures c.opposite.ensures c.if-contains-2.ensures

pub returns-in_default-2 : goal.returns-in_default-2
returns-in_default-2 c Ds h =
    left_lacks _ _ _ (c.clause_of.ensures Ds h) c.in_ok-left.ensures.ok_part (c.clause_of-2.ensures Ds h) c.in_ok-right.ensures.ok_part (search rules)
    c.in-Ok.ensures c.if-contains.ensures

pub returns-in_default-3 : goal.returns-in_default-3
returns-in_default-3 c Ds h =
    no_variable _ _ _ (c.clause_of.ensures Ds h) c.in_ok-left.ensures.ok_part (c.clause_of-2.ensures Ds h) c.in_ok-right.ensures.ok_part (search rules)
    c.in_default.ensures
