use Rattle.model.proofs.Same.{one_course_lem}
use Rattle.model.proofs.theorems.one_course.Goals as goal

pub returns : goal.returns
returns c F order σ m ss us a b = one_course_lem
