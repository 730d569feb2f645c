-- What the whole search comes to.
use Rattle.std.proofs.Common.{[], refl, subst, arith}
use Rattle.model.specs.Clauses.{Clause}
use Rattle.model.specs.Arguments.{Named, StepsArgue, FewSteps}
use Rattle.model.proofs.Root.{root_empty}
use Rattle.model.proofs.Derived.{extends}
use Rattle.model.proofs.Bound.{bound, vacant_unset}

pub steps_argue_lem : StepsArgue
steps_argue_lem n F order ss r C over h b =
    let x = extends b (omega arith) [] refl in
    (x.0, x.1, subst (λ (D : Clause). Named F x.0 r D) (root_empty n over b) x.2)

pub few_steps_lem : FewSteps
few_steps_lem n F order ss out b = rw (vacant_unset n) at (bound b)
