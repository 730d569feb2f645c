use Rattle.model.proofs.Fitted.{fitted}
use Rattle.model.proofs.theorems.fits_are_models.Goals as goal

pub returns : goal.returns
returns c n F order ss τ b = fitted b
