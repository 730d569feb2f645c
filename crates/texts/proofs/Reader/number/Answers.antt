use Rattle.std.proofs.Common.{refl, rules}
use Rattle.texts.specs.Steps.{After, spoke}
use Rattle.texts.proofs.Passing.{finds, stays}
use Rattle.texts.proofs.Reader.number.Goals as goal

pub returns : goal.returns
returns c = record {
  counts = finds c.first_read.ensures After spoke (λ s. refl) (λ p r k. search rules);
  text = stays c.first_read.ensures After spoke (λ s. refl) (λ p r k. search rules);
}
