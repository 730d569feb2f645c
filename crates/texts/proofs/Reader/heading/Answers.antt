use Rattle.std.proofs.Common.{refl, rules}
use Rattle.texts.specs.Steps.{Before, began}
use Rattle.texts.proofs.Passing.{finds, stays}
use Rattle.texts.proofs.Reader.heading.Goals as goal

pub returns : goal.returns
returns c = record {
  heads = finds c.first_read.ensures (Before c.args.n) began (λ s. refl) (λ p r k. search rules);
  text = stays c.first_read.ensures (Before c.args.n) began (λ s. refl) (λ p r k. search rules);
}
