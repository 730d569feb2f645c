use Rattle.orders.proofs.Choosing.{choice_unset}
use Rattle.orders.proofs.tests.chosen.Goals as goal

pub returns : goal.returns
returns g c = choice_unset c.args.settings.now _ c.choose.result c.choose.ensures
