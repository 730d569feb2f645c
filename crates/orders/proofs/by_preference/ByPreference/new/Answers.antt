use Rattle.orders.specs.Listing.{order_of}
use Rattle.orders.proofs.Adding.{completed}
use Rattle.orders.proofs.by_preference.ByPreference.new.Goals as goal

pub invariant_of-result : goal.invariant_of-result
invariant_of-result c = record { whole = completed _ c.args.preferences.now (order_of c.of.result) c.of.ensures }
