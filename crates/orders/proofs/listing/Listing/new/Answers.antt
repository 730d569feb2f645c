use Rattle.orders.proofs.Adding.{tally_none}
use Rattle.orders.proofs.listing.Listing.new.Goals as goal

pub invariant_of-result-clause-distinct : goal.invariant_of-result-clause-distinct
invariant_of-result-clause-distinct c = rw c.new.ensures (tally_none c.min.result)
