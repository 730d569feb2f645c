use Rattle.std.proofs.Common.{◌≡◌, []}
use Rattle.std.specs.Prelude.{min}
use Rattle.orders.specs.Listed.{listed}
use Rattle.orders.specs.Listing.{list_of}
use Rattle.orders.proofs.listing.Listing.of.Given as goal

abbrev pub invariant-loop-k : goal.invariant-loop-k
invariant-loop-k l = (l.listing.size ≡ min l.initial.size 200) × (list_of l.listing ≡ listed (min l.initial.size 200) [] l.yielded)
