-- The variables that a listing holds.
use Rattle.std.specs.Prelude.{ℕ, List}
use Rattle.model.specs.Settling.{OrderMeaning}
use Rattle.orders.specs.declared.listing.Listing.{Listing}

abbrev pub list_of : Listing → List ℕ
list_of l = l.list.items

abbrev pub order_of : Listing → OrderMeaning
order_of l = record { size = l.size; list = list_of l }
