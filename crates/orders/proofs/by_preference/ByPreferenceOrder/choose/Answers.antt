use Rattle.std.proofs.Common.{eqb, rules}
use borrow.Author.Tests.{tests}
use Rattle.std.proofs.lemmas.Iterator.{YieldsList-from_slice}
use Rattle.std.proofs.lemmas.Iterator.Consumers.{YieldsList-from_copied, YieldsList-at}
use Rattle.std.proofs.lemmas.Iterator.Search.{find_from_yields_List}
use Rattle.model.specs.Search.{entry}
use Rattle.orders.specs.Listing.{list_of}
use Rattle.orders.proofs.Choosing.{chooses_found}
use Rattle.orders.proofs.by_preference.ByPreferenceOrder.choose.Goals as goal

pub returns : goal.returns
returns c =
    let listed = YieldsList-from_copied (YieldsList-at c.copied.ensures.source (YieldsList-from_slice (list_of c.args.self.now.listing) cc)) in
    chooses_found c.args.settings.now (list_of c.args.self.now.listing) c.find.result
    (find_from_yields_List (λ k. eqb (entry c.args.settings.now k) 2) _ _ c.find.result c.find.ensures.ran listed (λ x b q k. search (rules, tests)))
