use Rattle.std.proofs.Common.{◌≡◌, ℕ, List, [], ◌++◌, sym, ap, ◌∙◌, map-id, rules}
use Rattle.std.specs.Prelude.{min}
use Rattle.std.proofs.lemmas.Iterator.{YieldsList-from_slice}
use Rattle.std.proofs.lemmas.Iterator.Consumers.{YieldsList-from_copied, YieldsList-from_chain, YieldsList-at, YieldsList-end}
use Rattle.orders.specs.Listed.{numbers, listed}
use Rattle.orders.specs.Listing.{list_of}
use Rattle.orders.proofs.Adding.{adds_one, listed_append}
use Rattle.orders.proofs.Choosing.{numbers_yielded}
use Rattle.orders.proofs.listing.Listing.of.Goals as goal

pub loop-k-preserved : goal.loop-k-preserved
loop-k-preserved c =
    let v = c.loop-k.invariant in
    (c.add.ensures.sized ∙ v.0, adds_one _ _ _ _ c.loop-k.yielded _ v.0 v.1 c.add.ensures.added)

pub returns : goal.returns
returns c =
    let n : ℕ = min c.args.size 200 in
    let ps : List ℕ = c.args.preferences.now in
    let front = YieldsList-at c.chain-k-items.ensures.first (YieldsList-from_copied (YieldsList-at c.copied.ensures.source (YieldsList-from_slice ps cc))) in
    let back = numbers_yielded c.chain-k-items.result.b n (search rules) (search rules) (search rules) in
    let road = YieldsList-from_chain {s = c.chain-k-items.result} front back c.chain-k-items.ensures.first_done c.chain-k-items.ensures.second_done in
    let end = YieldsList-end (YieldsList-at (search rules) road) c.loop-k.yielded _ c.loop-k.yielded_by _ _ c.in-None.is c.next.ensures.steps in
    let all : c.loop-k.yielded ≡ ps ++ numbers n = sym (map-id c.loop-k.yielded) ∙ end.0 in
    let l : list_of c.loop-k.listing ≡ listed n (listed n [] ps) (numbers n) = c.loop-k.invariant.1 ∙ (ap (listed n []) all ∙ listed_append n [] ps (numbers n)) in
    simp (c.loop-k.invariant.0, l)
