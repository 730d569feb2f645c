use Rattle.std.proofs.Common.{◌<◌, length, arith, rules}
use Rattle.std.proofs.lemmas.List.{length_push}
use Rattle.orders.proofs.Adding.{tally_misses, tally_push}
use Rattle.orders.proofs.listing.Listing.add.Goals as goal

pub push-requires : goal.push-requires
push-requires c =
    let t = c.args.self.now in
    let p = c.in-Ok.variable in
    let m = tally_misses t.size t.list.items p (search rules) (search rules) (search rules) in
    let r : length t.list.items < 200 = omega (arith, m, t.distinct, t.small) in
    search rules

pub invariant_of-self-clause-distinct : goal.invariant_of-self-clause-distinct
invariant_of-self-clause-distinct c =
    let t = c.args.self.now in
    let p = c.in-Ok.variable in
    let m = tally_push t.size t.list.items p (search rules) (search rules) (search rules) in
    rw c.push.ensures.items (omega (arith, m, t.distinct, length_push t.list.items p))
