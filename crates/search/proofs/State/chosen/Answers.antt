use Rattle.std.proofs.Common.{◌<◌, ◌∙◌, arith, w32, SFits, rules}
use Rattle.std.proofs.lemmas.Int.{to_z-of_z}
use Rattle.model.specs.Settling.{Chooses}
use Rattle.model.proofs.Failing.{chosen_unset}
use Rattle.scan.proofs.Tested.{coded_ok}
use Rattle.search.proofs.GoingOn.{chosen_some, chosen_low}
use Rattle.search.proofs.State.chosen.Goals as goal

pub unwrap-k-requires : goal.unwrap-k-requires
unwrap-k-requires g c =
    let chosen : Chooses c.args.self.now.settings (g.O.Order.meaning c.args.order.now).list c.choose.result = rw (← c.bytes.ensures) c.choose.ensures in
    chosen_some _ _ c.requires.0 _ c.requires.1 chosen

pub unwrap-requires : goal.unwrap-requires
unwrap-requires g c =
    let f : SFits w32 c.from.result = search rules in
    let e = to_z-of_z w32 c.from.result f ∙ c.from.ensures in
    let chosen = rw c.unwrap-k.ensures at c.choose.ensures in
    let low = chosen_low _ c.unwrap-k.result (chosen_unset chosen) in
    let high : c.unwrap-k.result < 256 = search rules in
    coded_ok _ _ c.try_from.ensures (rw e (low, omega arith))
