use Rattle.std.proofs.Common.{◌≡◌, eqb, take, arith, refl, subst, sym, ◌∙◌, rules}
use borrow.Author.Tests.{tests}
use Rattle.std.specs.Slice.Iter.{iter_rest}
use Rattle.std.proofs.lemmas.Iterator.{YieldsList-from_slice}
use Rattle.std.proofs.lemmas.Iterator.Search.{position_from_yields_List}
use Rattle.model.specs.Settling.{Chooses}
use Rattle.orders.specs.Listed.{numbers}
use Rattle.orders.proofs.Choosing.{bytes_of, bytes_from, chooses_place, numbered}
use Rattle.orders.proofs.by_number.ByNumberOrder.choose.Goals.{After-position}
use Rattle.orders.proofs.by_number.ByNumberOrder.choose.Goals as goal

-- for both returns: a byte that is 2 was found, or none
placed : (c : After-position) → Chooses c.args.settings.now (numbers c.args.self.now.n) (numbered c.position.result)
placed c =
    let σ = c.args.settings.now in
    let n = c.args.self.now.n in
    let bytes = iter_rest c.iter.result in
    let whole : bytes ≡ take n σ = c.iter.ensures.rest ∙ search (rules, arith, bytes_of, bytes_from) in
    let found = position_from_yields_List (λ b. eqb b 2) _ _ c.position.result c.position.ensures.ran (YieldsList-from_slice bytes refl) (λ x b q k. search (rules, tests)) in
    chooses_place σ n bytes c.position.result found whole

pub returns-in_err-at : goal.returns-in_err-at
returns-in_err-at c =
    let chooses = Chooses c.args.settings.now (numbers c.args.self.now.n) in
    subst chooses (sym c.from_residual.ensures) (subst (λ r. chooses (numbered r)) c.in_err-at.was (placed (goal.at.returns-in_err-at c).After-position))

pub returns : goal.returns
returns c = subst (λ r. Chooses c.args.settings.now (numbers c.args.self.now.n) (numbered r)) c.in_ok-at.was (placed (goal.at.returns c).After-position)
