use Rattle.std.proofs.Common.{ℕ, List, sym, ap, ◌∙◌, subst}
use Rattle.model.specs.Search.{Chosen, value}
use Rattle.model.proofs.Failing.{chosen_unset}
use Rattle.clauses.specs.Sets.{code}
use Rattle.station.proofs.Files.{over_file}
use Rattle.search.specs.States.{position}
use Rattle.search.proofs.GoingOn.{going_length, not_deep, going_forced, going_chosen, going_fits, choice_left}
use Rattle.search.proofs.State.advance.Goals as goal

pub set-requires : goal.set-requires
set-requires g c = not_deep c.requires.going.0 _ _ _ c.requires.going.1 (code c.in-Forced.t) c.in-Forced.ensures.1.1.1.1

pub chosen-t-requires : goal.chosen-t-requires
chosen-t-requires g c =
    choice_left c.requires.going.0 _ _ _ c.requires.going.1 (g.O.Order.meaning c.args.order.now) (g.O.Order.whole c.args.order.now) c.requires.size (over_file c.args.self.now.file.now) c.in-Undecided.ensures

pub set-requires-in-Undecided : goal.set-requires-in-Undecided
set-requires-in-Undecided g c =
    let k = c.chosen-t.ensures in
    not_deep c.requires.going.0 _ _ _ c.requires.going.1 (code c.chosen-t.result) (ap (value (position c.args.self.now).settings) k.1 ∙ chosen_unset k.2)

pub returns-in-Forced-clause-advanced : goal.returns-in-Forced-clause-advanced
returns-in-Forced-clause-advanced g c = λ run o s. going_forced run _ _ _ s c.in-Forced.k c.in-Forced.t (position c.set.new.self) c.in-Forced.ensures c.set.ensures.position

pub returns-in-Satisfied-clause-advanced : goal.returns-in-Satisfied-clause-advanced
returns-in-Satisfied-clause-advanced g c = λ run o s. (going_fits run _ _ _ s c.in-Satisfied.ensures, going_length run _ _ _ s)

pub returns-in-Undecided-clause-advanced : goal.returns-in-Undecided-clause-advanced
returns-in-Undecided-clause-advanced g c =
    let k = c.chosen-t.ensures in
    let σ = (position c.args.self.now).settings in
    λ run o s. going_chosen run _ _ _ s k.0 c.chosen-t.result (position c.set-in-Undecided.new.self) c.in-Undecided.ensures k.1 (subst (λ (xs : List ℕ). Chosen σ xs k.0) (sym o) k.2) c.set-in-Undecided.ensures.position
