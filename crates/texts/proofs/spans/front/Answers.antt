use Rattle.std.proofs.Common.{refl}
use Rattle.std.proofs.lemmas.Iterator.{YieldsList-from_slice}
use Rattle.std.proofs.lemmas.Iterator.Search.{position_from_yields_List}
use Rattle.texts.proofs.Pieces.{front_by}
use Rattle.texts.proofs.spans.front.Goals as goal

pub returns-clause-fronts : goal.returns-clause-fronts
returns-clause-fronts g c = λ cuts h.
    let bs = c.args.bytes.now in
    front_by cuts bs c.position.result c.unwrap_or-n.result (position_from_yields_List cuts _ c.args.stops c.position.result c.position.ensures.ran (YieldsList-from_slice bs c.iter.ensures.rest) (λ x b q k. h x.now b q (record { shown = x; shows = refl; called = k }))) c.unwrap_or-n.ensures
