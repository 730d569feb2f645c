use Rattle.std.proofs.Common.{[], ◌∷◌, ◌++◌, get_or, take, pos, sym, ap, ◌∙◌, w32, SFits, rules}
use Rattle.std.specs.Fmt.{signed_decimal}
use Rattle.std.proofs.lemmas.List.{take_more}
use Rattle.std.proofs.lemmas.Int.{to_z-of_z}
use Rattle.model.specs.Writing.{literal_texts}
use Rattle.writing.specs.Sinks.{Puts}
use Rattle.writing.proofs.Putting.{puts_none, puts_both, puts_same}
use Rattle.writing.proofs.Pieces.{literals_more}
use Rattle.writing.proofs.spelling.clause.Goals as goal

pub loop-t-init : goal.loop-t-init
unfolding literal_texts
loop-t-init g c = puts_none g.S.Sink.took c.args.sink.now

pub loop-t-preserved : goal.loop-t-preserved
loop-t-preserved g c =
    let took = g.S.Sink.took in
    let ts = c.args.literals.now in
    let i = c.loop-t.t-index in
    let t = get_or ts i (pos 0) in
    let fit : SFits w32 t = search rules in
    let p : Puts took c.loop-t.sink (signed_decimal t) c.number.new.sink = simp to_z-of_z at c.number.ensures in
    let q = puts_both took c.loop-t.sink c.number.new.sink c.put.new.self (signed_decimal t) (32 ∷ []) p c.put.ensures in
    puts_same took _ _ _ _ (literals_more (take i ts) t ∙ ap literal_texts (sym (take_more ts i (pos 0) c.loop-t-test.true)))
    (puts_both took c.args.sink.now c.loop-t.sink c.put.new.self (literal_texts (take i ts)) (signed_decimal t ++ (32 ∷ [])) c.loop-t.invariant q)
