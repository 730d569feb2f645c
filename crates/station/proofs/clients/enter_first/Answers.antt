use Rattle.std.proofs.Common.{◌≡◌, ◌<◌, List, [], ◌∷◌, length, get_or, ℤ, pos, Some, sym, ap, ◌∙◌, arith, w32, SFits, rules}
use Rattle.std.proofs.lemmas.Int.{to_z-of_z}
use Rattle.model.specs.Machine.{Enters}
use Rattle.station.specs.Clients.{head_of}
use Rattle.station.specs.Views.{machine}
use Rattle.station.proofs.clients.enter_first.Goals as goal

head_is : (C : List ℤ) (t d : ℤ) → 0 < length C → t ≡ get_or C 0 d → head_of (Some C) ≡ Some t
head_is [] t d l e = absurd (omega arith)
head_is (u ∷ C) t d l e = ap Some (sym e)

pub returns : goal.returns
returns c =
    let z = c.in_ok-first.ensures.item in
    let t = c.in_ok-first.field-0.now in
    let fit : SFits w32 t = search rules in
    let e : Enters (machine c.args.file.now) (t ∷ []) (machine c.enter.new.self) c.enter.result = simp to_z-of_z at c.enter.ensures in
    (t, ap head_of c.in_ok-part.ensures ∙ head_is _ t (pos 0) z.3.0 (z.3.1 (pos 0)), e)
