use Rattle.std.proofs.Common.{◌≡◌, false, ◌||◌, length, get_or, arith, rules}
use native.Mathlib.Decide.{dec_lt}
use Rattle.std.proofs.lemmas.List.{get_or_past}
use Rattle.clauses.specs.Sets.{code}
use Rattle.clauses.specs.declared.LiteralSet.{LiteralSet}
use Rattle.clauses.proofs.Members.{united, made_at}
use Rattle.clauses.proofs.LiteralSet.resolvent.Goals as goal

pub returns : goal.returns
returns c =
    let l = c.remove.new.self in
    let r = c.remove-2.new.self in
    let m : LiteralSet = record { marks = c.from_fn.result } in
    united c.args.self.now c.args.other.now l r m (code c.args.t) (code c.opposite.result) c.remove.ensures c.opposite.ensures c.remove-2.ensures
    (λ k. elim (dec_lt k 512) [
      | yes h ↦ made_at c.from_fn.ensures.items (λ i. get_or l.marks i false || get_or r.marks i false) (λ i y q p. search rules) k false h
      | no n ↦
          (let past = λ (s : LiteralSet) (e : length s.marks ≡ 512). get_or_past s.marks k false (omega (arith, n)) in
          rw (past m (search rules), past l (search rules), past r (search rules)))
    ])
