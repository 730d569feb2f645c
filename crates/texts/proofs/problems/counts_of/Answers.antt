use Rattle.std.proofs.Common.{◌≡◌, ℕ, List, [], ◌∷◌, get_or, length, codes, sym, ap, ◌∙◌, arith}
use Rattle.model.specs.Numbers.{natural}
use Rattle.model.specs.Reading.{same_bytes, counts, spellings}
use Rattle.texts.proofs.Spellings.{some_left, none_left}
use Rattle.texts.proofs.Heads.{same_by, other_length, no_variables, no_clauses, no_p, no_cnf, four_words}
use Rattle.texts.proofs.problems.counts_of.Goals as goal
use Rattle.texts.proofs.problems.counts_of.Goals.{then-ne-via-then-ne, then-ne-via-else-ne+then-ne-2, then-ne-via-else-ne+else-ne-2+then-is_some}

abbrev Words : Type 0
Words = List (List ℕ)

-- the words given so far, and those left

second : {all ws us : Words} {p w : List ℕ} → all ≡ p ∷ ws → ws ≡ w ∷ us → all ≡ p ∷ (w ∷ us)
second {p = p} a b = a ∙ ap (λ z. p ∷ z) b

third : {all ws us : Words} {p q w : List ℕ} → all ≡ p ∷ (q ∷ ws) → ws ≡ w ∷ us → all ≡ p ∷ (q ∷ (w ∷ us))
third {p = p} {q = q} a b = a ∙ ap (λ z. p ∷ (q ∷ z)) b

fourth : {all ws us : Words} {p q v w : List ℕ} → all ≡ p ∷ (q ∷ (v ∷ ws)) → ws ≡ w ∷ us → all ≡ p ∷ (q ∷ (v ∷ (w ∷ us)))
fourth {p = p} {q = q} {v = v} a b = a ∙ ap (λ z. p ∷ (q ∷ (v ∷ z))) b

pub returns-in_err-p : goal.returns-in_err-p
returns-in_err-p c = c.from_residual.ensures ∙ other_length (spellings c.args.line.now) (λ n. omega (arith, n, ap length c.in_err-p.ensures.steps.0))

pub returns-in_err-cnf : goal.returns-in_err-cnf
returns-in_err-cnf c =
    let a = c.in_ok-p.ensures.steps in
    c.from_residual-in_err-cnf.ensures ∙ other_length (spellings c.args.line.now) (λ n. omega (arith, n, ap length a, ap length c.in_err-cnf.ensures.steps.0))

pub returns-in_err-next : goal.returns-in_err-next
returns-in_err-next c =
    let b = second c.in_ok-p.ensures.steps c.in_ok-cnf.ensures.steps in
    c.from_residual-in_err-next.ensures ∙ other_length (spellings c.args.line.now) (λ n. omega (arith, n, ap length b, ap length c.in_err-next.ensures.steps.0))

pub returns-in_err-variables : goal.returns-in_err-variables
returns-in_err-variables c =
    let d = third (second c.in_ok-p.ensures.steps c.in_ok-cnf.ensures.steps) c.in_ok-next.ensures.steps in
    c.from_residual-in_err-variables.ensures ∙ no_variables (spellings c.args.line.now) (ap (λ ws. natural (get_or ws 2 [])) d ∙ sym c.in_err-variables.ensures.value)

pub returns-in_err-next-2 : goal.returns-in_err-next-2
returns-in_err-next-2 c =
    let d = third (second c.in_ok-p.ensures.steps c.in_ok-cnf.ensures.steps) c.in_ok-next.ensures.steps in
    c.from_residual-in_err-next-2.ensures ∙ other_length (spellings c.args.line.now) (λ n. omega (arith, n, ap length d, ap length c.in_err-next-2.ensures.steps.0))

pub returns-in_err-clauses : goal.returns-in_err-clauses
returns-in_err-clauses c =
    let e = fourth (third (second c.in_ok-p.ensures.steps c.in_ok-cnf.ensures.steps) c.in_ok-next.ensures.steps) c.in_ok-next-2.ensures.steps in
    c.from_residual-in_err-clauses.ensures ∙ no_clauses (spellings c.args.line.now) (ap (λ ws. natural (get_or ws 3 [])) e ∙ sym c.in_err-clauses.ensures.value)

pub returns-then-ne : goal.returns-then-ne
returns-then-ne c =
    let ws = spellings c.args.line.now in
    let e = fourth (third (second c.in_ok-p.ensures.steps c.in_ok-cnf.ensures.steps) c.in_ok-next.ensures.steps) c.in_ok-next-2.ensures.steps in
    elim c.then-ne.branch [
      | then-ne-via-then-ne w ↦ no_p ws (ap (λ z. same_bytes (get_or z 0 []) (codes "p")) e ∙ same_by _ _ _ (codes "p") w.if-ne.ensures c.as_slice.ensures)
      | then-ne-via-else-ne+then-ne-2 w ↦ no_cnf ws (ap (λ z. same_bytes (get_or z 1 []) (codes "cnf")) e ∙ same_by _ _ _ (codes "cnf") w.if-ne-2.ensures w.as_slice-else-ne.ensures)
      | then-ne-via-else-ne+else-ne-2+then-is_some w ↦ other_length ws (λ n. omega (arith, n, ap length e, some_left c.next-4.new.self w.next-else-ne-2.new.self _ w.if-is_some.ensures w.next-else-ne-2.ensures.steps))
    ]

pub returns : goal.returns
returns c =
    let e = fourth (third (second c.in_ok-p.ensures.steps c.in_ok-cnf.ensures.steps) c.in_ok-next.ensures.steps) c.in_ok-next-2.ensures.steps in
    let l = none_left c.next-4.new.self c.next-else-ne-2.new.self _ c.if-is_some.ensures c.next-else-ne-2.ensures.steps in
    four_words _ _ _ _ _ _ (same_by _ _ _ (codes "p") c.if-ne.ensures c.as_slice.ensures) (same_by _ _ _ (codes "cnf") c.if-ne-2.ensures c.as_slice-else-ne.ensures) (sym c.in_ok-variables.ensures.value) (sym c.in_ok-clauses.ensures.value)
    ∙ ap counts (sym (e ∙ ap (λ z. c.in_ok-p.p.now ∷ (c.in_ok-cnf.cnf.now ∷ (c.in_ok-next.field-0.now ∷ (c.in_ok-next-2.field-0.now ∷ z)))) l))
