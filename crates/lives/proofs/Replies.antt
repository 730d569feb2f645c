-- A call has one reply, and what is declined leaves everything.
use Rattle.std.proofs.Common.{◌≡◌, ℕ, ◌+◌, ◌≤◌, ◌≢◌, List, length, take, drop, Some, None, Ok, Err, Option, Result, sym, refl, ap, ◌∙◌, subst, ap₂, ⊎_elim, arith}
use mathlib.Core.Path.{fun_ext}
use Rattle.std.proofs.lemmas.Bool.{cases_eq, eq-eqb, ne_eqb}
use Rattle.model.specs.declared.Reference.{Reference}
use Rattle.model.specs.declared.Answer.{Answer}
use Rattle.model.specs.declared.Answer.TheVariants.{Fits, Cannot}
use Rattle.model.specs.declared.Decline.{Decline}
use Rattle.model.specs.declared.Decline.TheVariants.{RecordFull}
use Rattle.model.specs.declared.ReadFault.{ReadFault}
use Rattle.model.specs.Clauses.{Valuation, Model, Each}
use Rattle.model.specs.Arguments.{reads}
use Rattle.model.specs.Machine.{Machine, SlipState, blank, filled, Does, enter_refusal, entered, open_refusal, opened, close_refusal, closed}
use Rattle.model.specs.Reading.{Reading, accepted, faulty, reading, Reads}
use Rattle.model.specs.Settling.{OrderMeaning, RecordMeaning, settle_refusal, Settled}
use Rattle.model.proofs.Worths.{worth}
use Rattle.texts.specs.Laws.{Limits}
use Rattle.lives.specs.Lives.{World, with_slip, Call, enter, read, open_trial, close_trial, settle, Reply, enter_said, read_said, trial_said, settle_said, Happens, enters, reads_in, opens, closes, settles, Handed, Declined, Right, Like, like_all, like_sheet, Same, same_all, same_sheet, Argued}
use Rattle.lives.proofs.Refusals.{some_none}
use Rattle.lives.proofs.Kept.{limits_over}
use Rattle.lives.proofs.Settled.{settled_stays, settled_bits, settled_record, settled_alike, settle_answers, not_refused, settled_argued}
use Rattle.lives.proofs.Checked.{argument_accepted}

-- slips

pub same_slip : (f : ℕ → SlipState) (s i : ℕ) (x : SlipState) → i ≡ s → with_slip f s x i ≡ x
same_slip f s i x e = rw (eq-eqb i s e)

pub other_slip : (f : ℕ → SlipState) (s i : ℕ) (x : SlipState) → i ≢ s → with_slip f s x i ≡ f i
other_slip f s i x d = rw (ne_eqb i s d)

slip_kept : (f : ℕ → SlipState) (s : ℕ) (x : SlipState) → x ≡ f s → with_slip f s x ≡ f
slip_kept f s x e = fun_ext (λ i. ⊎_elim (λ (p : i ≡ s). same_slip f s i x p ∙ e ∙ sym (ap f p)) (λ (n : i ≢ s). other_slip f s i x n) (cases_eq i s))

unfoldable pub world : Machine → (ℕ → SlipState) → World
world m f = record { file = m; slips = f }

-- one reply

does_one : {U E X : Type 0} (refusal : Option E) (a : U) (before after x y : X) (r q : Result U E) → Does refusal a before after x r → Does refusal a before after y q → (r ≡ q) × (x ≡ y)
does_one refusal a before after x y (Ok u) (Ok v) p s = (ap Ok (p.1 ∙ sym s.1), p.2 ∙ sym s.2)
does_one refusal a before after x y (Ok u) (Err e) p s = absurd (some_none e (sym s.0 ∙ p.0))
does_one refusal a before after x y (Err e) (Ok u) p s = absurd (some_none e (sym p.0 ∙ s.0))
does_one refusal a before after x y (Err e) (Err f) p s = let h = sym p.0 ∙ s.0 in let g : e ≡ f = cc in (ap Err g, p.1 ∙ sym s.1)

reads_one : (m : Machine) (text : List ℕ) (x y : Machine) (r q : Result ℕ ReadFault) → Reads m text x r → Reads m text y q → (r ≡ q) × (x ≡ y)
reads_one m text x y (Ok k) (Ok j) p s = let h = sym p ∙ s in let e : k ≡ j = cc in let g : x ≡ y = cc in (ap Ok e, g)
reads_one m text x y (Ok k) (Err f) p s = let h = sym p ∙ s.0 in let z : ◌≡◌ {A = ℕ} 0 1 = cc in absurd (omega arith)
reads_one m text x y (Err f) (Ok k) p s = let h = sym s ∙ p.0 in let z : ◌≡◌ {A = ℕ} 0 1 = cc in absurd (omega arith)
reads_one m text x y (Err f) (Err g) p s = let h = sym p.0 ∙ s.0 in let e : f ≡ g = cc in (ap Err e, p.1 ∙ sym s.1)

one_reply : {w : World} {c : Call} {r : Reply} {y : World} {q : Reply} {z : World} → Happens w c r y → Happens w c q z → (r ≡ q) × (y ≡ z)
unfolding world
one_reply {w} (enters {ts = ts} {r = r} {m = m} p) (enters {r = q} {m = m'} p') =
    let x = does_one _ _ w.file (entered w.file ts) m m' r q p p' in (ap enter_said x.0, ap (λ (n : Machine). world n w.slips) x.1)
one_reply {w} (reads_in {text = text} {r = r} {m = m} p) (reads_in {r = q} {m = m'} p') =
    let x = reads_one w.file text m m' r q p p' in (ap read_said x.0, ap (λ (n : Machine). world n w.slips) x.1)
one_reply {w} (opens {s = s} a {r = r} {m = m} p) (opens b {r = q} {m = m'} p') =
    let x = does_one _ _ w.file (opened w.file) m m' r q p.0 p'.0 in
    let y = does_one _ _ (w.slips s) (filled w.file.number (length w.file.trials + 1)) a b r q p.1 p'.1 in
    (ap trial_said x.0, ap₂ (λ (n : Machine) (i : SlipState). world n (with_slip w.slips s i)) x.1 y.1)
one_reply {w} (closes {s = s} a {r = r} {m = m} p) (closes b {r = q} {m = m'} p') =
    let x = does_one _ _ w.file (closed w.file) m m' r q p.0 p'.0 in
    let y = does_one _ _ (w.slips s) blank a b r q p.1 p'.1 in
    (ap trial_said x.0, ap₂ (λ (n : Machine) (i : SlipState). world n (with_slip w.slips s i)) x.1 y.1)
one_reply {w} (settles {o = o} {rec = rec} {rec' = rec'} {sheet = sheet} {sheet' = sheet'} {memory = memory} {r = r} l k p) (settles {rec' = rec₂} {sheet' = sheet₂} {r = q} l' k' p') =
    let x = settled_alike w.file o rec (settle_refusal w.file o rec (length sheet) memory) sheet sheet r q rec' rec₂ sheet' sheet₂ p p' in
    ((λ i. settle_said (x.0 i) (x.1 i) (x.3 refl i)), refl)

pub alike_replies : {w : World} {c d : Call} {r : Reply} {y : World} {q : Reply} {z : World} → Like c d → Happens w c r y → Happens w d q z → Same w.file.variables r q × (y ≡ z)
alike_replies {w} {r = r} like_all h g = let x = one_reply h g in (subst (λ (a : Reply). Same w.file.variables r a) x.0 same_all, x.1)
alike_replies {w} (like_sheet {o = o} {rec = rec} {sheet = A} {sheet' = B} {memory = memory} e) (settles {rec' = rec'} {sheet' = A'} {r = r} l k p) (settles {rec' = rec₂} {sheet' = B'} {r = q} l' k' p') =
    let m = w.file in
    let x = settled_alike m o rec (settle_refusal m o rec (length A) memory) A B r q rec' rec₂ A' B' p (subst (λ (i : ℕ). Settled (settle_refusal m o rec i memory) m o rec B q rec₂ B') (sym e) p') in
    (as_one r q rec' rec₂ A' B' x.0 x.1 x.2, refl)
  where
    as_one : (r q : Result Answer Decline) (rec' rec₂ : RecordMeaning) (A' B' : List ℕ) → r ≡ q → rec' ≡ rec₂ → (r ≡ Ok Fits → take w.file.variables A' ≡ take w.file.variables B')
        → Same w.file.variables (settle_said r rec' A') (settle_said q rec₂ B')
    as_one r q rec' rec₂ A' B' er ec f = subst (λ (a : Reply). Same w.file.variables (settle_said r rec' A') a) (ap₂ (λ (x : Result Answer Decline) (y : RecordMeaning). settle_said x y B') er ec) (same_sheet f)

-- some reply

abbrev outcome_of : {U E : Type 0} → Option E → U → Result U E
outcome_of (Some e) u = Err e
outcome_of None u = Ok u

abbrev left_by : {E X : Type 0} → Option E → X → X → X
left_by (Some e) before after = before
left_by None before after = after

does_some : {U E X : Type 0} (refusal : Option E) (u : U) (before after : X) → Does refusal u before after (left_by refusal before after) (outcome_of refusal u)
does_some (Some e) u before after = (refl, refl)
does_some None u before after = (refl, refl, refl)

reads_some : (m : Machine) (text : List ℕ) (t : Reading) → reading m text ≡ t → (r : Result ℕ ReadFault) × (m' : Machine) × Reads m text m' r
reads_some m text (accepted k m') e = (Ok k, m', e)
reads_some m text (faulty f) e = (Err f, m, (e, refl))

some_reply : (w : World) → Limits w.file → (c : Call) → Handed c → (r : Reply) × (z : World) × Happens w c r z
some_reply w s (enter ts) h = (_, _, enters (does_some (enter_refusal w.file ts) (length w.file.clauses + 1) w.file (entered w.file ts)))
some_reply w s (read text) h = let x = reads_some w.file text (reading w.file text) refl in (read_said x.0, _, reads_in {r = x.0} {m = x.1} x.2)
some_reply w s (open_trial i) h =
    let f = open_refusal w.file (w.slips i) in
    (_, _, opens (left_by f (w.slips i) (filled w.file.number (length w.file.trials + 1))) (does_some f tt w.file (opened w.file), does_some f tt (w.slips i) (filled w.file.number (length w.file.trials + 1))))
some_reply w s (close_trial i) h =
    let f = close_refusal w.file (w.slips i) in
    (_, _, closes (left_by f (w.slips i) blank) (does_some f tt w.file (closed w.file), does_some f tt (w.slips i) blank))
some_reply w s (settle o rec sheet memory) h =
    let x = settle_answers w.file o rec sheet memory (limits_over w.file s) h.0 in
    (settle_said x.0 x.1 x.2, w, settles h.0 h.1 x.3)

-- what is declined

pub declined_stays : {w : World} {c : Call} {r : Reply} {z : World} → Happens w c r z → Declined r → z ≡ w
unfolding world
declined_stays (enters {r = Ok u} p) d = absurd d
declined_stays {w} (enters {r = Err e} p) d = ap (λ (n : Machine). world n w.slips) p.1
declined_stays (reads_in {r = Ok u} p) d = absurd d
declined_stays {w} (reads_in {r = Err e} p) d = ap (λ (n : Machine). world n w.slips) p.1
declined_stays (opens x {r = Ok u} p) d = absurd d
declined_stays {w} (opens {s = s} x {r = Err e} p) d = ap₂ world p.0.1 (slip_kept w.slips s x p.1.1)
declined_stays (closes x {r = Ok u} p) d = absurd d
declined_stays {w} (closes {s = s} x {r = Err e} p) d = ap₂ world p.0.1 (slip_kept w.slips s x p.1.1)
declined_stays (settles l k p) d = refl

module _ (w : World) (s : Limits w.file) where
  stays : (o : OrderMeaning) (rec rec' : RecordMeaning) (sheet sheet' memory : List ℕ) (r : Result Answer Decline) (z : World)
      → Happens w (settle o rec sheet memory) (settle_said r rec' sheet') z → r ≢ Ok Fits → sheet' ≡ sheet
  stays o rec rec' sheet sheet' memory r z (settles l k p) n = settled_stays w.file o rec (settle_refusal w.file o rec (length sheet) memory) sheet r rec' sheet' p n

  holds : (o : OrderMeaning) (rec rec' : RecordMeaning) (sheet sheet' memory : List ℕ) (d : Decline) (z : World)
      → Happens w (settle o rec sheet memory) (settle_said (Err d) rec' sheet') z → d ≢ RecordFull → rec' ≡ rec
  holds o rec rec' sheet sheet' memory d z (settles l k p) n = settled_record w.file o rec (settle_refusal w.file o rec (length sheet) memory) sheet d rec' sheet' p n

  fit : (o : OrderMeaning) (rec rec' : RecordMeaning) (sheet sheet' memory : List ℕ) (z : World)
      → Happens w (settle o rec sheet memory) (settle_said (Ok Fits) rec' sheet') z
      → Model (reads (take w.file.variables sheet')) w.file.clauses × Each (λ b. b ≤ 1) (take w.file.variables sheet')
      × (drop w.file.variables sheet' ≡ drop w.file.variables sheet)
  fit o rec rec' sheet sheet' memory z (settles l k p) =
      let q = settle_refusal w.file o rec (length sheet) memory in
      let b = settled_bits w.file o rec q sheet rec' sheet' p in
      (worth w.file o rec rec' sheet sheet' (limits_over w.file s) q (Ok Fits) p, b.0, b.1)

  unfit : (o : OrderMeaning) (rec rec' : RecordMeaning) (sheet sheet' memory : List ℕ) (ref : Reference) (z : World)
      → Happens w (settle o rec sheet memory) (settle_said (Ok (Cannot ref)) rec' sheet') z → (v : Valuation) → Model v w.file.clauses → ⊥
  unfit o rec rec' sheet sheet' memory ref z (settles l k p) =
      worth w.file o rec rec' sheet sheet' (limits_over w.file s) (settle_refusal w.file o rec (length sheet) memory) (Ok (Cannot ref)) p

  pub right : Right w
  right = record {
    some_reply = some_reply w s;
    one_reply = λ c r q y z h g. one_reply h g;
    declined = λ c r z h d. declined_stays h d;
    record_stays = holds;
    sheet_stays = stays;
    obeys = fit;
    none_obeys = unfit;
  }

  pub argued : Argued w
  argued o rec rec' sheet sheet' memory ref z (settles l k p) keeps =
      let x = settled_argued w.file o rec (settle_refusal w.file o rec (length sheet) memory) sheet rec' sheet' ref (limits_over w.file s) k (λ e. (not_refused w.file o rec (length sheet) memory e).1) p keeps in
      ((λ places h. argument_accepted w.file rec'.steps ref places s.started h x.argument), let b = x.bound in omega arith)
