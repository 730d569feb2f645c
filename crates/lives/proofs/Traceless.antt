-- A trial that was closed leaves no trace.
use Rattle.std.proofs.Common.{◌≡◌, ℕ, zero, suc, ◌+◌, ◌-◌, ◌<◌, ◌≤◌, min, ◌≢◌, ◌⊎◌, List, [], ◌∷◌, ◌++◌, length, take, ℤ, Ok, Err, Option, Result, sym, refl, ap, ◌∙◌, subst, ap₂, inl, inr, ⊎_elim, append_assoc, append-nil, arith, length-append, length-take}
use mathlib.Core.Path.{fun_ext}
use Rattle.std.proofs.lemmas.Bool.{cases_eq}
use Rattle.model.specs.declared.Decline.{Decline}
use Rattle.model.specs.declared.ReadFault.{ReadFault}
use Rattle.model.specs.Clauses.{Clause}
use Rattle.model.specs.Machine.{Machine, SlipState, blank, filled, Does, merged, entered, opened, closed}
use Rattle.model.specs.Reading.{Reads}
use Rattle.model.proofs.Calls.{open_allowed, close_allowed}
use Rattle.model.proofs.Trials.{Longer, same_longer, entry_longer, trial_leaves}
use Rattle.texts.specs.Form.{TakesAll}
use Rattle.texts.proofs.Accepting.{there}
use Rattle.lives.specs.Lives.{World, with_slip, Call, enter, read, open_trial, close_trial, settle, Reply, trial_said, Happens, enters, reads_in, opens, closes, settles, Event, Run, rests, goes, Trial, Like, Same, Pairs, NoTrace}
use Rattle.lives.proofs.Replies.{same_slip, other_slip, world, alike_replies, declined_stays}

filled_depth : (f g d e : ℕ) → filled f d ≡ filled g e → d ≡ e
filled_depth f g d e p = cc

blank_filled : (x : SlipState) (f d : ℕ) → x ≡ blank → x ≡ filled f d → ⊥
blank_filled x f d p q = let z : ◌≡◌ {A = ℕ} 0 1 = cc in omega arith

-- opening and closing, from the world where they happen

abbrev after_open : World → ℕ → World
after_open w s = record { file = opened w.file; slips = with_slip w.slips s (filled w.file.number (length w.file.trials + 1)) }

abbrev after_close : World → ℕ → World
after_close w s = record { file = closed w.file; slips = with_slip w.slips s blank }

open_is : {w : World} {s : ℕ} {z : World} → Happens w (open_trial s) (trial_said (Ok tt)) z → (w.slips s ≡ blank) × (z ≡ after_open w s)
unfolding world
open_is {w} {s} (opens x {m = m} p) = ((open_allowed w.file (w.slips s) p.0.0).is, ap₂ (λ (n : Machine) (i : SlipState). world n (with_slip w.slips s i)) p.0.2 p.1.2)

close_is : {w : World} {s : ℕ} {z : World} → Happens w (close_trial s) (trial_said (Ok tt)) z → (w.slips s ≡ filled w.file.number (length w.file.trials)) × (z ≡ after_close w s)
unfolding world
close_is {w} {s} (closes x {m = m} p) = ((close_allowed w.file (w.slips s) p.0.0).is, ap₂ (λ (n : Machine) (i : SlipState). world n (with_slip w.slips s i)) p.0.2 p.1.2)

abbrev opening : ℕ → Event
opening s = (open_trial s, trial_said (Ok tt))

abbrev closing : ℕ → Event
closing s = (close_trial s, trial_said (Ok tt))

abbrev call_of : Event → Call
call_of e = e.0

abbrev Plain : Event → Type 0
Plain e = ((s : ℕ) → e ≢ opening s) × ((s : ℕ) → e ≢ closing s)

-- each trial that is opened is closed, and no other
data Whole : List Event → Type 0 where
  nothing : Whole []
  plain : {e : Event} {es : List Event} → ((s : ℕ) → e ≢ opening s) → ((s : ℕ) → e ≢ closing s) → Whole es → Whole (e ∷ es)
  trial : (s u : ℕ) {mid es : List Event} → Whole mid → Whole es → Whole (opening s ∷ (mid ++ (closing u ∷ es)))

-- a world with more clauses

abbrev Grows : World → World → Type 0
Grows w z = Longer w.file z.file × (z.slips ≡ w.slips)

grows_same : (w z : World) → z ≡ w → Grows w z
grows_same w z e = (same_longer w.file z.file (ap (λ (x : World). x.file) e), ap (λ (x : World). x.slips) e)

pub longer_more : (a b c : Machine) → Longer a b → Longer b c → Longer a c
longer_more a b c p q = record {
  extra = p.extra ++ q.extra;
  variables = q.variables ∙ p.variables;
  number = q.number ∙ p.number;
  clauses = q.clauses ∙ ap (λ (F : List Clause). F ++ q.extra) p.clauses ∙ append_assoc a.clauses p.extra q.extra;
  trials = q.trials ∙ p.trials;
}

grows_more : (a b c : World) → Grows a b → Grows b c → Grows a c
grows_more a b c p q = (longer_more a.file b.file c.file p.0 q.0, q.1 ∙ p.1)

taken_longer : (m : Machine) (cs : List (List ℤ)) (m' : Machine) → TakesAll m cs m' → Longer m m'
taken_longer m [] m' e = same_longer m m' (sym e)
taken_longer m (c ∷ cs) m' t = longer_more m (entered m c) m' (record { extra = merged [] c ∷ []; variables = refl; number = refl; clauses = refl; trials = refl }) (taken_longer (entered m c) cs m' t.1)

pub reads_longer : (m : Machine) (text : List ℕ) (m' : Machine) (r : Result ℕ ReadFault) → Reads m text m' r → Longer m m'
reads_longer m text m' (Ok k) p = let a = there m text k m' p in taken_longer m a.clauses m' a.taken
reads_longer m text m' (Err f) p = same_longer m m' p.1

plain_grows : {w : World} {c : Call} {r : Reply} {z : World} → Happens w c r z → ((s : ℕ) → ◌≢◌ {A = Event} (c, r) (opening s)) → ((s : ℕ) → ◌≢◌ {A = Event} (c, r) (closing s)) → Grows w z
unfolding world
plain_grows {w} (enters {ts = ts} {r = r} {m = m} p) n k = (entry_longer w.file m ts r p, refl)
plain_grows {w} (reads_in {text = text} {r = r} {m = m} p) n k = (reads_longer w.file text m r p, refl)
plain_grows (opens {s = s} x {r = Ok u} p) n k = absurd (n s refl)
plain_grows {w} (opens {s = s} x {r = Err e} {m = m} p) n k = grows_same w _ (declined_stays {w = w} (opens {s = s} x {r = Err e} {m = m} p) tt)
plain_grows (closes {s = s} x {r = Ok u} p) n k = absurd (k s refl)
plain_grows {w} (closes {s = s} x {r = Err e} {m = m} p) n k = grows_same w _ (declined_stays {w = w} (closes {s = s} x {r = Err e} {m = m} p) tt)
plain_grows {w} (settles l k p) n j = grows_same w w refl

-- the slips with the file's number are those of the trials that stand, one for each

record Fair (w : World) : Type 0 where
  within : (i d : ℕ) → w.slips i ≡ filled w.file.number d → d ≤ length w.file.trials
  one : (i j d : ℕ) → w.slips i ≡ filled w.file.number d → w.slips j ≡ filled w.file.number d → i ≡ j

grown_fair : (w z : World) → Fair w → Grows w z → Fair z
grown_fair w z f g = record {
  within = λ i d e. let x = f.within i d (back i d e) in let l = ap length g.0.trials in omega arith;
  one = λ i j d e h. f.one i j d (back i d e) (back j d h);
}
  where
    back : (i d : ℕ) → z.slips i ≡ filled z.file.number d → w.slips i ≡ filled w.file.number d
    back i d e = sym (ap (λ (s : ℕ → SlipState). s i) g.1) ∙ e ∙ ap (λ (f : ℕ). filled f d) g.0.number

opened_fair : (w : World) (s : ℕ) → Fair w → Fair (after_open w s)
opened_fair w s f = record { within = within'; one = one' }
  where
    longer : length (w.file.trials ++ (length w.file.clauses ∷ [])) ≡ length w.file.trials + 1
    longer = length-append w.file.trials (length w.file.clauses ∷ [])

    at : (i d : ℕ) → with_slip w.slips s (filled w.file.number (length w.file.trials + 1)) i ≡ filled w.file.number d
        → ((i ≡ s) × (d ≡ length w.file.trials + 1)) ⊎ ((w.slips i ≡ filled w.file.number d) × (d ≤ length w.file.trials))
    at i d e =
        ⊎_elim
        (λ (p : i ≡ s). inl (p, filled_depth w.file.number w.file.number d (length w.file.trials + 1) (sym e ∙ same_slip w.slips s i (filled w.file.number (length w.file.trials + 1)) p)))
        (λ (n : i ≢ s). let o = sym (other_slip w.slips s i (filled w.file.number (length w.file.trials + 1)) n) ∙ e in inr (o, f.within i d o))
        (cases_eq i s)

    within' : (i d : ℕ) → with_slip w.slips s (filled w.file.number (length w.file.trials + 1)) i ≡ filled w.file.number d → d ≤ length (w.file.trials ++ (length w.file.clauses ∷ []))
    within' i d e = bounds (at i d e)
      where
        bounds : ((i ≡ s) × (d ≡ length w.file.trials + 1)) ⊎ ((w.slips i ≡ filled w.file.number d) × (d ≤ length w.file.trials)) → d ≤ length (w.file.trials ++ (length w.file.clauses ∷ []))
        bounds (inl p) = omega (arith, longer)
        bounds (inr p) = omega (arith, longer)

    one' : (i j d : ℕ) → with_slip w.slips s (filled w.file.number (length w.file.trials + 1)) i ≡ filled w.file.number d
        → with_slip w.slips s (filled w.file.number (length w.file.trials + 1)) j ≡ filled w.file.number d → i ≡ j
    one' i j d e g = both (at i d e) (at j d g)
      where
        both : ((i ≡ s) × (d ≡ length w.file.trials + 1)) ⊎ ((w.slips i ≡ filled w.file.number d) × (d ≤ length w.file.trials))
            → ((j ≡ s) × (d ≡ length w.file.trials + 1)) ⊎ ((w.slips j ≡ filled w.file.number d) × (d ≤ length w.file.trials)) → i ≡ j
        both (inl p) (inl q) = omega arith
        both (inl p) (inr q) = omega arith
        both (inr p) (inl q) = omega arith
        both (inr p) (inr q) = f.one i j d p.0 q.0

closed_fair : (w : World) (s : ℕ) → w.slips s ≡ filled w.file.number (length w.file.trials) → Fair w → Fair (after_close w s)
closed_fair w s es f = record { within = λ i d e. (at i d e).1; one = λ i j d e g. f.one i j d (at i d e).0 (at j d g).0 }
  where
    shorter : length (take (length w.file.trials - 1) w.file.trials) ≡ min (length w.file.trials - 1) (length w.file.trials)
    shorter = length-take (length w.file.trials - 1) w.file.trials

    at : (i d : ℕ) → with_slip w.slips s blank i ≡ filled w.file.number d → (w.slips i ≡ filled w.file.number d) × (d ≤ length (take (length w.file.trials - 1) w.file.trials))
    at i d e =
        ⊎_elim
        (λ (p : i ≡ s). absurd (blank_filled (with_slip w.slips s blank i) w.file.number d (same_slip w.slips s i blank p) e))
        (λ (n : i ≢ s).
        let o : w.slips i ≡ filled w.file.number d = sym (other_slip w.slips s i blank n) ∙ e in
        let b : d ≤ length w.file.trials = f.within i d o in
        let k : d ≢ length w.file.trials = λ q. n (f.one i s (length w.file.trials) (rw q at o) es) in
        (o, omega (arith, shorter)))
        (cases_eq i s)

happens_fair : {w : World} {c : Call} {r : Reply} {z : World} → Happens w c r z → Fair w → Fair z
happens_fair {w} (enters {ts = ts} {r = r} {m = m} p) f = grown_fair w _ f (plain_grows {w = w} (enters {ts = ts} {r = r} {m = m} p) (λ s e. let q : enter ts ≡ open_trial s = ap call_of e in let z : ◌≡◌ {A = ℕ} 0 1 = cc in omega arith) (λ s e. let q : enter ts ≡ close_trial s = ap call_of e in let z : ◌≡◌ {A = ℕ} 0 1 = cc in omega arith))
happens_fair {w} (reads_in {text = text} {r = r} {m = m} p) f = grown_fair w _ f (plain_grows {w = w} (reads_in {text = text} {r = r} {m = m} p) (λ s e. let q : read text ≡ open_trial s = ap call_of e in let z : ◌≡◌ {A = ℕ} 0 1 = cc in omega arith) (λ s e. let q : read text ≡ close_trial s = ap call_of e in let z : ◌≡◌ {A = ℕ} 0 1 = cc in omega arith))
happens_fair {w} (opens {s = s} x {r = Ok u} {m = m} p) f = subst Fair (sym (open_is {w = w} (opens {s = s} x {r = Ok u} {m = m} p)).1) (opened_fair w s f)
happens_fair {w} (opens {s = s} x {r = Err e} {m = m} p) f = subst Fair (sym (declined_stays {w = w} (opens {s = s} x {r = Err e} {m = m} p) tt)) f
happens_fair {w} (closes {s = s} x {r = Ok u} {m = m} p) f = let c = close_is {w = w} (closes {s = s} x {r = Ok u} {m = m} p) in subst Fair (sym c.1) (closed_fair w s c.0 f)
happens_fair {w} (closes {s = s} x {r = Err e} {m = m} p) f = subst Fair (sym (declined_stays {w = w} (closes {s = s} x {r = Err e} {m = m} p) tt)) f
happens_fair (settles l k p) f = f

-- runs

run_fair : {w : World} {es : List Event} {z : World} → Run w es z → Fair w → Fair z
run_fair rests f = f
run_fair (goes h r) f = run_fair r (happens_fair h f)

pub run_join : {a : World} {es : List Event} {b : World} {fs : List Event} {c : World} → Run a es b → Run b fs c → Run a (es ++ fs) c
run_join rests r = r
run_join (goes h q) r = goes h (run_join q r)

run_split : (es : List Event) {fs : List Event} {a c : World} → Run a (es ++ fs) c → (b : World) × Run a es b × Run b fs c
run_split [] {a = a} r = (a, rests, r)
run_split (e ∷ es) (goes h r) = let x = run_split es r in (x.0, goes h x.1, x.2)

run_head : {a : World} {c : Call} {r : Reply} {es : List Event} {z : World} → Run a ((c, r) ∷ es) z → (b : World) × Happens a c r b × Run b es z
run_head (goes {y = b} h r) = (b, h, r)

-- the close gives back the world at the open

dropped : (a b : World) (s u : ℕ) → Fair a → a.slips s ≡ blank → Grows (after_open a s) b → b.slips u ≡ filled b.file.number (length b.file.trials) → after_close b u ≡ a
unfolding world
dropped a b s u f e g es = ap₂ world (trial_leaves a.file b.file g.0) (fun_ext slips_same)
  where
    deep : length b.file.trials ≡ length a.file.trials + 1
    deep = ap length g.0.trials ∙ length-append a.file.trials (length a.file.clauses ∷ [])

    there_too : (i : ℕ) → b.slips i ≡ with_slip a.slips s (filled a.file.number (length a.file.trials + 1)) i
    there_too i = ap (λ (x : ℕ → SlipState). x i) g.1

    s_is : u ≡ s
    s_is =
        ⊎_elim
        (λ (p : u ≡ s). p)
        (λ (n : u ≢ s).
        let o : a.slips u ≡ filled a.file.number (length b.file.trials) =
        sym (other_slip a.slips s u (filled a.file.number (length a.file.trials + 1)) n) ∙ sym (there_too u) ∙ es ∙ ap (λ (x : ℕ). filled x (length b.file.trials)) g.0.number in
        let x = f.within u (length b.file.trials) o in
        absurd (omega (arith, deep)))
        (cases_eq u s)

    slips_same : (i : ℕ) → with_slip b.slips u blank i ≡ a.slips i
    slips_same i =
        ⊎_elim
        (λ (p : i ≡ u). same_slip b.slips u i blank p ∙ sym (ap a.slips (p ∙ s_is) ∙ e))
        (λ (n : i ≢ u). other_slip b.slips u i blank n ∙ there_too i ∙ other_slip a.slips s i (filled a.file.number (length a.file.trials + 1)) (λ p. n (p ∙ sym s_is)))
        (cases_eq i u)

undone : (a z : World) (s u : ℕ) (mid : List Event) {after : List Event} → Fair a → ((b : World) → Fair (after_open a s) → Run (after_open a s) mid b → Grows (after_open a s) b)
    → Run a (opening s ∷ (mid ++ (closing u ∷ after))) z → Run a after z
undone a z s u mid {after} f w r =
    let h = run_head r in
    let o = open_is h.1 in
    let q = run_split mid (subst (λ (y : World). Run y (mid ++ (closing u ∷ after)) z) o.1 h.2) in
    let g = w q.0 (opened_fair a s f) q.1 in
    let k = run_head q.2 in
    let c = close_is k.1 in
    subst (λ (y : World). Run y after z) (c.1 ∙ dropped a q.0 s u f o.0 g c.0) k.2

whole_grows : {es : List Event} → Whole es → (a z : World) → Fair a → Run a es z → Grows a z
whole_grows nothing a z f rests = grows_same a a refl
whole_grows (plain n k w) a z f (goes {y = b} h r) = grows_more a b z (plain_grows h n k) (whole_grows w b z (happens_fair h f) r)
whole_grows (trial s u {mid = mid} w w') a z f r = whole_grows w' a z f (undone a z s u mid f (λ b g q. whole_grows w (after_open a s) b g q) r)

-- what goes on while a trial stands is whole

-- j trials that stood before are closed
data Falls : ℕ → List Event → Type 0 where
  level : {es : List Event} → Whole es → Falls 0 es
  fall : {j : ℕ} (u : ℕ) {es fs : List Event} → Whole es → Falls j fs → Falls (suc j) (es ++ (closing u ∷ fs))

falls_plain : {e : Event} {j : ℕ} {es : List Event} → Plain e → Falls j es → Falls j (e ∷ es)
falls_plain p (level w) = level (plain p.0 p.1 w)
falls_plain p (fall u w f) = fall u (plain p.0 p.1 w) f

after_trial : (s u : ℕ) {mid : List Event} {j : ℕ} {es : List Event} → Whole mid → Falls j es → Falls j (opening s ∷ (mid ++ (closing u ∷ es)))
after_trial s u w (level v) = level (trial s u w v)
after_trial s u {mid} w (fall {j = j} t {es = es} {fs = fs} v f) =
    subst (Falls (suc j)) (ap (λ (l : List Event). opening s ∷ l) (append_assoc mid (closing u ∷ es) (closing t ∷ fs))) (fall t (trial s u w v) f)

falls_open : (s j : ℕ) {i : ℕ} {es : List Event} → Falls i es → i ≡ suc j → Falls j (opening s ∷ es)
falls_open s j (level w) e = absurd (omega arith)
falls_open s j (fall {j = i} u {es = es} {fs = fs} w f) e = let q : i ≡ j = omega arith in subst (λ (k : ℕ). Falls k (opening s ∷ (es ++ (closing u ∷ fs)))) q (after_trial s u w f)

abbrev count : World → ℕ
count w = length w.file.trials

-- what a call does to the count of trials
abbrev Kind : World → Event → World → Type 0
Kind w e z = (Plain e × (count z ≡ count w)) ⊎ (((s : ℕ) × (e ≡ opening s) × (count z ≡ count w + 1)) ⊎ ((s : ℕ) × (e ≡ closing s) × (count z ≡ count w - 1)))

grows_count : (w z : World) → Grows w z → count z ≡ count w
grows_count w z g = ap length g.0.trials

by_plain : {w : World} {c : Call} {r : Reply} {z : World} → Happens w c r z → ((s : ℕ) → ◌≢◌ {A = Event} (c, r) (opening s)) → ((s : ℕ) → ◌≢◌ {A = Event} (c, r) (closing s)) → Kind w (c, r) z
by_plain {w} {z = z} h n k = inl ((n, k), grows_count w z (plain_grows h n k))

said_err : (c : Call) (s : ℕ) (e : Decline) (d : Call) → ◌≡◌ {A = Event} (c, trial_said (Err e)) (d, trial_said (Ok tt)) → ⊥
said_err c s e d p = let q : trial_said (Err e) ≡ trial_said (Ok tt) = ap (λ (x : Event). x.1) p in let z : ◌≡◌ {A = ℕ} 0 1 = cc in omega arith

kind : {w : World} {c : Call} {r : Reply} {z : World} → Happens w c r z → Kind w (c, r) z
kind {w} (enters {ts = ts} {r = r} {m = m} p) =
    by_plain {w = w} (enters {ts = ts} {r = r} {m = m} p) (λ s e. let q : enter ts ≡ open_trial s = ap call_of e in let z : ◌≡◌ {A = ℕ} 0 1 = cc in omega arith) (λ s e. let q : enter ts ≡ close_trial s = ap call_of e in let z : ◌≡◌ {A = ℕ} 0 1 = cc in omega arith)
kind {w} (reads_in {text = text} {r = r} {m = m} p) =
    by_plain {w = w} (reads_in {text = text} {r = r} {m = m} p) (λ s e. let q : read text ≡ open_trial s = ap call_of e in let z : ◌≡◌ {A = ℕ} 0 1 = cc in omega arith) (λ s e. let q : read text ≡ close_trial s = ap call_of e in let z : ◌≡◌ {A = ℕ} 0 1 = cc in omega arith)
kind {w} (opens {s = s} x {r = Ok u} {m = m} p) = inr (inl (s, refl, ap (λ (y : Machine). length y.trials) p.0.2 ∙ length-append w.file.trials (length w.file.clauses ∷ [])))
kind {w} (opens {s = s} x {r = Err e} {m = m} p) = by_plain {w = w} (opens {s = s} x {r = Err e} {m = m} p) (λ i q. said_err (open_trial s) s e (open_trial i) q) (λ i q. said_err (open_trial s) s e (close_trial i) q)
kind {w} (closes {s = s} x {r = Ok u} {m = m} p) =
    let l = length-take (length w.file.trials - 1) w.file.trials in
    let k : min (length w.file.trials - 1) (length w.file.trials) ≡ length w.file.trials - 1 = omega arith in
    inr (inr (s, refl, ap (λ (y : Machine). length y.trials) p.0.2 ∙ l ∙ k))
kind {w} (closes {s = s} x {r = Err e} {m = m} p) = by_plain {w = w} (closes {s = s} x {r = Err e} {m = m} p) (λ i q. said_err (close_trial s) s e (open_trial i) q) (λ i q. said_err (close_trial s) s e (close_trial i) q)
kind {w} (settles {o = o} {rec = rec} {sheet = sheet} {memory = memory} l k p) = by_plain {w = w} (settles l k p) (λ s e. let q : settle o rec sheet memory ≡ open_trial s = ap call_of e in let z : ◌≡◌ {A = ℕ} 0 1 = cc in omega arith) (λ s e. let q : settle o rec sheet memory ≡ close_trial s = ap call_of e in let z : ◌≡◌ {A = ℕ} 0 1 = cc in omega arith)

abbrev Stays : ℕ → World → List Event → Type 0
Stays k w es = (fs gs : List Event) (v : World) → es ≡ fs ++ gs → Run w fs v → k ≤ count v

next_kind : (k j : ℕ) (w y : World) (e : Event) (es : List Event) → 0 < k → count w ≡ k + j → k ≤ count y → ((i : ℕ) → count y ≡ k + i → Falls i es) → Kind w e y → Falls j (e ∷ es)
next_kind k j w y e es pos n m f (inl p) = falls_plain p.0 (f j (p.1 ∙ n))
next_kind k j w y e es pos n m f (inr (inl p)) =
    let c = p.2 in subst (λ (x : Event). Falls j (x ∷ es)) (sym p.1) (falls_open p.0 j (f (suc j) (omega arith)) refl)
next_kind k zero w y e es pos n m f (inr (inr p)) = let c = p.2 in absurd (omega arith)
next_kind k (suc j) w y e es pos n m f (inr (inr p)) =
    let c = p.2 in subst (λ (x : Event). Falls (suc j) (x ∷ es)) (sym p.1) (fall p.0 nothing (f j (omega arith)))

falling : (k : ℕ) → 0 < k → {w : World} {es : List Event} {z : World} → Run w es z → (j : ℕ) → count w ≡ k + j → count z ≡ k → Stays k w es → Falls j es
falling k pos rests j n e m = let q : 0 ≡ j = omega arith in subst (λ (i : ℕ). Falls i []) q (level nothing)
falling k pos (goes {w = w} {y = y} {c = c} {r = a} {es = es} h r) j n e m =
    next_kind k j w y (c, a) es pos n (m ((c, a) ∷ []) es y refl (goes h rests))
    (λ i q. falling k pos r i q e (λ fs gs v p s. m ((c, a) ∷ fs) gs v (ap (λ (l : List Event). (c, a) ∷ l) p) (goes h s))) (kind h)

falls_whole : {j : ℕ} {es : List Event} → Falls j es → j ≡ 0 → Whole es
falls_whole (level w) e = w
falls_whole (fall u w f) e = absurd (omega arith)

between_whole : (a d : World) (t : Trial a d) → Whole t.between
between_whole a d t = falls_whole (falling k (omega arith) t.goes_on 0 start end (λ fs gs v e r. t.stands fs gs v e r)) refl
  where
    k : ℕ
    k = suc (count a)

    start : count t.after_open ≡ suc (count a) + 0
    start = let c = ap count (open_is t.opens_it).1 in let l = length-append a.file.trials (length a.file.clauses ∷ []) in omega arith

    end : count t.before_close ≡ suc (count a)
    end =
        let c = ap count (close_is t.closes_it).1 in
        let l = length-take (length t.before_close.file.trials - 1) t.before_close.file.trials in
        let s = t.stands t.between [] t.before_close (sym (append-nil t.between)) t.goes_on in
        let e = t.drops_it in
        omega arith

pub left_out : (w a d z : World) (before after : List Event) → ((i place : ℕ) → w.slips i ≢ filled w.file.number place) → Run w before a → Trial a d → Run d after z → Run w (before ++ after) z
left_out w a d z before after none b t r =
    let f : Fair w = record { within = λ i p e. absurd (none i p e); one = λ i j p e g. absurd (none i p e) } in
    let v = between_whole a d t in
    run_join b (undone a z t.slip_opened t.slip_closed t.between (run_fair b f) (λ x g q. whole_grows v (after_open a t.slip_opened) x g q)
    (goes t.opens_it (run_join t.goes_on (goes t.closes_it r))))

-- two lives that are handed the same

does_variables : {U E : Type 0} (refusal : Option E) (a : U) (m after now : Machine) (r : Result U E) → after.variables ≡ m.variables → Does refusal a m after now r → now.variables ≡ m.variables
does_variables refusal a m after now (Ok u) e p = ap (λ (x : Machine). x.variables) p.2 ∙ e
does_variables refusal a m after now (Err d) e p = ap (λ (x : Machine). x.variables) p.1

happens_variables : {w : World} {c : Call} {r : Reply} {z : World} → Happens w c r z → z.file.variables ≡ w.file.variables
happens_variables {w} (enters {ts = ts} {r = r} {m = m} p) = does_variables _ _ w.file (entered w.file ts) m r refl p
happens_variables {w} (reads_in {text = text} {r = r} {m = m} p) = (reads_longer w.file text m r p).variables
happens_variables {w} (opens x {r = r} {m = m} p) = does_variables _ _ w.file (opened w.file) m r refl p.0
happens_variables {w} (closes x {r = r} {m = m} p) = does_variables _ _ w.file (closed w.file) m r refl p.0
happens_variables (settles l k p) = refl

pub alike_runs : (n : ℕ) {w : World} {es : List Event} {y : World} {fs : List Event} {z : World} → w.file.variables ≡ n → Run w es y → Run w fs z → Pairs (λ d e. Like d.0 e.0) es fs
    → Pairs (λ d e. Same n d.1 e.1) es fs × (y ≡ z)
alike_runs n o rests rests p = (tt, refl)
alike_runs n o rests (goes g q) p = absurd p
alike_runs n o (goes h r) rests p = absurd p
alike_runs n {z = z} o (goes {r = a} h r) (goes {r = b} {es = fs} g q) p =
    let x = alike_replies p.0 h g in
    let i = alike_runs n (happens_variables h ∙ o) r (subst (λ (v : World). Run v fs z) (sym x.1) q) p.1 in
    ((subst (λ (k : ℕ). Same k a b) o x.0, i.0), i.1)

pub no_trace : (m : Machine) → NoTrace m
no_trace m slips before after others a d y z none b t r q l = alike_runs m.variables refl q (left_out (record { file = m; slips = slips }) a d z before after none b t r) l
