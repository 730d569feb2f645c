-- A file stays within its limits through every call.
use Rattle.std.proofs.Common.{◌≡◌, ℕ, zero, suc, ◌+◌, ◌-◌, ◌<◌, ◌≤◌, Bool, true, false, cond, List, [], ◌∷◌, ◌++◌, length, get_or, take, ℤ, None, Ok, Err, Option, Result, sym, refl, ap, ◌∙◌, subst, arith, length-take}
use Rattle.std.proofs.lemmas.List.{length_push}
use Rattle.model.specs.declared.ReadFault.{ReadFault}
use Rattle.model.specs.Clauses.{Clause, Each, Over, has}
use Rattle.model.specs.Machine.{Machine, fresh, Does, every, names, merged, literals, enter_refusal, entered, opened, closed}
use Rattle.model.specs.Reading.{Reads}
use Rattle.model.proofs.Calls.{enter_allowed}
use Rattle.model.proofs.Lists.{each_append, each_map}
use Rattle.model.proofs.Merging.{every_merged, merged_push, clauses_over}
use Rattle.texts.specs.Form.{TakesAll}
use Rattle.texts.specs.Laws.{Fair, Limits}
use Rattle.texts.proofs.Accepting.{there}
use Rattle.lives.specs.Lives.{World, Call, Reply, Happens, enters, reads_in, opens, closes, settles, Reached, began, went_on}

-- literals merged already stay as they are

merged_still : (seen ts : List ℤ) → merged [] seen ≡ seen → merged [] (merged seen ts) ≡ merged seen ts
merged_still seen [] e = e
merged_still seen (t ∷ ts) e = look (has seen t) refl (merged_still seen ts e) (merged_still (seen ++ (t ∷ [])) ts)
  where
    pushed : has seen t ≡ false → merged [] (seen ++ (t ∷ [])) ≡ seen ++ (t ∷ [])
    pushed h = merged_push [] seen t ∙ ap (λ (D : Clause). cond (has D t) D (D ++ (t ∷ []))) e ∙ ap (λ (b : Bool). cond b seen (seen ++ (t ∷ []))) h

    look : (b : Bool) → has seen t ≡ b → merged [] (merged seen ts) ≡ merged seen ts
        → (merged [] (seen ++ (t ∷ [])) ≡ seen ++ (t ∷ []) → merged [] (merged (seen ++ (t ∷ [])) ts) ≡ merged (seen ++ (t ∷ [])) ts)
        → merged [] (merged (cond b seen (seen ++ (t ∷ []))) ts) ≡ merged (cond b seen (seen ++ (t ∷ []))) ts
    look true h x f = x
    look false h x f = f (pushed h)

literals_push : (F : List Clause) (C : Clause) → literals (F ++ (C ∷ [])) ≡ literals F + length C
literals_push [] C = omega arith
literals_push (D ∷ F) C = let e = literals_push F C in omega arith

literals_first : (k : ℕ) (F : List Clause) → literals (take k F) ≤ literals F
literals_first zero F = omega arith
literals_first (suc k) [] = omega arith
literals_first (suc k) (D ∷ F) = let e = literals_first k F in omega arith

each_take : {A : Type 0} (P : A → Type 0) (k : ℕ) (xs : List A) → Each P xs → Each P (take k xs)
each_take P zero xs e = tt
each_take P (suc k) [] e = tt
each_take P (suc k) (x ∷ xs) e = (e.0, each_take P k xs e.1)

pub limits_over : (m : Machine) → Limits m → Over m.variables m.clauses
limits_over m s = clauses_over m.variables m.clauses (each_map (Fair m.variables) (λ C. every (names m.variables) C ≡ true) m.clauses (λ C f. f.named) s.fair)

pub fresh_limits : (n f : ℕ) → 0 < n → n ≤ 200 → Limits (fresh n f)
fresh_limits n f p q = record { started = p; variables = q; fair = tt; clauses = omega arith; literals = omega arith }

entered_limits : (m : Machine) (ts : List ℤ) → enter_refusal m ts ≡ None → Limits m → Limits (entered m ts)
entered_limits m ts e s =
    let a = enter_allowed m ts e in
    record {
      started = s.started;
      variables = s.variables;
      fair = each_append (Fair m.variables) m.clauses (merged [] ts ∷ []) s.fair (record { named = every_merged (names m.variables) [] ts refl a.named; different = merged_still [] ts refl; short = a.short }, tt);
      clauses = let l = length_push m.clauses (merged [] ts) in let f = a.few in omega arith;
      literals = let l = literals_push m.clauses (merged [] ts) in let r = a.room in omega arith;
    }

closed_limits : (m : Machine) → Limits m → Limits (closed m)
closed_limits m s =
    record {
      started = s.started;
      variables = s.variables;
      fair = each_take (Fair m.variables) mark m.clauses s.fair;
      clauses = let l = length-take mark m.clauses in let c = s.clauses in omega arith;
      literals = let l = literals_first mark m.clauses in let c = s.literals in omega arith;
    }
  where
    mark : ℕ
    mark = get_or m.trials (length m.trials - 1) 0

taken_limits : (m : Machine) (cs : List (List ℤ)) (m' : Machine) → TakesAll m cs m' → Limits m → Limits m'
taken_limits m [] m' e s = subst Limits e s
taken_limits m (c ∷ cs) m' t s = taken_limits (entered m c) cs m' t.1 (entered_limits m c t.0 s)

does_limits : {U E : Type 0} (refusal : Option E) (u : U) (m after now : Machine) (r : Result U E) → (refusal ≡ None → Limits after) → Limits m → Does refusal u m after now r → Limits now
does_limits refusal u m after now (Ok v) f s p = subst Limits (sym p.2) (f p.0)
does_limits refusal u m after now (Err d) f s p = subst Limits (sym p.1) s

reads_limits : (m : Machine) (text : List ℕ) (m' : Machine) (r : Result ℕ ReadFault) → Reads m text m' r → Limits m → Limits m'
reads_limits m text m' (Ok k) p s = let a = there m text k m' p in taken_limits m a.clauses m' a.taken s
reads_limits m text m' (Err f) p s = subst Limits (sym p.1) s

happens_limits : {w : World} {c : Call} {r : Reply} {z : World} → Happens w c r z → Limits w.file → Limits z.file
happens_limits {w} (enters {ts = ts} {r = r} {m = m} p) s = does_limits _ _ w.file (entered w.file ts) m r (λ e. entered_limits w.file ts e s) s p
happens_limits {w} (reads_in {text = text} {r = r} {m = m} p) s = reads_limits w.file text m r p s
happens_limits {w} (opens x {r = r} {m = m} p) s =
    does_limits _ _ w.file (opened w.file) m r (λ e. record { started = s.started; variables = s.variables; fair = s.fair; clauses = s.clauses; literals = s.literals }) s p.0
happens_limits {w} (closes x {r = r} {m = m} p) s = does_limits _ _ w.file (closed w.file) m r (λ e. closed_limits w.file s) s p.0
happens_limits (settles l k p) s = s

pub reached_limits : {m m' : Machine} → Limits m → Reached m m' → Limits m'
reached_limits s began = s
reached_limits s (went_on r h) = happens_limits h (reached_limits s r)
