-- What is known of the way to a setting, and how a branch from there goes on to the whole search.
use Rattle.std.proofs.Common.{◌≡◌, ℕ, zero, suc, ◌+◌, ◌<◌, ◌≤◌, List, [], ◌++◌, length, get_or, set, ℤ, pos, negsuc, sym, refl, ap, ◌∙◌, subst, append_assoc, append-nil, arith, length-append}
use Rattle.std.proofs.lemmas.List.{length-set, length-replicate, set-set, set-get_or}
use Rattle.model.specs.Clauses.{Clause, on, off, opposite, variable, Within, Over, Member, ◌∈◌}
use Rattle.model.specs.Search.{Setting, Reference, R, Step, AllFalse, UnitOn, SomeUnit, First, NoneOf, Undecided, Outcome, fits, fails, Chosen, put_entry, value, make_true, Lacks, passes, Branch, forced, on_ends, then_off}
use Rattle.model.specs.Arguments.{unset}
use Rattle.model.specs.Way.{Entry, Way, root, forced_here, on_here, off_here}
use Rattle.model.proofs.Values.{flipped_two, in_range, off_two}
use Rattle.model.proofs.Failing.{chosen_unset}
use Rattle.model.proofs.Bound.{vacant, vacant_true, vacant_unset}
use Rattle.model.proofs.Total.{Low, low_true, low_unset, member?, back_exists, ends_from}

-- what is unset is one of the variables
pub unset_within : (σ : Setting) (t : ℤ) → value σ t ≡ 2 → Within (length σ) t
unset_within σ (pos zero) e = omega arith
unset_within σ (pos (suc k)) e = let h = in_range σ k e in (omega arith, omega arith)
unset_within σ (negsuc k) e = let h = in_range σ k (flipped_two (get_or σ k 0) e) in (omega arith, omega arith)

pub length_true : (σ : Setting) (t : ℤ) → length (make_true σ t) ≡ length σ
length_true σ (pos zero) = refl
length_true σ (pos (suc k)) = length-set σ k 1
length_true σ (negsuc k) = length-set σ k 0

-- a literal that was unset is unset again
pub clear_true : (σ : Setting) (t : ℤ) → value σ t ≡ 2 → put_entry (make_true σ t) (variable t) 2 ≡ σ
clear_true σ (pos zero) e = refl
clear_true σ (pos (suc k)) e = set-set σ k 1 2 ∙ ap (set σ k) (sym e) ∙ set-get_or σ k 0
clear_true σ (negsuc k) e = set-set σ k 0 2 ∙ ap (set σ k) (sym (flipped_two (get_or σ k 0) e)) ∙ set-get_or σ k 0

module _ (F : List Clause) (order : List ℕ) (n : ℕ) where
  pub way_length : {T : List Entry} {σ : Setting} {done : List Step} → Way F order n T σ done → length σ ≡ n
  way_length root = length-replicate n 2
  way_length (forced_here {σ = σ} {t = t} w a b c) = length_true σ t ∙ way_length w
  way_length (on_here {σ = σ} {k = k} w u c) = length_true σ (on k) ∙ way_length w
  way_length (off_here {σ = σ} {k = k} w u c d e) = length_true σ (off k) ∙ way_length w

  pub way_low : {T : List Entry} {σ : Setting} {done : List Step} → Way F order n T σ done → Low σ
  way_low root = low_unset n
  way_low (forced_here {σ = σ} {t = t} w a b c) = low_true σ t (way_low w)
  way_low (on_here {σ = σ} {k = k} w u c) = low_true σ (on k) (way_low w)
  way_low (off_here {σ = σ} {k = k} w u c d e) = low_true σ (off k) (way_low w)

  one_fewer : (σ : Setting) (t : ℤ) (l : ℕ) → value σ t ≡ 2 → vacant σ + l ≡ n → vacant (make_true σ t) + suc l ≡ n
  one_fewer σ t l e h = let v = vacant_true σ t e in omega arith

  -- each entry set one variable
  pub way_vacant : {T : List Entry} {σ : Setting} {done : List Step} → Way F order n T σ done → vacant σ + length T ≡ n
  way_vacant root = let h = vacant_unset n in omega arith
  way_vacant (forced_here {T = T} {σ = σ} {t = t} w a b c) = one_fewer σ t (length T) c.1 (way_vacant w)
  way_vacant (on_here {T = T} {σ = σ} {k = k} w u c) = one_fewer σ (on k) (length T) (chosen_unset c) (way_vacant w)
  way_vacant (off_here {T = T} {σ = σ} {k = k} w u c d e) = one_fewer σ (off k) (length T) (off_two σ k (chosen_unset c)) (way_vacant w)

  -- an outcome that lacks the opposite of a literal comes back past it as it is
  pub forced_past : {σ : Setting} {m k : ℕ} {C : Clause} {t : ℤ} {ss : List Step} {out : Outcome} → NoneOf (AllFalse σ) F → First (SomeUnit σ) F k C → UnitOn σ t C
      → Branch F order (make_true σ t) m ss out → Lacks (opposite t) out → Branch F order σ m ss out
  forced_past {σ} {m} {ss = ss} {out = out} a f u b l = subst (λ (xs : List Step). Branch F order σ m xs out) (append-nil ss) (forced a f u b (passes l))

  pub off_past : {σ : Setting} {m k : ℕ} {C : Clause} {r : Reference} {ss us : List Step} {out : Outcome} → Undecided σ F → Chosen σ order k
      → Branch F order (make_true σ (on k)) m ss (fails r C) → off k ∈ C → Branch F order (make_true σ (off k)) (m + length ss) us out → Lacks (opposite (off k)) out
      → Branch F order σ m (ss ++ us) out
  off_past {σ} {m} {ss = ss} {us = us} {out = out} u c b h d l =
      subst (λ (xs : List Step). Branch F order σ m (ss ++ xs) out) (append-nil us) (then_off u c b h d (passes l))

  -- a branch that fits, from anywhere, is the whole search
  pub fits_out : {T : List Entry} {σ τ : Setting} {done : List Step} (ss : List Step) → Way F order n T σ done → Branch F order σ (length done) ss (fits τ)
      → Branch F order (unset n) 0 (done ++ ss) (fits τ)
  fits_out ss root b = b
  fits_out ss (forced_here w a f u) b = fits_out ss w (forced_past a f u b tt)
  fits_out ss (on_here w u c) b = fits_out ss w (on_ends u c b tt)
  fits_out {τ = τ} ss (off_here {σ = σ} {done = done} {ss = us} {k = k} w u c p h) b =
      let d = subst (λ (i : ℕ). Branch F order (make_true σ (off k)) i ss (fits τ)) (length-append done us) b in
      subst (λ (xs : List Step). Branch F order (unset n) 0 xs (fits τ)) (sym (append_assoc done us ss)) (fits_out (us ++ ss) w (off_past u c p h d tt))

  -- the whole search begins with these steps
  abbrev pub Whole : List Step → Type 0
  Whole ss = (more : List Step) × (out : Outcome) × Branch F order (unset n) 0 (ss ++ more) out

  whole_less : (xs ys zs : List Step) → Whole (xs ++ (ys ++ zs)) → Whole (xs ++ ys)
  whole_less xs ys zs (more, out, b) =
      let e : (xs ++ (ys ++ zs)) ++ more ≡ (xs ++ ys) ++ (zs ++ more) = simp append_assoc in
      (zs ++ more, out, subst (λ (vs : List Step). Branch F order (unset n) 0 vs out) e b)

  -- a branch that ended, from anywhere, goes on to the end of the search
  module _ (over : Over n F) (covers : (k : ℕ) → 0 < k → k ≤ n → Member k order) where
    pub finish : {T : List Entry} {σ : Setting} {done : List Step} (ss : List Step) (out : Outcome) → Way F order n T σ done → Branch F order σ (length done) ss out → Whole (done ++ ss)
    finish ss out root b = ([], out, subst (λ (vs : List Step). Branch F order (unset n) 0 vs out) (sym (append-nil ss)) b)
    finish ss out (forced_here {done = done} {k = k} {C = C} {t = t} w a f u) b =
        let x = back_exists t (R k) C (length done + length ss) out u.0 in
        whole_less done ss x.0 (finish (ss ++ x.0) x.1 w (forced a f u b x.2))
    finish ss out (on_here {σ = σ} {done = done} {k = k} w u c) b = at (λ xs o d. finish xs o w d) out b
      where
        turned : ((xs : List Step) (o : Outcome) → Branch F order σ (length done) xs o → Whole (done ++ xs)) → (r : Reference) (C : Clause) → Branch F order (make_true σ (on k)) (length done) ss (fails r C) → Dec (off k ∈ C) → Whole (done ++ ss)
        turned go r C b (no d) = go ss (fails r C) (on_ends u c b d)
        turned go r C b (yes d) =
            let y = ends_from n F order over covers (make_true σ (off k)) (length done + length ss) (low_true σ (off k) (way_low w)) in
            let z = back_exists (off k) r C (length done + length ss + length y.0) y.1 d in
            whole_less done ss (y.0 ++ z.0) (go (ss ++ (y.0 ++ z.0)) z.1 (then_off u c b d y.2 z.2))

        at : ((xs : List Step) (o : Outcome) → Branch F order σ (length done) xs o → Whole (done ++ xs)) → (o : Outcome) → Branch F order (make_true σ (on k)) (length done) ss o → Whole (done ++ ss)
        at go (fits τ) b = go ss (fits τ) (on_ends u c b tt)
        at go (fails r C) b = turned go r C b (member? (off k) C)
    finish ss out (off_here {σ = σ} {done = done} {ss = us} {k = k} {r = r} {C = C} w u c p h) b =
        let d = subst (λ (i : ℕ). Branch F order (make_true σ (off k)) i ss out) (length-append done us) b in
        let z = back_exists (off k) r C (length done + length us + length ss) out h in
        let e : (us ++ (ss ++ z.0)) ≡ (us ++ ss) ++ z.0 = sym (append_assoc us ss z.0) in
        let all = finish (us ++ (ss ++ z.0)) z.1 w (then_off u c p h d z.2) in
        let x = whole_less done (us ++ ss) z.0 (subst (λ (vs : List Step). Whole (done ++ vs)) e all) in
        subst (λ (vs : List Step). Whole vs) (sym (append_assoc done us ss)) x
