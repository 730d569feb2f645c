-- The last entry of the trail, read off its mark, and a failed search with that setting taken back.
use Rattle.std.proofs.Common.{◌≡◌, ℕ, zero, suc, ◌≤◌, List, [], ◌∷◌, ◌++◌, length, ℤ, pos, negsuc, sym, refl, ap, ◌∙◌, subst, arith, length-append}
use Rattle.std.proofs.lemmas.List.{set-set}
use Rattle.model.specs.declared.Step.{Step}
use Rattle.model.specs.declared.Reference.{Reference}
use Rattle.model.specs.Clauses.{Clause, on, off, variable, ◌∈◌}
use Rattle.model.specs.Search.{Setting, put_entry, value, make_true, AllFalse, UnitOn, SomeUnit, First, NoneOf, Chosen, Undecided, fails, Branch}
use Rattle.model.specs.Way.{Entry, by_clause, on_side, off_side, Way, forced_here, on_here, off_here}
use Rattle.model.proofs.Ways.{clear_true}
use Rattle.clauses.specs.declared.Literal.{Literal}
use Rattle.clauses.specs.Sets.{code, Holds}
use Rattle.search.specs.declared.Why.{Why}
use Rattle.search.specs.declared.Why.TheVariants.{Clause as Forcing, On, Off}
use Rattle.search.specs.declared.Mark.{Mark}
use Rattle.search.specs.declared.Frame.{Frame}
use Rattle.search.specs.States.{Held}

-- lists that end alike

pub ends_alike : {A : Type 0} (xs ys : List A) (x y : A) → xs ++ (x ∷ []) ≡ ys ++ (y ∷ []) → (xs ≡ ys) × (x ≡ y)
ends_alike [] [] x y e = (refl, cc)
ends_alike {A} [] (z ∷ ys) x y e = absurd (let l : length (x ∷ []) ≡ length ((z ∷ ys) ++ (y ∷ [])) = ap length e in let k = length-append ys (y ∷ []) in omega arith)
ends_alike {A} (z ∷ xs) [] x y e = absurd (let l : length ((z ∷ xs) ++ (x ∷ [])) ≡ length (y ∷ []) = ap length e in let k = length-append xs (x ∷ []) in omega arith)
ends_alike (w ∷ xs) (z ∷ ys) x y e =
    let p : w ≡ z = cc in
    let q : xs ++ (x ∷ []) ≡ ys ++ (y ∷ []) = cc in
    let r = ends_alike xs ys x y q in
    let a = r.0 in
    (cc, r.1)

pub not_empty : {A : Type 0} (xs : List A) (x : A) → [] ≡ xs ++ (x ∷ []) → ⊥
not_empty xs x e = let l = ap length e ∙ length-append xs (x ∷ []) in omega arith

-- a literal that was set is unset again

pub unset_again : (l : Literal) (σ τ : Setting) (t : ℤ) → code l ≡ t → τ ≡ make_true σ t → value σ t ≡ 2 → put_entry τ (variable (code l)) 2 ≡ σ
unset_again l σ τ t e q two =
    ap (λ (u : ℤ). put_entry τ (variable u) 2) e ∙ ap (λ (ρ : Setting). put_entry ρ (variable t) 2) q ∙ clear_true σ t two

-- A variable that is set twice is as it was set last. The code that takes a setting back writes once; by these, a wrong second write is refused for what
-- it leaves, and not for being one.

put_twice : (σ : Setting) (v a b : ℕ) → put_entry (put_entry σ v a) v b ≡ put_entry σ v b
put_twice σ zero a b = refl
put_twice σ (suc k) a b = set-set σ k a b

true_entry : (σ : Setting) (t : ℤ) → (a : ℕ) × (make_true σ t ≡ put_entry σ (variable t) a)
true_entry σ (pos k) = (1, refl)
true_entry σ (negsuc k) = (0, refl)

pub put_over : (σ τ ρ : Setting) (v a b : ℕ) → τ ≡ put_entry σ v a → ρ ≡ put_entry τ v b → ρ ≡ put_entry σ v b
put_over σ τ ρ v a b e f = f ∙ (ap (λ (z : Setting). put_entry z v b) e ∙ put_twice σ v a b)

pub true_over : (σ τ ρ : Setting) (t : ℤ) (b : ℕ) → τ ≡ make_true σ t → ρ ≡ put_entry τ (variable t) b → ρ ≡ put_entry σ (variable t) b
true_over σ τ ρ t b e f = let a = true_entry σ t in put_over σ τ ρ (variable t) a.0 b (e ∙ a.1) f

-- what each kind of entry says of the way

pub record ByClause (F : List Clause) (order : List ℕ) (n : ℕ) (T : List Entry) (τ : Setting) (done : List Step) (t : ℤ) (k : ℕ) : Type 0 where
  pub σ : Setting
  pub C : Clause
  pub way : Way F order n T σ done
  pub none : NoneOf (AllFalse σ) F
  pub first : First (SomeUnit σ) F k C
  pub unit : UnitOn σ t C
  pub set_is : τ ≡ make_true σ t

pub record ByOn (F : List Clause) (order : List ℕ) (n : ℕ) (T : List Entry) (τ : Setting) (done : List Step) (k : ℕ) : Type 0 where
  pub σ : Setting
  pub way : Way F order n T σ done
  pub undecided : Undecided σ F
  pub chosen : Chosen σ order k
  pub set_is : τ ≡ make_true σ (on k)

pub record ByOff (F : List Clause) (order : List ℕ) (n : ℕ) (T : List Entry) (τ : Setting) (done : List Step) (k : ℕ) (r : Reference) (C : Clause) : Type 0 where
  pub σ : Setting
  pub before : List Step
  pub ss : List Step
  pub way : Way F order n T σ before
  pub undecided : Undecided σ F
  pub chosen : Chosen σ order k
  pub on_branch : Branch F order (make_true σ (on k)) (length before) ss (fails r C)
  pub speaks : off k ∈ C
  pub done_is : done ≡ before ++ ss
  pub set_is : τ ≡ make_true σ (off k)

module _ (F : List Clause) (order : List ℕ) (n : ℕ) where
  pub by_clause_way : (T : List Entry) (t : ℤ) (k : ℕ) {τ : Setting} {done : List Step} → Way F order n (by_clause t k ∷ T) τ done → ByClause F order n T τ done t k
  by_clause_way T t k (forced_here {σ = σ} {C = C} w a f u) = record { σ = σ; C = C; way = w; none = a; first = f; unit = u; set_is = refl }

  pub by_on_way : (T : List Entry) (k : ℕ) {τ : Setting} {done : List Step} → Way F order n (on_side k ∷ T) τ done → ByOn F order n T τ done k
  by_on_way T k (on_here {σ = σ} w u c) = record { σ = σ; way = w; undecided = u; chosen = c; set_is = refl }

  pub by_off_way : (T : List Entry) (k : ℕ) (r : Reference) (C : Clause) {τ : Setting} {done : List Step} → Way F order n (off_side k r C ∷ T) τ done → ByOff F order n T τ done k r C
  by_off_way T k r C (off_here {σ = σ} {done = before} {ss = ss} w u c b h) =
      record { σ = σ; before = before; ss = ss; way = w; undecided = u; chosen = c; on_branch = b; speaks = h; done_is = refl; set_is = refl }

-- the last mark is of one kind

clash_on_clause : (w : Why) (k : ℕ) → w ≡ On → w ≡ Forcing k → ⊥
clash_on_clause w k p q = let z : ◌≡◌ {A = ℕ} 0 1 = cc in omega arith

clash_off_clause : (w : Why) (k : ℕ) → w ≡ Off → w ≡ Forcing k → ⊥
clash_off_clause w k p q = let z : ◌≡◌ {A = ℕ} 0 1 = cc in omega arith

clash_on_off : (w : Why) → w ≡ On → w ≡ Off → ⊥
clash_on_off w p q = let z : ◌≡◌ {A = ℕ} 0 1 = cc in omega arith

pub record LastClause (F : List Clause) (order : List ℕ) (n : ℕ) (τ : Setting) (done : List Step) (rest : List Mark) (fs : List Frame) (x : Mark) (k : ℕ) : Type 0 where
  pub T : List Entry
  pub view : ByClause F order n T τ done (code x.literal) k
  pub held : Held T rest fs

pub record LastOn (F : List Clause) (order : List ℕ) (n : ℕ) (τ : Setting) (done : List Step) (rest : List Mark) (fs : List Frame) (x : Mark) : Type 0 where
  pub T : List Entry
  pub k : ℕ
  pub lit_is : code x.literal ≡ on k
  pub view : ByOn F order n T τ done k
  pub held : Held T rest fs

pub record LastOff (F : List Clause) (order : List ℕ) (n : ℕ) (τ : Setting) (done : List Step) (rest : List Mark) (fs : List Frame) (x : Mark) : Type 0 where
  pub T : List Entry
  pub k : ℕ
  pub r : Reference
  pub C : Clause
  pub low : List Frame
  pub f : Frame
  pub lit_is : code x.literal ≡ off k
  pub view : ByOff F order n T τ done k r C
  pub frames_is : fs ≡ low ++ (f ∷ [])
  pub by_is : f.by ≡ r
  pub holds : Holds f.clause C
  pub held : Held T rest low

module _ (F : List Clause) (order : List ℕ) (n : ℕ) (ms rest : List Mark) (fs : List Frame) (x : Mark) (last : ms ≡ rest ++ (x ∷ [])) where
  -- the mark of an entry is the one that was taken off
  same_mark : (low : List Mark) (m : Mark) → ms ≡ low ++ (m ∷ []) → (low ≡ rest) × (m ≡ x)
  same_mark low m e = ends_alike low rest m x (sym e ∙ last)

  pub last_clause : (T : List Entry) {τ : Setting} {done : List Step} (k : ℕ) → Way F order n T τ done → Held T ms fs → x.why ≡ Forcing k → LastClause F order n τ done rest fs x k
  last_clause [] k w h y = absurd (not_empty rest x (sym h.0 ∙ last))
  last_clause (by_clause t j ∷ T) {τ} {done} k w h y =
      let s = same_mark h.0 h.1 h.2 in
      let e : code x.literal ≡ t = ap (λ (m : Mark). code m.literal) (sym s.1) ∙ h.3 in
      let a : x.why ≡ Forcing j = ap (λ (m : Mark). m.why) (sym s.1) ∙ h.4 in
      let i : j ≡ k = cc in
      let v = by_clause_way F order n T t j w in
      record {
        T = T;
        view = subst (λ (u : ℤ). ByClause F order n T τ done u k) (sym e) (subst (λ (l : ℕ). ByClause F order n T τ done t l) i v);
        held = subst (λ (l : List Mark). Held T l fs) s.0 h.5;
      }
  last_clause (on_side j ∷ T) k w h y = absurd (clash_on_clause x.why k (ap (λ (m : Mark). m.why) (sym (same_mark h.0 h.1 h.2).1) ∙ h.4) y)
  last_clause (off_side j r C ∷ T) k w h y = absurd (clash_off_clause x.why k (ap (λ (m : Mark). m.why) (sym (same_mark h.0 h.1 h.2).1) ∙ h.4) y)

  pub last_on : (T : List Entry) {τ : Setting} {done : List Step} → Way F order n T τ done → Held T ms fs → x.why ≡ On → LastOn F order n τ done rest fs x
  last_on [] w h y = absurd (not_empty rest x (sym h.0 ∙ last))
  last_on (by_clause t j ∷ T) w h y = absurd (clash_on_clause x.why j y (ap (λ (m : Mark). m.why) (sym (same_mark h.0 h.1 h.2).1) ∙ h.4))
  last_on (on_side j ∷ T) w h y =
      let s = same_mark h.0 h.1 h.2 in
      record {
        T = T;
        k = j;
        lit_is = ap (λ (m : Mark). code m.literal) (sym s.1) ∙ h.3;
        view = by_on_way F order n T j w;
        held = subst (λ (l : List Mark). Held T l fs) s.0 h.5;
      }
  last_on (off_side j r C ∷ T) w h y = absurd (clash_on_off x.why y (ap (λ (m : Mark). m.why) (sym (same_mark h.0 h.1 h.2).1) ∙ h.4))

  pub last_off : (T : List Entry) {τ : Setting} {done : List Step} → Way F order n T τ done → Held T ms fs → x.why ≡ Off → LastOff F order n τ done rest fs x
  last_off [] w h y = absurd (not_empty rest x (sym h.0 ∙ last))
  last_off (by_clause t j ∷ T) w h y = absurd (clash_off_clause x.why j y (ap (λ (m : Mark). m.why) (sym (same_mark h.0 h.1 h.2).1) ∙ h.4))
  last_off (on_side j ∷ T) w h y = absurd (clash_on_off x.why (ap (λ (m : Mark). m.why) (sym (same_mark h.0 h.1 h.2).1) ∙ h.4) y)
  last_off (off_side j r C ∷ T) w h y =
      let s = same_mark h.0 h.1 h.2 in
      record {
        T = T;
        k = j;
        r = r;
        C = C;
        low = h.5;
        f = h.6;
        lit_is = ap (λ (m : Mark). code m.literal) (sym s.1) ∙ h.3;
        view = by_off_way F order n T j r C w;
        frames_is = h.7;
        by_is = h.8;
        holds = h.9;
        held = subst (λ (l : List Mark). Held T l h.5) s.0 h.10;
      }

-- how many there are

pub held_marks : (T : List Entry) (ms : List Mark) (fs : List Frame) → Held T ms fs → length ms ≡ length T
held_marks [] ms fs h = ap length h.0
held_marks (by_clause t k ∷ T) ms fs h = ap length h.2 ∙ length-append h.0 (h.1 ∷ []) ∙ (let e = held_marks T h.0 fs h.5 in omega arith)
held_marks (on_side k ∷ T) ms fs h = ap length h.2 ∙ length-append h.0 (h.1 ∷ []) ∙ (let e = held_marks T h.0 fs h.5 in omega arith)
held_marks (off_side k r C ∷ T) ms fs h = ap length h.2 ∙ length-append h.0 (h.1 ∷ []) ∙ (let e = held_marks T h.0 h.5 h.10 in omega arith)

pub held_frames : (T : List Entry) (ms : List Mark) (fs : List Frame) → Held T ms fs → length fs ≤ length T
held_frames [] ms fs h = let e = ap length h.1 in omega arith
held_frames (by_clause t k ∷ T) ms fs h = let e = held_frames T h.0 fs h.5 in omega arith
held_frames (on_side k ∷ T) ms fs h = let e = held_frames T h.0 fs h.5 in omega arith
held_frames (off_side k r C ∷ T) ms fs h = let e = held_frames T h.0 h.5 h.10 in let l = ap length h.7 ∙ length-append h.5 (h.6 ∷ []) in omega arith
