-- The search with one setting more, and its ends.
use Rattle.std.proofs.Common.{◌≡◌, ℕ, zero, suc, ◌<◌, ◌≤◌, ◌≢◌, ◌⊎◌, List, [], ◌∷◌, ◌++◌, length, get_or, ℤ, Some, None, Option, sym, refl, ap, ◌∙◌, subst, inl, inr, append-nil, arith}
use Rattle.std.specs.Option.{IsSome}
use Rattle.model.specs.declared.Step.{Step}
use Rattle.model.specs.declared.Reference.{Reference}
use Rattle.model.specs.declared.Reference.TheVariants.{R}
use Rattle.model.specs.Clauses.{Clause, on, variable, Member, Each, Over}
use Rattle.model.specs.Search.{Setting, entry, value, make_true, AllFalse, SomeTrue, First, Chosen, this, next, Undecided, fits, fails, Branch, conflict, satisfied}
use Rattle.model.specs.Arguments.{unset}
use Rattle.model.specs.Machine.{Machine}
use Rattle.model.specs.Settling.{RecordMeaning, OrderMeaning, Lists, Chooses}
use Rattle.model.specs.Way.{Entry, by_clause, on_side, Way, root, forced_here, on_here}
use Rattle.model.proofs.Failing.{chosen_unset}
use Rattle.model.proofs.Bound.{vacant_true}
use Rattle.model.proofs.Total.{unset_literal, entry_two, chosen_or_none}
use Rattle.model.proofs.Ways.{way_length, way_low, way_vacant, fits_out}
use Rattle.clauses.specs.declared.Literal.{Literal}
use Rattle.clauses.specs.Sets.{code, Holds}
use Rattle.scan.specs.declared.Scan.TheVariants.{Forced}
use Rattle.scan.specs.Tests.{Scanned}
use Rattle.search.specs.declared.Why.TheVariants.{Clause as Forcing, On}
use Rattle.search.specs.declared.Mark.{Mark}
use Rattle.search.specs.declared.Frame.{Frame}
use Rattle.search.specs.States.{Position, Run, Logged, Going, Stuck, Ended, weight}
use Rattle.search.proofs.Views.{held_marks}
use Rattle.search.proofs.Weights.{pushed_weight}
use Rattle.search.proofs.Logs.{logged_none}

all_set : {σ : Setting} {list : List ℕ} {k : ℕ} → Chosen σ list k → Each (λ j. entry σ j ≢ 2) list → ⊥
all_set (this e) n = n.0 e
all_set (next d c) n = all_set c n.1

-- where there is one to choose, one is chosen
pub chosen_some : (σ : Setting) (list : List ℕ) (k : ℕ) (o : Option ℕ) → Chosen σ list k → Chooses σ list o → IsSome o
chosen_some σ list k (Some j) c h = refl
chosen_some σ list k None c h = absurd (all_set c h)

-- variable 0 is never unset
pub chosen_low : (σ : Setting) (k : ℕ) → entry σ k ≡ 2 → 0 < k
chosen_low σ zero e = omega arith
chosen_low σ (suc k) e = omega arith

module _ (run : Run) (m : Machine) (rec : RecordMeaning) (p : Position) (g : Going run m rec p) where
  pub going_length : length p.settings ≡ m.variables
  going_length = way_length m.clauses run.order m.variables g.way

  pub going_low : (k : ℕ) → get_or p.settings k 0 ≤ 2
  going_low = way_low m.clauses run.order m.variables g.way

  -- where a literal is unset, there is a place left
  pub not_deep : (t : ℤ) → value p.settings t ≡ 2 → length p.marks < m.variables
  not_deep t e =
      let v = vacant_true p.settings t e in
      let w = way_vacant m.clauses run.order m.variables g.way in
      let h = held_marks g.entries p.marks p.frames g.held in
      omega arith

  -- the position with one literal more
  abbrev set_to : Mark → Position
  set_to x = record { settings = make_true p.settings (code x.literal); marks = p.marks ++ (x ∷ []); frames = p.frames; made = p.made }

  abbrev More : Position → Type 0
  More p' = Going run m rec p' × (weight m.variables p'.marks < weight m.variables p.marks)

  moved : (p' : Position) (x : Mark) → p' ≡ set_to x → value p.settings (code x.literal) ≡ 2 → Going run m rec (set_to x) → More p'
  moved p' x e two q = subst More (sym e) (q, pushed_weight m.variables p.marks x (not_deep (code x.literal) two))

  pub going_forced : (k : ℕ) (t : Literal) (p' : Position) → Scanned p.settings m.clauses (Forced k t) → p' ≡ set_to (record { literal = t; why = Forcing k }) → More p'
  going_forced k t p' (none, (C, (first, unit))) e =
      let x : Mark = record { literal = t; why = Forcing k } in
      moved p' x e unit.1 (record {
        entries = by_clause (code t) k ∷ g.entries;
        done = g.done;
        way = forced_here g.way none first unit;
        held = (p.marks, x, refl, refl, refl, g.held);
        logged = g.logged;
      })

  pub going_chosen : (k : ℕ) (t : Literal) (p' : Position) → Undecided p.settings m.clauses → code t ≡ on k → Chosen p.settings run.order k
      → p' ≡ set_to (record { literal = t; why = On }) → More p'
  going_chosen k t p' u lit c e =
      let x : Mark = record { literal = t; why = On } in
      let two : value p.settings (code t) ≡ 2 = ap (value p.settings) lit ∙ chosen_unset c in
      moved p' x e two (record {
        entries = on_side k ∷ g.entries;
        done = g.done;
        way = subst (λ (u : ℤ). Way m.clauses run.order m.variables (on_side k ∷ g.entries) (make_true p.settings u) g.done) (sym lit) (on_here g.way u c);
        held = (p.marks, x, refl, lit, refl, g.held);
        logged = g.logged;
      })

  -- a clause is false, so the search has failed with it
  pub going_stuck : (k : ℕ) (f : Frame) (C : Clause) → First (AllFalse p.settings) m.clauses k C → f.by ≡ R k → Holds f.clause C → Stuck run m rec p f
  going_stuck k f C h by holds = record {
    entries = g.entries;
    done = g.done;
    ss = [];
    D = C;
    way = g.way;
    held = g.held;
    branch = subst (λ (r : Reference). Branch m.clauses run.order p.settings (length g.done) [] (fails r C)) (sym by) (conflict h);
    holds = holds;
    logged = subst (λ (xs : List Step). Logged run rec p.made xs) (sym (append-nil g.done)) g.logged;
  }

  pub going_fits : Each (SomeTrue p.settings) m.clauses → Ended run m rec (fits p.settings)
  going_fits h = record {
    ss = g.done;
    branch = subst (λ (xs : List Step). Branch m.clauses run.order (unset m.variables) 0 xs (fits p.settings)) (append-nil g.done)
        (fits_out m.clauses run.order m.variables [] g.way (satisfied h));
    noted_is = g.logged.noted_is;
    all = g.logged.all;
  }

  -- where the order has to choose, it can
  pub choice_left : (o : OrderMeaning) → Lists o → o.size ≡ m.variables → Over m.variables m.clauses → Undecided p.settings m.clauses → (k : ℕ) × Chosen p.settings o.list k
  choice_left o l s over u = at (chosen_or_none p.settings o.list)
    where
      at : ((k : ℕ) × Chosen p.settings o.list k) ⊎ ((k : ℕ) → Member k o.list → entry p.settings k ≢ 2) → (k : ℕ) × Chosen p.settings o.list k
      at (inl c) = c
      at (inr n) =
          let x = unset_literal m.variables p.settings m.clauses over going_low u.no_conflict u.unfinished in
          absurd (n (variable x.0) (l.1 (variable x.0) x.1.0 (let h = x.1.1 in omega arith)) (entry_two p.settings x.0 x.2))

-- with nothing set, the search has ended

module _ (run : Run) (m : Machine) (rec : RecordMeaning) (p : Position) (f : Frame) where
  at_root : (T : List Entry) {σ : Setting} {done : List Step} (ss : List Step) (D : Clause) → length T ≡ 0 → Way m.clauses run.order m.variables T σ done
      → Branch m.clauses run.order σ (length done) ss (fails f.by D) → Logged run rec p.made (done ++ ss) → Ended run m rec (fails f.by D)
  at_root [] ss D z root b l = record { ss = ss; branch = b; noted_is = l.noted_is; all = l.all }
  at_root (x ∷ T) ss D z w b l = absurd (omega arith)

  pub stuck_root : Stuck run m rec p f → length p.marks ≡ 0 → (D : Clause) × Ended run m rec (fails f.by D)
  stuck_root s z = (s.D, at_root s.entries s.ss s.D (sym (held_marks s.entries p.marks p.frames s.held) ∙ z) s.way s.branch s.logged)

-- the search begins

pub going_start : (run : Run) (m : Machine) (rec : RecordMeaning) (p : Position) → rec ≡ run.before → p.settings ≡ unset m.variables → p.marks ≡ [] → p.frames ≡ [] → p.made ≡ 0 → Going run m rec p
going_start run m rec p r σ ms fs z = record {
  entries = [];
  done = [];
  way = subst (λ (x : Setting). Way m.clauses run.order m.variables [] x []) (sym σ) root;
  held = (ms, fs);
  logged = subst (λ (k : ℕ). Logged run rec k []) (sym z) (logged_none run rec r);
}
