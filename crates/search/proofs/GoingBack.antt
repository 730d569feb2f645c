-- A failed search with its last setting taken back.
use Rattle.std.proofs.Common.{◌≡◌, ℕ, ◌+◌, ◌<◌, ◌≤◌, List, [], ◌∷◌, ◌++◌, length, ℤ, Some, Ok, Err, Result, sym, refl, ap, ◌∙◌, subst, append_assoc, arith, length-append}
use Rattle.std.proofs.lemmas.Bool.{false≢true}
use Rattle.model.specs.declared.Step.{Step}
use Rattle.model.specs.declared.Reference.{Reference}
use Rattle.model.specs.declared.Reference.TheVariants.{R}
use Rattle.model.specs.declared.Decline.{Decline}
use Rattle.model.specs.declared.Decline.TheVariants.{RecordFull}
use Rattle.model.specs.Clauses.{Clause, on, off, opposite, variable, Within, ◌∈◌}
use Rattle.model.specs.Search.{Setting, put_entry, make_true, fails, Outcome, Back, Branch, forced, on_ends, then_off}
use Rattle.model.specs.Machine.{Machine, clause_at}
use Rattle.model.specs.Settling.{RecordMeaning, noted}
use Rattle.model.specs.Way.{off_side, Way, off_here}
use Rattle.model.proofs.Values.{off_two}
use Rattle.model.proofs.Failing.{chosen_unset}
use Rattle.model.proofs.Numbered.{first_numbered}
use Rattle.model.proofs.Ways.{unset_within, way_length, way_vacant}
use Rattle.clauses.specs.declared.Literal.{Literal}
use Rattle.clauses.specs.Sets.{code, member, Holds}
use Rattle.clauses.proofs.Members.{code_index}
use Rattle.search.specs.declared.Why.{Why}
use Rattle.search.specs.declared.Why.TheVariants.{Clause as Forcing, On, Off}
use Rattle.search.specs.declared.Mark.{Mark}
use Rattle.search.specs.declared.Frame.{Frame}
use Rattle.search.specs.declared.Turn.{Turn}
use Rattle.search.specs.declared.Turn.TheVariants.{Failing, Turned}
use Rattle.search.specs.States.{Position, Run, Held, Logged, Going, Stuck, Halted, Past, AtChoice, Stepped, heavy}
use Rattle.search.proofs.Backs.{came, refused}
use Rattle.search.proofs.Views.{LastOff, unset_again, last_clause, last_on, last_off, held_marks, held_frames, ends_alike}
use Rattle.search.proofs.Weights.{lighter, turned_weight}

-- the position with the last mark taken off, and its variable unset
abbrev pub back_to : Position → List Mark → List Frame → Literal → ℕ → Position
back_to p rest fs l count = record { settings = put_entry p.settings (variable (code l)) 2; marks = rest; frames = fs; made = count }

-- what one setting taken back answers, of what the clause past it did
abbrev pub after : Result (Unit {0}) Decline → Result Turn Decline
after (Ok _) = Ok Failing
after (Err d) = Err d

module _ (run : Run) (m : Machine) (rec : RecordMeaning) (p : Position) (f : Frame) (s : Stuck run m rec p f) (rest : List Mark) (x : Mark) (last : p.marks ≡ rest ++ (x ∷ [])) where
  abbrev F : List Clause
  F = m.clauses

  abbrev n : ℕ
  n = m.variables

  abbrev order : List ℕ
  order = run.order

  -- there is one entry at least for each mark, and a variable for each entry
  pub marks_low : length p.marks ≤ n
  marks_low = let a = held_marks s.entries p.marks p.frames s.held in let b = way_vacant F order n s.way in omega arith

  -- forced by a clause

  module _ (k : ℕ) (why : x.why ≡ Forcing k) where
    abbrev t : ℤ
    t = code x.literal

    pub clause_there : (C : Clause) × (clause_at F k ≡ Some C)
    clause_there = let v = (last_clause F order n p.marks rest p.frames x last s.entries k s.way s.held why).view in (v.C, first_numbered v.first)

    clause_index : x.literal.index < n
    clause_index =
        let v = (last_clause F order n p.marks rest p.frames x last s.entries k s.way s.held why).view in
        code_index x.literal n (subst (λ (i : ℕ). Within i t) (way_length F order n v.way) (unset_within v.σ t v.unit.1))

    module _ (setter : Frame) (by : setter.by ≡ R k) (holds : (C : Clause) → clause_at F k ≡ Some C → Holds setter.clause C) (f' : Frame) (count' : ℕ) (rec' : RecordMeaning) where
      past_clause : Past t setter f p.made rec f' count' rec' (Ok tt) → Stuck run m rec' (back_to p rest p.frames x.literal count') f'
      past_clause q =
          let y = last_clause F order n p.marks rest p.frames x last s.entries k s.way s.held why in
          let v = y.view in
          let e : put_entry p.settings (variable (code x.literal)) 2 ≡ v.σ = unset_again x.literal v.σ p.settings t refl v.set_is v.unit.1 in
          let c = came run t setter f v.C s.D (s.done ++ s.ss) p.made rec f' count' rec' (holds v.C (first_numbered v.first)) s.holds v.unit.0 s.logged q in
          let l = length-append s.done s.ss in
          let back = subst (λ (r : Reference). Back t r v.C (length s.done + length s.ss) (fails f.by s.D) c.us (fails f'.by c.E)) by
          (subst (λ (i : ℕ). Back t setter.by v.C i (fails f.by s.D) c.us (fails f'.by c.E)) l c.back) in
          let below = subst (λ (σ : Setting). Branch F order σ (length s.done) s.ss (fails f.by s.D)) v.set_is s.branch in
          record {
            entries = y.T;
            done = s.done;
            ss = s.ss ++ c.us;
            D = c.E;
            way = subst (λ (σ : Setting). Way F order n y.T σ s.done) (sym e) v.way;
            held = y.held;
            branch = subst (λ (σ : Setting). Branch F order σ (length s.done) (s.ss ++ c.us) (fails f'.by c.E)) (sym e) (forced v.none v.first v.unit below back);
            holds = c.holds;
            logged = subst (λ (xs : List Step). Logged run rec' count' xs) (append_assoc s.done s.ss c.us) c.logged;
          }

      full_clause : (d : Decline) → Past t setter f p.made rec f' count' rec' (Err d) → Halted run m rec' × (d ≡ RecordFull)
      full_clause d q =
          let y = last_clause F order n p.marks rest p.frames x last s.entries k s.way s.held why in
          let v = y.view in
          let c = refused run t setter f v.C s.D (s.done ++ s.ss) p.made rec f' count' rec' (holds v.C (first_numbered v.first)) s.holds v.unit.0 s.logged d q in
          let l = length-append s.done s.ss in
          let back = subst (λ (r : Reference). Back t r v.C (length s.done + length s.ss) (fails f.by s.D) (c.s ∷ []) c.out) by
          (subst (λ (i : ℕ). Back t setter.by v.C i (fails f.by s.D) (c.s ∷ []) c.out) l c.back) in
          let below = subst (λ (σ : Setting). Branch F order σ (length s.done) s.ss (fails f.by s.D)) v.set_is s.branch in (
            record {
              entries = y.T;
              σ = v.σ;
              done = s.done;
              ss = s.ss;
              s = c.s;
              out = c.out;
              way = v.way;
              branch = forced v.none v.first v.unit below back;
              noted_is = c.noted_is;
              room_is = c.room_is;
            },
            c.full,
          )

  -- chosen, and turned off

  module _ (why : x.why ≡ Off) where
    abbrev tₒ : ℤ
    tₒ = code x.literal

    abbrev Seen : Type 0
    Seen = LastOff F order n p.settings s.done rest p.frames x

    seen : Seen
    seen = last_off F order n p.marks rest p.frames x last s.entries s.way s.held why

    pub frame_there : 0 < length p.frames
    frame_there = let l = ap length seen.frames_is ∙ length-append seen.low (seen.f ∷ []) in omega arith

    off_index : x.literal.index < n
    off_index =
        let y = seen in
        let two = off_two y.view.σ y.k (chosen_unset y.view.chosen) in
        code_index x.literal n (subst (Within n) (sym y.lit_is) (subst (λ (i : ℕ). Within i (off y.k)) (way_length F order n y.view.way) (unset_within y.view.σ (off y.k) two)))

    module _ (low : List Frame) (setter : Frame) (popped : p.frames ≡ low ++ (setter ∷ [])) (f' : Frame) (count' : ℕ) (rec' : RecordMeaning) where
      -- the frame taken off is the entry's
      same_frame : (y : Seen) → (y.low ≡ low) × (y.f ≡ setter)
      same_frame y = ends_alike y.low low y.f setter (sym y.frames_is ∙ popped)

      setter_holds : (y : Seen) → Holds setter.clause y.C
      setter_holds y = subst (λ (g : Frame). Holds g.clause y.C) (same_frame y).1 y.holds

      setter_by : (y : Seen) → setter.by ≡ y.r
      setter_by y = ap (λ (g : Frame). g.by) (sym (same_frame y).1) ∙ y.by_is

      lengths : (y : Seen) → length (s.done ++ s.ss) ≡ length y.view.before + length y.view.ss + length s.ss
      lengths y = length-append s.done s.ss ∙ (let a = ap length y.view.done_is ∙ length-append y.view.before y.view.ss in omega arith)

      below : (y : Seen) → Branch F order (make_true y.view.σ (off y.k)) (length y.view.before + length y.view.ss) s.ss (fails f.by s.D)
      below y =
          let v = y.view in
          subst (λ (i : ℕ). Branch F order (make_true v.σ (off y.k)) i s.ss (fails f.by s.D)) (ap length v.done_is ∙ length-append v.before v.ss)
          (subst (λ (σ : Setting). Branch F order σ (length s.done) s.ss (fails f.by s.D)) v.set_is s.branch)

      moved_back : (y : Seen) (us : List Step) (out : Outcome) → Back tₒ setter.by y.C (length (s.done ++ s.ss)) (fails f.by s.D) us out
          → Back (off y.k) y.r y.C (length y.view.before + length y.view.ss + length s.ss) (fails f.by s.D) us out
      moved_back y us out b =
          subst (λ (r : Reference). Back (off y.k) r y.C (length y.view.before + length y.view.ss + length s.ss) (fails f.by s.D) us out) (setter_by y)
          (subst (λ (i : ℕ). Back (off y.k) setter.by y.C i (fails f.by s.D) us out) (lengths y)
          (subst (λ (u : ℤ). Back u setter.by y.C (length (s.done ++ s.ss)) (fails f.by s.D) us out) y.lit_is b))

      in_setter : (y : Seen) → tₒ ∈ y.C
      in_setter y = subst (λ (u : ℤ). u ∈ y.C) (sym y.lit_is) y.view.speaks

      regroup : (y : Seen) (us : List Step) → (s.done ++ s.ss) ++ us ≡ y.view.before ++ (y.view.ss ++ (s.ss ++ us))
      regroup y us = ap (λ (xs : List Step). (xs ++ s.ss) ++ us) y.view.done_is ∙ simp append_assoc

      past_off : Past tₒ setter f p.made rec f' count' rec' (Ok tt) → Stuck run m rec' (back_to p rest low x.literal count') f'
      past_off q =
          let y = seen in
          let v = y.view in
          let two = off_two v.σ y.k (chosen_unset v.chosen) in
          let e : put_entry p.settings (variable (code x.literal)) 2 ≡ v.σ = unset_again x.literal v.σ p.settings (off y.k) y.lit_is v.set_is two in
          let c = came run tₒ setter f y.C s.D (s.done ++ s.ss) p.made rec f' count' rec' (setter_holds y) s.holds (in_setter y) s.logged q in
          record {
            entries = y.T;
            done = v.before;
            ss = v.ss ++ (s.ss ++ c.us);
            D = c.E;
            way = subst (λ (σ : Setting). Way F order n y.T σ v.before) (sym e) v.way;
            held = subst (λ (fs : List Frame). Held y.T rest fs) (same_frame y).0 y.held;
            branch = subst (λ (σ : Setting). Branch F order σ (length v.before) (v.ss ++ (s.ss ++ c.us)) (fails f'.by c.E)) (sym e)
                (then_off v.undecided v.chosen v.on_branch v.speaks (below y) (moved_back y c.us (fails f'.by c.E) c.back));
            holds = c.holds;
            logged = subst (λ (xs : List Step). Logged run rec' count' xs) (regroup y c.us) c.logged;
          }

      full_off : (d : Decline) → Past tₒ setter f p.made rec f' count' rec' (Err d) → Halted run m rec' × (d ≡ RecordFull)
      full_off d q =
          let y = seen in
          let v = y.view in
          let c = refused run tₒ setter f y.C s.D (s.done ++ s.ss) p.made rec f' count' rec' (setter_holds y) s.holds (in_setter y) s.logged d q in
          let all : s.done ++ s.ss ≡ v.before ++ (v.ss ++ s.ss) = ap (λ (xs : List Step). xs ++ s.ss) v.done_is ∙ append_assoc v.before v.ss s.ss in
          let b = then_off v.undecided v.chosen v.on_branch v.speaks (below y) (moved_back y (c.s ∷ []) c.out c.back) in (
            record {
              entries = y.T;
              σ = v.σ;
              done = v.before;
              ss = v.ss ++ s.ss;
              s = c.s;
              out = c.out;
              way = v.way;
              branch = subst (λ (xs : List Step). Branch F order v.σ (length v.before) xs c.out) (sym (append_assoc v.ss s.ss (c.s ∷ []))) b;
              noted_is = subst (λ (xs : List Step). rec' ≡ noted run.before xs) all c.noted_is;
              room_is = subst (λ (xs : List Step). run.before.room ≡ Some (length xs)) all c.room_is;
            },
            c.full,
          )

  -- chosen, on

  module _ (why : x.why ≡ On) where
    abbrev tᵢ : ℤ
    tᵢ = code x.literal

    on_index : x.literal.index < n
    on_index =
        let y = last_on F order n p.marks rest p.frames x last s.entries s.way s.held why in
        code_index x.literal n (subst (Within n) (sym y.lit_is) (subst (λ (i : ℕ). Within i (on y.k)) (way_length F order n y.view.way) (unset_within y.view.σ (on y.k) (chosen_unset y.view.chosen))))

    -- the choice itself has no frame yet
    pub on_frames : length p.frames ≤ length rest
    on_frames =
        let y = last_on F order n p.marks rest p.frames x last s.entries s.way s.held why in
        let a = held_marks y.T rest p.frames y.held in
        let b = held_frames y.T rest p.frames y.held in
        omega arith

    past_on : (p' : Position) (r : Turn) → AtChoice tᵢ f (back_to p rest p.frames x.literal p.made) p' r → Stepped run m p rec p' f (Ok r)
    past_on p' Failing (lacks, same) =
        let y = last_on F order n p.marks rest p.frames x last s.entries s.way s.held why in
        let v = y.view in
        let e : put_entry p.settings (variable (code x.literal)) 2 ≡ v.σ = unset_again x.literal v.σ p.settings (on y.k) y.lit_is v.set_is (chosen_unset v.chosen) in
        let no : off y.k ∈ s.D → ⊥ = λ h. false≢true (sym lacks ∙ ap (λ (u : ℤ). member f.clause (opposite u)) y.lit_is ∙ (s.holds (off y.k)).0 h) in
        let b = on_ends v.undecided v.chosen (subst (λ (σ : Setting). Branch F order σ (length s.done) s.ss (fails f.by s.D)) v.set_is s.branch) no in
        let l = lighter n p.marks rest x last in
        let q : Stuck run m rec (back_to p rest p.frames x.literal p.made) f = record {
          entries = y.T;
          done = s.done;
          ss = s.ss;
          D = s.D;
          way = subst (λ (σ : Setting). Way F order n y.T σ s.done) (sym e) v.way;
          held = y.held;
          branch = subst (λ (σ : Setting). Branch F order σ (length s.done) s.ss (fails f.by s.D)) (sym e) b;
          holds = s.holds;
          logged = s.logged;
        } in
        subst (λ (z : Position). Stepped run m p rec z f (Ok Failing)) (sym same) (q, l.0, l.1)
    past_on p' Turned (has, (mark, lit, off_why, moved)) =
        let y = last_on F order n p.marks rest p.frames x last s.entries s.way s.held why in
        let v = y.view in
        let e : put_entry p.settings (variable (code x.literal)) 2 ≡ v.σ = unset_again x.literal v.σ p.settings (on y.k) y.lit_is v.set_is (chosen_unset v.chosen) in
        let other : opposite tᵢ ≡ off y.k = ap opposite y.lit_is in
        let speaks : off y.k ∈ s.D = (s.holds (off y.k)).1 (ap (member f.clause) (sym other) ∙ has) in
        let b = subst (λ (σ : Setting). Branch F order σ (length s.done) s.ss (fails f.by s.D)) v.set_is s.branch in
        let set_is : make_true (put_entry p.settings (variable (code x.literal)) 2) (opposite tᵢ) ≡ make_true v.σ (off y.k) = ap (λ (σ : Setting). make_true σ (opposite tᵢ)) e ∙ ap (make_true v.σ) other in
        let q : Going run m rec (record { settings = make_true (put_entry p.settings (variable (code x.literal)) 2) (opposite tᵢ); marks = rest ++ (mark ∷ []); frames = p.frames ++ (f ∷ []); made = p.made }) = record {
          entries = off_side y.k f.by s.D ∷ y.T;
          done = s.done ++ s.ss;
          way = subst (λ (σ : Setting). Way F order n (off_side y.k f.by s.D ∷ y.T) σ (s.done ++ s.ss)) (sym set_is) (off_here v.way v.undecided v.chosen b speaks);
          held = (rest, mark, refl, lit ∙ other, off_why, p.frames, f, refl, refl, s.holds, y.held);
          logged = s.logged;
        } in
        subst (λ (z : Position). Stepped run m p rec z f (Ok Turned)) (sym moved) (q, turned_weight n p.marks rest x mark last why off_why)

  -- whatever set it, the literal is of one of the variables
  pub top_index : x.literal.index < n
  top_index = by x.why refl
    where
      by : (w : Why) → x.why ≡ w → x.literal.index < n
      by (Forcing k) e = clause_index k e
      by On e = on_index e
      by Off e = off_index e

  -- the same, as the code goes: the mark off and its variable unset, then the clause past it

  below_all : (p' : Position) (f' : Frame) (rec' : RecordMeaning) → p'.marks ≡ rest → Stuck run m rec' p' f' → Stepped run m p rec' p' f' (Ok Failing)
  below_all p' f' rec' e q =
      let l = lighter n p.marks rest x last in
      (q, subst (λ (ms : List Mark). length ms < length p.marks) (sym e) l.0, subst (λ (ms : List Mark). heavy n 0 ms ≤ heavy n 0 p.marks) (sym e) l.1)

  module _ (σ' : Setting) (taken : σ' ≡ put_entry p.settings (variable (code x.literal)) 2) where
    module _ (p' : Position) (f' : Frame) (rec' : RecordMeaning) (setter : Frame) where
      -- the clause went past the literal, with these frames left
      moved_to : (fs : List Frame) → p' ≡ record { settings = σ'; marks = rest; frames = fs; made = p'.made } → p' ≡ back_to p rest fs x.literal p'.made
      moved_to fs moved = moved ∙ ap (λ (σ : Setting). record { settings = σ; marks = rest; frames = fs; made = p'.made }) taken

      pub stepped_clause : (k : ℕ) → x.why ≡ Forcing k → setter.by ≡ R k → ((C : Clause) → clause_at F k ≡ Some C → Holds setter.clause C)
          → p' ≡ record { settings = σ'; marks = rest; frames = p.frames; made = p'.made }
          → (r : Result (Unit {0}) Decline) → Past (code x.literal) setter f p.made rec f' p'.made rec' r → Stepped run m p rec' p' f' (after r)
      stepped_clause k why by holds moved (Ok _) q =
          let e = moved_to p.frames moved in
          below_all p' f' rec' (ap (λ (z : Position). z.marks) e) (subst (λ (z : Position). Stuck run m rec' z f') (sym e) (past_clause k why setter by holds f' p'.made rec' q))
      stepped_clause k why by holds moved (Err d) q = full_clause k why setter by holds f' p'.made rec' d q

      pub stepped_off : x.why ≡ Off → (low : List Frame) → p.frames ≡ low ++ (setter ∷ [])
          → p' ≡ record { settings = σ'; marks = rest; frames = low; made = p'.made }
          → (r : Result (Unit {0}) Decline) → Past (code x.literal) setter f p.made rec f' p'.made rec' r → Stepped run m p rec' p' f' (after r)
      stepped_off why low popped moved (Ok _) q =
          let e = moved_to low moved in
          below_all p' f' rec' (ap (λ (z : Position). z.marks) e) (subst (λ (z : Position). Stuck run m rec' z f') (sym e) (past_off why low setter popped f' p'.made rec' q))
      stepped_off why low popped moved (Err d) q = full_off why low setter popped f' p'.made rec' d q

    pub stepped_on : (p' : Position) → x.why ≡ On → (r : Turn) → AtChoice (code x.literal) f (record { settings = σ'; marks = rest; frames = p.frames; made = p.made }) p' r → Stepped run m p rec p' f (Ok r)
    stepped_on p' why r q = past_on why p' r (subst (λ (σ : Setting). AtChoice (code x.literal) f (record { settings = σ; marks = rest; frames = p.frames; made = p.made }) p' r) taken q)
