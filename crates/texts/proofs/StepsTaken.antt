-- What one token does to a state.
use Rattle.std.proofs.Common.{◌≡◌, ℕ, ◌≢◌, List, Some, None, Ok, Err, Option, Result, Bor, sym, ap, ◌∙◌, subst}
use Rattle.std.proofs.lemmas.Bool.{eq-eqb, ne_eqb}
use Rattle.model.specs.declared.ProblemLine.{ProblemLine}
use Rattle.model.specs.declared.ReadFault.TheVariants.{InText}
use Rattle.model.specs.declared.TextFault.TheVariants.{InWord}
use Rattle.model.specs.declared.WordFault.{WordFault}
use Rattle.model.specs.Faults.{problem_fault, variables_fault}
use Rattle.model.specs.Words.{Piece, Placed, Token, no_number}
use Rattle.model.specs.Reading.{State, on, stop, headed, head, counts, spellings, step_before, step_after, step_on, step}
use Rattle.texts.specs.declared.Placed.{Placed as Read}
use Rattle.texts.specs.declared.Token.{Token as Cut}
use Rattle.texts.specs.declared.Token.TheVariants.{Problem}
use Rattle.texts.specs.Scan.{bytes_of, kind_of, Means}
use Rattle.texts.specs.Steps.{Before, After}

pub before : (n : ℕ) (s : State) → Before n s → (p : Piece) (t : Token) → step s (p, t) ≡ step_before s p t
unfolding step step_on
before n s b p t = ap (λ (o : Option ℕ). step_on o s (p, t)) b.none

pub after : (s : State) → After s → (p : Piece) (t : Token) → step s (p, t) ≡ step_after s p t
unfolding step step_on
after s a p t = ap (λ (o : Option ℕ). step_on o s (p, t)) a.1

-- the token that was read

pub at_token : (r : Result Read WordFault) (p : Read) (k : Cut) (t : Placed) → r ≡ Ok p → p.token ≡ k → Means r t → t ≡ ((p.place, bytes_of k), kind_of k)
at_token r p k t e q m = let P : Result Read WordFault → Type 0 = λ x. Means x t in subst P e m ∙ ap (λ (x : Cut). ((p.place, bytes_of x), kind_of x)) q

pub at_word : (r : Result Read WordFault) (e : WordFault) (t : Placed) → r ≡ Err e → Means r t → Means (Err e) t
at_word r e t q m = let P : Result Read WordFault → Type 0 = λ x. Means x t in subst P q m

pub before_token : (n : ℕ) (s : State) → Before n s → (r : Result Read WordFault) (p : Read) (k : Cut) (t : Placed) → r ≡ Ok p → p.token ≡ k → Means r t → step s t ≡ step_before s (p.place, bytes_of k) (kind_of k)
before_token n s b r p k t e q m = ap (step s) (at_token r p k t e q m) ∙ before n s b _ _

pub after_token : (s : State) → After s → (r : Result Read WordFault) (p : Read) (k : Cut) (t : Placed) → r ≡ Ok p → p.token ≡ k → Means r t → step s t ≡ step_after s (p.place, bytes_of k) (kind_of k)
after_token s a r p k t e q m = ap (step s) (at_token r p k t e q m) ∙ after s a _ _

pub word_before : (n : ℕ) (s : State) → Before n s → (r : Result Read WordFault) (e : WordFault) (t : Placed) → r ≡ Err e → Means r t → step s t ≡ stop (InText (InWord e))
unfolding step_before
word_before n s b r e t q m = let w = at_word r e t q m in ap (step s) w.1 ∙ before n s b (e.place, w.0) no_number

pub word_after : (s : State) → After s → (r : Result Read WordFault) (e : WordFault) (t : Placed) → r ≡ Err e → Means r t → step s t ≡ stop (InText (InWord e))
unfolding step_after
word_after s a r e t q m = let w = at_word r e t q m in ap (step s) w.1 ∙ after s a (e.place, w.0) no_number

-- the problem line

module _ (n : ℕ) (s : State) (b : Before n s) (r : Result Read WordFault) (p : Read) (l : Bor (List ℕ)) (t : Placed) (e : r ≡ Ok p) (q : p.token ≡ Problem l) (m : Means r t) where
  at_problem : (o : Option ProblemLine) → o ≡ counts (spellings l.now) → step s t ≡ head s p.place o
  unfolding step_before
  at_problem o c = before_token n s b r p (Problem l) t e q m ∙ ap (head s p.place) (sym c)

  pub bad_line : None ≡ counts (spellings l.now) → step s t ≡ stop (problem_fault p.place)
  unfolding head
  bad_line c = at_problem None c

  pub other_size : (line : ProblemLine) → Some line ≡ counts (spellings l.now) → line.variables ≢ n → step s t ≡ stop (variables_fault p.place)
  unfolding head
  other_size line c h = at_problem (Some line) c ∙ rw (ne_eqb line.variables s.machine.variables (λ q. h (q ∙ b.size)))

  pub good_line : (line : ProblemLine) → Some line ≡ counts (spellings l.now) → line.variables ≡ n → step s t ≡ on (headed s line.clauses)
  unfolding head
  good_line line c h = at_problem (Some line) c ∙ rw (eq-eqb line.variables s.machine.variables (h ∙ sym b.size))
