-- What the reader gives.
use Rattle.std.proofs.Common.{◌≡◌, ℕ, List, [], ◌∷◌, length, Some, None, Ok, Err, Option, Result, MatchOption, IsSomeAnd, ok_or, sym, refl, ap, ◌∙◌, subst, arith, Bor}
use Rattle.std.specs.Iterator.{MakesProgress, item_count}
use Rattle.texts.specs.declared.Reader.{Reader}
use Rattle.texts.specs.declared.Placed.{Placed as Read}
use Rattle.texts.specs.declared.Token.{Token as Cut}
use Rattle.texts.specs.declared.Token.TheVariants.{Number, Comment, Problem, LineEnd}
use Rattle.model.specs.declared.ProblemLine.{ProblemLine}
use Rattle.model.specs.declared.WordFault.{WordFault}
use Rattle.model.specs.Words.{Placed}
use Rattle.model.specs.Reading.{counts, spellings, variables_told, variables_in}
use Rattle.texts.proofs.StepsTaken.{at_token, at_word}
use Rattle.texts.specs.Scan.{rest_of, bytes_of, kind_of, part_token, Means, Gives}

-- a token at a place, or the fault there, means the part there
pub given_by : (at : ℕ) (part : List ℕ) (o : Option Cut) (m : Option Read) (r : Result Read WordFault) (R : Cut → Read → Type 0) → MatchOption o (m ≡ None) (λ t. IsSomeAnd m (R t)) → ((t : Cut) (p : Read) → R t p → p ≡ record { place = at; token = t }) → r ≡ ok_or m (record { place = at }) → Means r (part_token at part o)
given_by at part o m r R h k e = let P : Result Read WordFault → Type 0 = λ x. Means x (part_token at part o) in subst P (sym e) (look o m h)
  where
    look : (o : Option Cut) (m : Option Read) → MatchOption o (m ≡ None) (λ t. IsSomeAnd m (R t)) → Means (ok_or m (record { place = at })) (part_token at part o)
    look None None h = (part, refl)
    look None (Some p) h = cc
    look (Some t) None h = absurd h
    look (Some t) (Some p) h = ap (λ (x : Read). ((x.place, bytes_of x.token), kind_of x.token)) (sym (k t p h))

pub progress : (a : Reader) (r : Option (Result Read WordFault)) (b : Reader) → Gives a r b → MakesProgress (λ _. Unit {0}) (item_count rest_of) a r b
progress a None b g = record { on = λ _. tt; keeps = tt; rests = λ _. tt }
progress a (Some x) b g = record { on = λ _. (tt, tt, omega (arith, ap length g.0.2)); keeps = tt; rests = λ _. tt }

-- the first problem line, past other tokens

pub variables_none : (a : Reader) → rest_of a ≡ [] → None ≡ variables_in (rest_of a)
unfolding variables_in
variables_none a e = sym (ap variables_in e)

pub past_word : (a b : Reader) (p : Result Read WordFault) (e : WordFault) → Gives a (Some p) b → p ≡ Err e → variables_in (rest_of b) ≡ variables_in (rest_of a)
unfolding variables_in
past_word a b p e g q = let m = at_word p e g.0.0 q g.0.1 in sym (ap variables_in (g.0.2 ∙ ap (λ (x : Placed). x ∷ rest_of b) m.1))

pub past_token : (a b : Reader) (p : Result Read WordFault) (q : Read) → Gives a (Some p) b → p ≡ Ok q → ((l : Bor (List ℕ)) → q.token ≡ Problem l → ⊥) → variables_in (rest_of b) ≡ variables_in (rest_of a)
unfolding variables_in
past_token a b p q g e h = look q.token h ∙ sym (ap variables_in (g.0.2 ∙ ap (λ (x : Placed). x ∷ rest_of b) (at_token p q q.token g.0.0 e refl g.0.1)))
  where
    look : (t : Cut) → ((l : Bor (List ℕ)) → t ≡ Problem l → ⊥) → variables_in (rest_of b) ≡ variables_in (((q.place, bytes_of t), kind_of t) ∷ rest_of b)
    look (Number w x) h = refl
    look (Comment l) h = refl
    look (Problem l) h = absurd (h l refl)
    look (LineEnd l) h = refl

pub at_problem : (a b : Reader) (p : Result Read WordFault) (q : Read) (l : Bor (List ℕ)) (o : Option ProblemLine) → Gives a (Some p) b → p ≡ Ok q → q.token ≡ Problem l → o ≡ counts (spellings l.now) → variables_told o ≡ variables_in (rest_of a)
unfolding variables_in
at_problem a b p q l o g e t c = sym (ap variables_in (g.0.2 ∙ ap (λ (x : Placed). x ∷ rest_of b) (at_token p q (Problem l) g.0.0 e t g.0.1)) ∙ ap (λ (x : Option ProblemLine). variables_told x) (sym c))
