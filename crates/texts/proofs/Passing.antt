-- A reader that passes tokens of which nothing is read.
use Rattle.std.proofs.Common.{◌≡◌, List, [], ◌∷◌, ◌++◌, Some, None, Ok, Err, Option, Result, sym, refl, ap, ◌∙◌, subst, append-nil}
use Rattle.std.specs.Iterator.{Yields}
use Rattle.model.specs.declared.TextFault.{TextFault}
use Rattle.model.specs.declared.WordFault.{WordFault}
use Rattle.model.specs.Clauses.{Each}
use Rattle.model.specs.Words.{Placed}
use Rattle.model.specs.Reading.{State, Step, on}
use Rattle.texts.specs.declared.Reader.{Reader}
use Rattle.texts.specs.declared.Placed.{Placed as Read}
use Rattle.texts.specs.Scan.{rest_of, text_of, Gives}
use Rattle.texts.specs.Steps.{Idle, Takes, Ends, Tells, Found, FoundAt, Finds}

module _ {X : Type 0} (P : State → Type 0) (says : State → Result (Option X) TextFault → Step) (nothing : (s : State) → says s (Ok None) ≡ on s) {reads : Result Read WordFault → Result (Option X) TextFault → Type 0} (tells : (p : Result Read WordFault) (r : Result (Option X) TextFault) → reads p r → Tells P says p r) where
  -- the tokens that were passed change no state of which P holds, and the text stays
  record Passed (a t : Reader) : Type 0 where
    pub idle : List Placed
    pub tokens : rest_of a ≡ idle ++ rest_of t
    pub passed : (s : State) → P s → Idle s idle
    pub text : text_of t ≡ text_of a

  passes : (ps : List (Result Read WordFault)) (a t : Reader) → Yields Gives a ps t → Each (λ p. reads p (Ok None)) ps → Passed a t
  passes [] a t y e = subst (λ z. Passed a z) y (record { idle = []; tokens = refl; passed = λ s h. tt; text = refl })
  passes (p ∷ ps) a t y e =
      let g = y.1.0 in
      let r = passes ps y.0 t y.2 e.1 in
      record {
        idle = g.0 ∷ r.idle;
        tokens = g.2 ∙ ap (λ z. g.0 ∷ z) r.tokens;
        passed = λ s h. (tells p (Ok None) e.0 s h g.0 g.1 ∙ nothing s, r.passed s h);
        text = r.text ∙ y.1.1;
      }

  ended : (a t b : Reader) → Passed a t → Gives t None b → (s : State) → P s → Ends s (rest_of a) (rest_of b)
  ended a t b r g s h =
      let z : r.idle ≡ rest_of a = sym (append-nil r.idle) ∙ (ap (λ y. r.idle ++ y) (sym g.0.0) ∙ sym r.tokens) in
      let Q : List Placed → Type 0 = λ us. Idle s us in
      (subst Q z (r.passed s h), g.0.1)

  took : (a t b : Reader) → Passed a t → (p : Result Read WordFault) → Gives t (Some p) b → (r : Result (Option X) TextFault) → reads p r → (s : State) → P s → Takes s (rest_of a) (rest_of b) (says s r)
  took a t b q p g r e s h = record {
    idle = q.idle;
    token = g.0.0;
    tokens = q.tokens ∙ ap (λ z. q.idle ++ z) g.0.2;
    passed = q.passed s h;
    stepped = tells p r e s h g.0.0 g.0.1;
  }

  found_at : (a t b : Reader) → Passed a t → (r : Result (Option X) TextFault) → FoundAt reads t b r → (s : State) → P s → Finds says s (rest_of a) (rest_of b) r
  found_at a t b q (Ok None) f = ended a t b q f
  found_at a t b q (Ok (Some x)) f = took a t b q f.0 f.1 (Ok (Some x)) f.2
  found_at a t b q (Err e) f = took a t b q f.0 f.1 (Err e) f.2

  text_at : (a t b : Reader) → Passed a t → (r : Result (Option X) TextFault) → FoundAt reads t b r → text_of b ≡ text_of a
  text_at a t b q (Ok None) f = f.1 ∙ q.text
  text_at a t b q (Ok (Some x)) f = f.1.1 ∙ q.text
  text_at a t b q (Err e) f = f.1.1 ∙ q.text

module _ {X : Type 0} {reads : Result Read WordFault → Result (Option X) TextFault → Type 0} {a b : Reader} {r : Result (Option X) TextFault} (f : Found reads a b r) (P : State → Type 0) (says : State → Result (Option X) TextFault → Step) (nothing : (s : State) → says s (Ok None) ≡ on s) (tells : (p : Result Read WordFault) (r : Result (Option X) TextFault) → reads p r → Tells P says p r) where
  pub finds : (s : State) → P s → Finds says s (rest_of a) (rest_of b) r
  finds = found_at P says nothing tells a f.there b (passes P says nothing tells f.passed a f.there f.given f.nothing) r f.last

  pub stays : text_of b ≡ text_of a
  stays = text_at P says nothing tells a f.there b (passes P says nothing tells f.passed a f.there f.given f.nothing) r f.last
