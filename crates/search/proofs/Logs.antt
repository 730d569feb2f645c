-- The record after one step more, or where it takes none.
use Rattle.std.proofs.Common.{◌≡◌, ℕ, zero, suc, ◌+◌, ◌-◌, min, Bool, true, false, cond, List, [], ◌∷◌, ◌++◌, length, Some, None, Ok, Err, Option, sym, refl, ap, ◌∙◌, append-nil, arith, length-append, eqb-true, le-leb, leb-true}
use borrow.Author.Tests.{eqb-false}
use Rattle.model.specs.declared.Step.{Step}
use Rattle.model.specs.declared.Decline.{Decline}
use Rattle.model.specs.declared.Decline.TheVariants.{RecordFull}
use Rattle.model.specs.Settling.{RecordMeaning, takes, left_of, noted, takes_all, is_full, Puts}
use Rattle.model.proofs.Noted.{noted_noted}
use Rattle.search.specs.States.{Run, Logged}

-- a record that took ss, and takes one more, takes all of them
all_more : (room : Option ℕ) (ss : List Step) (s : Step) → takes_all room ss ≡ true → is_full (left_of room (length ss)) ≡ false → takes_all room (ss ++ (s ∷ [])) ≡ true
all_more None ss s a f = refl
all_more (Some k) ss s a f =
    let l = leb-true (length ss) k a in
    let z = eqb-false (k - length ss) 0 f in
    let e = length-append ss (s ∷ []) in
    le-leb (length (ss ++ (s ∷ []))) k (omega (arith, z))

not_full : (b : Bool) → cond b (Some RecordFull) None ≡ None → b ≡ false
not_full true e = absurd (let z : ◌≡◌ {A = ℕ} 0 1 = cc in omega arith)
not_full false e = refl

pub logged_more : (run : Run) (rec rec' : RecordMeaning) (count count' : ℕ) (ss : List Step) (s : Step) → Logged run rec count ss → Puts rec s rec' (Ok tt) → count' ≡ min (count + 1) 4294967295
    → Logged run rec' count' (ss ++ (s ∷ []))
logged_more run rec rec' count count' ss s l p e =
    let f : is_full (noted run.before ss).room ≡ false = sym (ap (λ (r : RecordMeaning). is_full r.room) l.noted_is) ∙ not_full (is_full rec.room) p.0 in
    let k = length-append ss (s ∷ []) in
    let c = l.count_is in
    record {
      noted_is = p.2 ∙ ap (λ (r : RecordMeaning). noted r (s ∷ [])) l.noted_is ∙ noted_noted run.before ss (s ∷ []);
      all = all_more run.before.room ss s l.all f;
      count_is = e ∙ omega arith;
    }

full_room : (room : Option ℕ) (ss : List Step) → takes_all room ss ≡ true → is_full (left_of room (length ss)) ≡ true → room ≡ Some (length ss)
full_room None ss a f = absurd (let z : ◌≡◌ {A = ℕ} 0 1 = cc in omega arith)
full_room (Some k) ss a f = let l = leb-true (length ss) k a in let z = eqb-true (k - length ss) 0 f in ap Some (omega arith)

is_refused : (b : Bool) (d : Decline) → cond b (Some RecordFull) None ≡ Some d → (b ≡ true) × (d ≡ RecordFull)
is_refused true d e = (refl, cc)
is_refused false d e = absurd (let z : ◌≡◌ {A = ℕ} 0 1 = cc in omega arith)

-- a step that the record refuses: it took as many as it takes
pub logged_full : (run : Run) (rec rec' : RecordMeaning) (count : ℕ) (ss : List Step) (s : Step) (d : Decline) → Logged run rec count ss → Puts rec s rec' (Err d)
    → (rec' ≡ noted run.before ss) × (run.before.room ≡ Some (length ss)) × (d ≡ RecordFull)
logged_full run rec rec' count ss s d l p =
    let q = is_refused (is_full rec.room) d p.0 in
    (p.1 ∙ l.noted_is, full_room run.before.room ss l.all (sym (ap (λ (r : RecordMeaning). is_full r.room) l.noted_is) ∙ q.0), q.1)

-- nothing was put yet
pub logged_none : (run : Run) (rec : RecordMeaning) → rec ≡ run.before → Logged run rec 0 []
logged_none run rec e = record { noted_is = e ∙ none run.before; all = taken run.before.room; count_is = refl }
  where
    taken : (room : Option ℕ) → takes_all room [] ≡ true
    taken None = refl
    taken (Some k) = le-leb 0 k (omega arith)

    room_same : (room : Option ℕ) → room ≡ left_of room 0
    room_same None = refl
    room_same (Some k) = ap Some (omega arith)

    empty : (room : Option ℕ) → takes room [] ≡ []
    empty None = refl
    empty (Some zero) = refl
    empty (Some (suc k)) = refl

    steps_same : (c : Bool) (xs : List Step) (room : Option ℕ) → xs ≡ cond c (xs ++ takes room []) xs
    steps_same true xs room = sym (append-nil xs) ∙ ap (λ (y : List Step). xs ++ y) (sym (empty room))
    steps_same false xs room = refl

    none : (r : RecordMeaning) → r ≡ noted r []
    none r = λ i. record { keeps = r.keeps; steps = steps_same r.keeps r.steps r.room i; room = room_same r.room i }
