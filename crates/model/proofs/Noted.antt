use Rattle.std.proofs.Common.{◌≡◌, ℕ, zero, suc, ◌-◌, Bool, true, false, cond, List, [], ◌∷◌, ◌++◌, length, take, Some, None, Ok, Err, Option, Result, sym, refl, ap, ◌∙◌, arith, eqb-true}
use Rattle.std.proofs.lemmas.List.{append-nil, append_assoc, length-append}
use Rattle.std.proofs.lemmas.Bool.{false≢true}
use Rattle.model.specs.declared.Step.{Step}
use Rattle.model.specs.declared.Decline.{Decline}
use Rattle.model.specs.declared.Decline.TheVariants.{RecordFull}
use Rattle.model.specs.Machine.{first}
use Rattle.model.specs.Settling.{RecordMeaning, takes, left_of, noted, is_full, Puts}

meanings : (k : Bool) (ss us : List Step) (r t : Option ℕ) → ss ≡ us → r ≡ t → ◌≡◌ {A = RecordMeaning} (record { keeps = k; steps = ss; room = r }) (record { keeps = k; steps = us; room = t })
meanings k ss us r t p q = cc

take_append : (k : ℕ) (xs ys : List Step) → take k xs ++ take (k - length xs) ys ≡ take k (xs ++ ys)
take_append zero [] ys = refl
take_append zero (x ∷ xs) ys = let e : 0 - suc (length xs) ≡ 0 = omega arith in rw e
take_append (suc k) [] ys = let e : suc k - 0 ≡ suc k = omega arith in rw e
take_append (suc k) (x ∷ xs) ys =
    let e : suc k - suc (length xs) ≡ k - length xs = omega arith in
    rw e (ap (λ zs. x ∷ zs) (take_append k xs ys))

takes_append : (r : Option ℕ) (xs ys : List Step) → takes r xs ++ takes (left_of r (length xs)) ys ≡ takes r (xs ++ ys)
takes_append None xs ys = refl
takes_append (Some k) xs ys = take_append k xs ys

left_left : (r : Option ℕ) (xs ys : List Step) → left_of (left_of r (length xs)) (length ys) ≡ left_of r (length (xs ++ ys))
left_left None xs ys = refl
left_left (Some k) xs ys = let l = length-append xs ys in ap Some (omega arith)

-- steps put one after the other are put together
pub noted_noted : (rec : RecordMeaning) (xs ys : List Step) → noted (noted rec xs) ys ≡ noted rec (xs ++ ys)
noted_noted rec xs ys = meanings rec.keeps _ _ _ _ (held rec.keeps rec.steps (takes rec.room xs) (takes (left_of rec.room (length xs)) ys) (takes rec.room (xs ++ ys)) (takes_append rec.room xs ys)) (left_left rec.room xs ys)
  where
    held : (k : Bool) (ss us vs ws : List Step) → us ++ vs ≡ ws → cond k (cond k (ss ++ us) ss ++ vs) (cond k (ss ++ us) ss) ≡ cond k (ss ++ ws) ss
    held true ss us vs ws e = append_assoc ss us vs ∙ ap (λ zs. ss ++ zs) e
    held false ss us vs ws e = refl

-- a record that takes no more stays as it is
pub noted_full : (rec : RecordMeaning) (ss : List Step) → is_full rec.room ≡ true → noted rec ss ≡ rec
noted_full rec ss f = meanings rec.keeps _ _ _ _ (held rec.keeps rec.room rec.steps f) (room rec.room f)
  where
    held : (k : Bool) (r : Option ℕ) (us : List Step) → is_full r ≡ true → cond k (us ++ takes r ss) us ≡ us
    held true None us f = absurd (false≢true f)
    held true (Some n) us f = let z : n ≡ 0 = eqb-true n 0 f in rw z (append-nil us)
    held false r us f = refl

    room : (r : Option ℕ) → is_full r ≡ true → left_of r (length ss) ≡ r
    room None f = absurd (false≢true f)
    room (Some n) f = let z : n ≡ 0 = eqb-true n 0 f in ap Some (omega arith)

refused : (b : Bool) (d : Decline) → first ((b, RecordFull) ∷ []) ≡ Some d → b ≡ true
refused true d e = refl
refused false d e = absurd (let z : ◌≡◌ {A = ℕ} 0 1 = cc in omega arith)

-- a put that is declined leaves a record into which no steps go
pub put_declined : (rec : RecordMeaning) (s : Step) (rec' : RecordMeaning) (d : Decline) (ss : List Step) → Puts rec s rec' (Err d) → rec' ≡ noted rec ss
put_declined rec s rec' d ss p = p.1 ∙ sym (noted_full rec ss (refused (is_full rec.room) d p.0))

-- whatever put answers, the record is as the step leaves it
pub put_noted : (rec : RecordMeaning) (s : Step) (rec' : RecordMeaning) (r : Result (Unit {0}) Decline) → Puts rec s rec' r → rec' ≡ noted rec (s ∷ [])
put_noted rec s rec' (Ok u) p = p.2
put_noted rec s rec' (Err d) p = put_declined rec s rec' d (s ∷ []) p
