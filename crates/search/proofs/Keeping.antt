-- What a move of the search says where the file means the same.
use Rattle.std.proofs.Common.{◌≡◌, Option, Result, subst}
use Rattle.model.specs.declared.Decline.{Decline}
use Rattle.model.specs.Machine.{Machine}
use Rattle.model.specs.Settling.{RecordMeaning}
use Rattle.search.specs.declared.Frame.{Frame}
use Rattle.search.specs.declared.Turn.{Turn}
use Rattle.model.specs.declared.Answer.{Answer}
use Rattle.search.specs.States.{Position, Run, Going, Stuck, Stepped, Advanced}

-- a step of the search, of a file that means the same and an answer that is the same
pub stepped_there : (m m' : Machine) → m' ≡ m → (run : Run) (rec rec' : RecordMeaning) (p p' : Position) (f f' : Frame) (r r' : Result Turn Decline) → r ≡ r'
    → (Stuck run m' rec p f → Stepped run m' p rec' p' f' r) → Stuck run m rec p f → Stepped run m p rec' p' f' r'
stepped_there m m' e run rec rec' p p' f f' r r' q h s =
    subst (λ (x : Result Turn Decline). Stepped run m p rec' p' f' x) q (subst (λ (k : Machine). Stuck run k rec p f → Stepped run k p rec' p' f' r) e h s)

-- a turn of the search likewise
pub advanced_there : (m m' : Machine) → m' ≡ m → (run : Run) (rec rec' : RecordMeaning) (p p' : Position) (r r' : Result (Option Answer) Decline) → r ≡ r'
    → (Going run m' rec p → Advanced run m' p rec' p' r) → Going run m rec p → Advanced run m p rec' p' r'
advanced_there m m' e run rec rec' p p' r r' q h s =
    subst (λ (x : Result (Option Answer) Decline). Advanced run m p rec' p' x) q (subst (λ (k : Machine). Going run k rec p → Advanced run k p rec' p' r) e h s)
