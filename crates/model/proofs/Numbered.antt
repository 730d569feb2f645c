-- Clauses by their numbers, from 1.
use Rattle.std.proofs.Common.{◌≡◌, ℕ, zero, suc, ◌<◌, ◌≤◌, List, [], ◌∷◌, length, Some, refl, subst, arith}
use Rattle.std.specs.List.{slice_get}
use Rattle.model.specs.Clauses.{Clause, Each}
use Rattle.model.specs.Search.{First, here, later}
use Rattle.model.specs.Machine.{clause_at}

nth_each : (P : Clause → Type 0) (F : List Clause) (i : ℕ) (C : Clause) → Each P F → slice_get F i ≡ Some C → P C
nth_each P [] i C p e = absurd (let z : ◌≡◌ {A = ℕ} 0 1 = cc in omega arith)
nth_each P (D ∷ F) zero C p e = let q : D ≡ C = cc in subst P q p.0
nth_each P (D ∷ F) (suc i) C p e = nth_each P F i C p.1 e

pub numbered_each : (P : Clause → Type 0) (F : List Clause) (k : ℕ) (C : Clause) → Each P F → clause_at F k ≡ Some C → P C
numbered_each P F zero C p e = absurd (let z : ◌≡◌ {A = ℕ} 0 1 = cc in omega arith)
numbered_each P F (suc k) C p e = nth_each P F k C p e

pub first_low : {P : Clause → Type 0} {F : List Clause} {k : ℕ} {C : Clause} → First P F k C → 0 < k
first_low (here h) = omega arith
first_low (later n f) = omega arith

-- the first of which something holds stands under its number
pub first_numbered : {P : Clause → Type 0} {F : List Clause} {k : ℕ} {C : Clause} → First P F k C → clause_at F k ≡ Some C
first_numbered (here h) = refl
first_numbered (later {k = zero} n f) = absurd (let l = first_low f in omega arith)
first_numbered (later {k = suc k} n f) = first_numbered f

pub first_high : {P : Clause → Type 0} {F : List Clause} {k : ℕ} {C : Clause} → First P F k C → k ≤ length F
first_high (here h) = omega arith
first_high (later n f) = let e = first_high f in omega arith
