-- Literals, clauses, valuations and resolvents. Nothing here is assumed.
use Rattle.std.specs.Prelude.{◌≡◌, ℕ, zero, suc, ◌<◌, ◌≤◌, Bool, true, false, cond, not, ◌≢◌, ◌⊎◌, List, [], ◌∷◌, ℤ, pos, negsuc, ◌==◌}

-- A literal (a term) is an integer: k says that the variable (the option) k is on, -k that it is off.
-- A clause (a rule) is a list of literals, and counts as a set.
abbrev pub Clause : Type 0
Clause = List ℤ

abbrev pub on : ℕ → ℤ
on k = pos k

abbrev pub off : ℕ → ℤ
off zero = pos 0
off (suc k) = negsuc k

abbrev pub variable : ℤ → ℕ
variable (pos k) = k
variable (negsuc k) = suc k

abbrev pub opposite : ℤ → ℤ
opposite (pos k) = off k
opposite (negsuc k) = pos (suc k)

abbrev pub Member : {A : Type 0} → A → List A → Type 0
Member x [] = ⊥
Member x (y ∷ ys) = (x ≡ y) ⊎ Member x ys

infix 8 ◌∈◌
abbrev pub ◌∈◌ : ℤ → Clause → Type 0
t ∈ C = Member t C

-- a valuation (a fit-out) says of every variable whether it is on
abbrev pub Valuation : Type 0
Valuation = ℕ → Bool

-- 0 is no literal, and never true
abbrev pub true_at : Valuation → ℤ → Bool
true_at v (pos zero) = false
true_at v (pos (suc k)) = v (suc k)
true_at v (negsuc k) = not (v (suc k))

-- one literal at least is true
abbrev pub Satisfies : Valuation → Clause → Type 0
Satisfies v C = (t : ℤ) × (t ∈ C) × (true_at v t ≡ true)

abbrev pub Each : {A : Type 0} → (A → Type 0) → List A → Type 0
Each P [] = Unit {0}
Each P (x ∷ xs) = P x × Each P xs

abbrev pub Model : Valuation → List Clause → Type 0
Model v F = Each (Satisfies v) F

-- a literal of one of the variables 1 to n
abbrev pub Within : ℕ → ℤ → Type 0
Within n t = (0 < variable t) × (variable t ≤ n)

-- the clauses speak of the variables 1 to n only
abbrev pub Over : ℕ → List Clause → Type 0
Over n F = Each (λ C. (t : ℤ) → t ∈ C → Within n t) F

-- t is a literal of L other than on k, or of N other than off k
abbrev pub LeftOver : ℕ → Clause → Clause → ℤ → Type 0
LeftOver k L N t = ((t ∈ L) × (t ≢ on k)) ⊎ ((t ∈ N) × (t ≢ off k))

-- E is the resolvent of L and N on the variable k: L without on k, joined with N without off k, as sets
pub record Resolvent (k : ℕ) (L N E : Clause) : Type 0 where
  pub has_on : on k ∈ L
  pub has_off : off k ∈ N
  pub from : (t : ℤ) → t ∈ E → LeftOver k L N t
  pub all : (t : ℤ) → LeftOver k L N t → t ∈ E

-- the same tests as answers

abbrev pub same : ℤ → ℤ → Bool
same (pos i) (pos j) = i == j
same (pos i) (negsuc j) = false
same (negsuc i) (pos j) = false
same (negsuc i) (negsuc j) = i == j

abbrev pub has : Clause → ℤ → Bool
has [] t = false
has (u ∷ us) t = cond (same u t) true (has us t)
