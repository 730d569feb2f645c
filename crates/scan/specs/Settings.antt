-- What settings hold, and what a look at them answers.
use Rattle.std.specs.Prelude.{◌≡◌, ℕ, ◌≤◌, Bool, true, false, Some, None, Option, slice_index}
use Rattle.model.specs.Search.{Setting}

-- every variable is off, on or unset
abbrev pub EachSet : Setting → Type 0
EachSet σ = (k : ℕ) → slice_index σ k ≤ 2

-- whether a literal is true, where it is set: its value is 1, 0 or 2
abbrev pub Looks : ℕ → Option Bool → Type 0
Looks v (Some true) = v ≡ 1
Looks v (Some false) = v ≡ 0
Looks v None = v ≡ 2
