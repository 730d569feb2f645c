-- What a stack holds.
use Rattle.std.specs.Prelude.{ℕ, List, length, take}
use Rattle.search.specs.declared.Stack.{Stack}

-- the lowest first
abbrev pub items : {T : Type 0} → Stack T → List T
items s = take s.height s.places.now

-- how many entries it can hold
abbrev pub places_of : {T : Type 0} → Stack T → ℕ
places_of s = length s.places.now
