-- What a fault of reading says: its number, its place and its layer.
use Rattle.std.specs.Prelude.{ℕ}
use Rattle.model.specs.declared.TextFault.TheVariants.{InWord, Problem, Variables, Clauses}
use Rattle.model.specs.declared.ReadFault.{ReadFault}
use Rattle.model.specs.declared.ReadFault.TheVariants.{InText, InFile}
use Rattle.model.specs.declared.Decline.{Decline}
use Rattle.model.specs.declared.Layer.{Layer}
use Rattle.model.specs.declared.Layer.TheVariants.{Word, Text, File}
use Rattle.model.specs.Declines.{number_of}

abbrev pub fault_number : ReadFault → ℕ
fault_number (InText (InWord w)) = 20
fault_number (InText (Problem at)) = 21
fault_number (InText (Variables at)) = 22
fault_number (InText (Clauses at)) = 23
fault_number (InFile f) = number_of f.decline

-- how many bytes of the text stand before it
abbrev pub fault_place : ReadFault → ℕ
fault_place (InText (InWord w)) = w.place
fault_place (InText (Problem at)) = at
fault_place (InText (Variables at)) = at
fault_place (InText (Clauses at)) = at
fault_place (InFile f) = f.place

abbrev pub fault_layer : ReadFault → Layer
fault_layer (InText (InWord w)) = Word
fault_layer (InText (Problem at)) = Text
fault_layer (InText (Variables at)) = Text
fault_layer (InText (Clauses at)) = Text
fault_layer (InFile f) = File

-- The faults, each at its place.

-- 20: a word is no number
abbrev pub word_fault : ℕ → ReadFault
word_fault at = InText (InWord (record { place = at }))

-- 21: the problem line is missing, repeated or malformed
abbrev pub problem_fault : ℕ → ReadFault
problem_fault at = InText (Problem at)

-- 22: its variable count is not the file's
abbrev pub variables_fault : ℕ → ReadFault
variables_fault at = InText (Variables at)

-- 23: the text ends inside a clause, or its clauses are not as many as that line says
abbrev pub clauses_fault : ℕ → ReadFault
clauses_fault at = InText (Clauses at)

-- the file's own
abbrev pub file_fault : ℕ → Decline → ReadFault
file_fault at d = InFile (record { place = at; decline = d })
