-- The numbers of the declines.
use Rattle.std.specs.Prelude.{ℕ}
use Rattle.model.specs.declared.Decline.{Decline}
use Rattle.model.specs.declared.Decline.TheVariants.{BadSize, TrialStands, NotStarted, BadLiteral, WideClause, ClausesFull, LiteralsFull, SlipFilled, TrialsFull, SlipBlank, OtherFile, NotLatest, OtherSize, FewPlaces, RecordUsed, FewClausePlaces, NamesNothing, LacksVariable, NotClosing, ShortBuffer, RecordFull}

abbrev pub number_of : Decline → ℕ
number_of BadSize = 1
number_of TrialStands = 2
number_of NotStarted = 3
number_of BadLiteral = 4
number_of WideClause = 5
number_of ClausesFull = 6
number_of LiteralsFull = 7
number_of SlipFilled = 8
number_of TrialsFull = 9
number_of SlipBlank = 10
number_of OtherFile = 11
number_of NotLatest = 12
number_of OtherSize = 13
number_of FewPlaces = 14
number_of RecordUsed = 15
number_of FewClausePlaces = 16
number_of (NamesNothing j) = 17
number_of (LacksVariable j) = 18
number_of NotClosing = 19
number_of ShortBuffer = 24
number_of RecordFull = 25
