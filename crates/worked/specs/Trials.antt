-- A life with a trial, so that the law over lives with a closed trial speaks of something.
use Rattle.model.specs.Machine.{fresh, blank}
use Rattle.lives.specs.Lives.{World, Trial}

-- a file of one variable, fresh, and blank slips
abbrev pub beginning : World
beginning = record { file = fresh 1 7; slips = λ i. blank }

abbrev pub SomeTrial : Type 0
SomeTrial = (d : World) × Trial beginning d
