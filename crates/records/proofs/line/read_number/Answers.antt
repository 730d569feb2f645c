use Rattle.std.proofs.Common.{◌+◌, ◌-◌, ◌*◌, ◌%◌, ◌∙◌, rules}
use borrow.Author.Tests.{tests}
use Rattle.std.proofs.lemmas.Iterator.{YieldsList-from_slice}
use Rattle.std.proofs.lemmas.Iterator.Consumers.{fold_from_yields_List}
use Rattle.records.proofs.Digits.{digits_read}
use Rattle.records.proofs.line.read_number.Goals as goal

pub returns : goal.returns
returns c =
    fold_from_yields_List _ (λ n b. (n * 10 % 4294967296 + (b - 48)) % 4294967296) 0 c.fold.result c.fold.ensures.ran (YieldsList-from_slice c.args.bytes.now cc) (λ a x b q k. search (rules, tests))
    ∙ digits_read c.args.bytes.now
