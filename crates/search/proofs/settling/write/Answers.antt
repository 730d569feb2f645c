use Rattle.search.proofs.Sheets.{written_more}
use Rattle.search.proofs.settling.write.Goals as goal

pub loop-i-preserved : goal.loop-i-preserved
loop-i-preserved c = written_more c.args.settings.now c.args.sheet.now c.loop-i.sheet c.loop-i.i c.from.result c.loop-i-test.true c.requires c.loop-i.invariant c.from.ensures
