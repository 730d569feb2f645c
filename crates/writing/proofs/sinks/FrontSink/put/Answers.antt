use Rattle.std.proofs.Common.{◌+◌, arith, rules}
use Rattle.writing.proofs.Filling.{filled_more}
use Rattle.writing.proofs.sinks.FrontSink.put.Goals as goal

pub returns : goal.returns
returns c a x h =
    let t = c.args.self.now in
    (h.0, filled_more a.buffer.now x t.buffer.now t.at h.1 t.within c.args.bytes.now _ _ (t.at + c.min.result) (omega arith) (omega arith) (search rules))
