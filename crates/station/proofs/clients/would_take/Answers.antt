use Rattle.std.proofs.Common.{rules}
use Rattle.station.proofs.Tried.{tried}
use Rattle.station.proofs.clients.would_take.Goals as goal

pub returns : goal.returns
returns c = search (rules, tried)
