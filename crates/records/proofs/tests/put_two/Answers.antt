use Rattle.std.proofs.Common.{[], ◌∷◌, ap, ◌∙◌}
use Rattle.model.specs.Settling.{noted}
use Rattle.model.proofs.Noted.{put_noted, put_declined, noted_noted}
use Rattle.records.proofs.tests.put_two.Goals as goal

pub returns-in_err-put : goal.returns-in_err-put
returns-in_err-put g c =
    let n = c.in_err-put.ensures in
    record { tied = n.tied; noted = put_declined _ c.args.first _ _ (c.args.first ∷ c.args.second ∷ []) n.puts }

pub returns : goal.returns
returns g c =
    let n = c.in_ok-put.ensures in
    let a = c.args.first in
    let b = c.args.second in
    let m = g.R.Record.meaning c.args.steps.now in
    record {
      tied = g.R.Record.joins _ _ _ n.tied c.put-2.ensures.tied;
      noted = put_noted _ b _ c.put-2.result c.put-2.ensures.puts ∙ (ap (λ k. noted k (b ∷ [])) n.puts.2 ∙ noted_noted m (a ∷ []) (b ∷ []));
    }
