use Rattle.std.proofs.Common.{◌∙◌, ap}
use Rattle.std.proofs.lemmas.Result.{IfOk-weaker}
use Rattle.api_policy.specs.Listed.{cut}
use Rattle.api_shown.proofs.listing.listed_in.Goals as goal

pub returns : goal.returns
returns g c =
    let rows = c.args.rows.now in
    let caller = c.args.caller.now in
    IfOk-weaker c.listed_of.result _ _
    (λ s is. is ∙ ap (cut c.args.query.now.limit) (c.candidates_of-candidates.ensures rows caller c.args.kind caller.admin (g.R.Visible.seen rows caller)))
    c.listed_of.ensures
