use Rattle.api_policy.proofs.FoundLemmas.{found_some, found_none}
use Rattle.api_policy.proofs.visible.is_seen_in.Goals as goal

pub returns-in-Some : goal.returns-in-Some
returns-in-Some g c =
    found_some g.R.Keyed.id_of (g.R.Visible.seen c.args.rows.now c.args.caller.now) c.args.id c.args.table.now c.in-Some.row.now c.is_seen.result c.rows-own_ids.ensures.own_ids c.in-Some.ensures c.is_seen.ensures

pub returns-in-None : goal.returns-in-None
returns-in-None g c =
    found_none g.R.Keyed.id_of (g.R.Visible.seen c.args.rows.now c.args.caller.now) c.args.id c.args.table.now c.rows-own_ids.ensures.own_ids c.in-None.ensures
