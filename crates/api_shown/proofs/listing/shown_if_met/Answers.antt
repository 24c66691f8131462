use Rattle.std.proofs.Common.{Bool, None, Some, ap, sym, if◌then◌else◌}
use Rattle.api_policy.specs.Filtered.{meets as meets_all}
use Rattle.api_policy.specs.Shown.{shown_as}
use Rattle.api_types.proofs.NameLemmas.{and_fails}
use Rattle.api_shown.proofs.listing.shown_if_met.Goals as goal

pub returns-then-not-may_meet : goal.returns-then-not-may_meet
returns-then-not-may_meet g c =
    let rows = c.args.rows.now in
    let caller = c.args.caller.now in
    let query = c.args.query.now in
    let members = g.R.Shows.members_of rows caller c.args.row.now in
    sym (ap (λ (b : Bool). if b then Some (shown_as c.args.kind caller.admin query.fields members) else None)
    (and_fails (g.R.Visible.seen rows caller c.args.row.now) (meets_all caller.admin query.filters members) (c.may_meet.ensures c.if-not-may_meet.true rows caller caller.admin)))
