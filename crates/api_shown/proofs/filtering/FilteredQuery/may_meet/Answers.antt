use Rattle.std.proofs.Common.{◌∙◌, ap, sym}
use Rattle.std.specs.List.{list_all}
use Rattle.api_policy.specs.Filtered.{meets as meets_all}
use Rattle.api_shown.specs.Asked.{has_asked}
use Rattle.api_shown.proofs.AskedLemmas.{met_by_name}
use Rattle.api_shown.proofs.filtering.FilteredQuery.may_meet.Goals as goal

pub returns : goal.returns
returns g c = λ fails rows caller admin.
    let members = g.R.Shows.members_of rows caller c.args.row.now in
    let asked = has_asked admin members in
    sym (ap (list_all asked) c.as_slice.ensures.value
    ∙ c.self.invariant asked
    ∙ met_by_name admin members c.self.inside.query.now.filters
    ∙ ap (λ q. meets_all admin q.filters members) c.self.view_is)
    ∙ c.may_all_hold.ensures fails rows caller admin
