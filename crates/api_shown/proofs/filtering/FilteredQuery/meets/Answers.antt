use Rattle.std.proofs.Common.{◌∙◌, map, ap}
use Rattle.std.specs.List.{list_all}
use Rattle.std.proofs.lemmas.Result.{IfOk-weaker}
use Rattle.api_types.specs.Printed.{member_of}
use Rattle.api_shown.specs.Asked.{has_asked}
use Rattle.api_policy.specs.Filtered.{meets as meets_all}
use Rattle.api_shown.proofs.AskedLemmas.{met_by_name}
use Rattle.api_shown.proofs.filtering.FilteredQuery.meets.Goals as goal

pub returns : goal.returns
returns c =
    let admin = c.args.admin in
    let members = map member_of c.args.members.now in
    IfOk-weaker c.are_all_met.result _ _
    (λ b is.
    is
    ∙ ap (list_all (has_asked admin members)) c.as_slice.ensures.value
    ∙ c.self.invariant (has_asked admin members)
    ∙ met_by_name admin members c.self.inside.query.now.filters
    ∙ ap (λ q. meets_all admin q.filters members) c.self.view_is)
    c.are_all_met.ensures
