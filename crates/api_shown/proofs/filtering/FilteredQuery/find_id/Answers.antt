use Rattle.std.proofs.Common.{◌∙◌, ap, sym}
use Rattle.std.specs.List.{list_all}
use Rattle.std.proofs.lemmas.Option.{IfSome_then}
use Rattle.api_policy.specs.Filtered.{meets as meets_all}
use Rattle.api_shown.specs.Asked.{has_asked}
use Rattle.api_shown.proofs.AskedLemmas.{met_by_name}
use Rattle.api_shown.proofs.filtering.FilteredQuery.find_id.Goals as goal

pub returns : goal.returns
returns c =
    IfSome_then c.find_id_among.result c.find_id_among.ensures
    (λ asked only i fits other admin members shown.
    let test = has_asked admin members in
    sym (ap (list_all test) c.as_slice.ensures.value
    ∙ c.self.invariant test
    ∙ met_by_name admin members c.self.inside.query.now.filters
    ∙ ap (λ q. meets_all admin q.filters members) c.self.view_is)
    ∙ only i fits other admin members shown)
