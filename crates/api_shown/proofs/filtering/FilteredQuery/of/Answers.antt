use Rattle.std.proofs.Common.{◌∙◌, ap}
use Rattle.std.specs.List.{list_all}
use Rattle.api_types.specs.declared.call.Filter.{Filter}
use Rattle.api_shown.specs.Asked.{asked_under}
use Rattle.api_shown.proofs.filtering.FilteredQuery.of.Goals as goal

pub invariant_of-result : goal.invariant_of-result
invariant_of-result c = λ p.
    c.in_ok-filters_by_name.ensures p ∙ ap (λ filters. list_all (λ (f : Filter). p (asked_under filters f.name)) filters) c.as_slice.ensures
