use Rattle.std.proofs.Common.{◌∙◌, ◌++◌, ap, codes, decimal}
use Rattle.api_types.specs.Titles.{resource_of}
use Rattle.neutron_http.proofs.MessageLemmas.{around_three}
use Rattle.neutron_http.proofs.fault.over_quota.Goals as goal

pub returns : goal.returns
returns c = c.from_string.ensures ∙ c.in_ok-format.ensures.ok
    ∙ ap (λ w. codes "Quota exceeded for " ++ (w ++ (codes ": limit " ++ (decimal c.args.limit ++ (codes ", used " ++ (decimal c.args.used ++ codes ".")))))) c.resource-word.ensures
    ∙ around_three (codes "Quota exceeded for ") (resource_of c.args.resource) (codes ": limit ") (decimal c.args.limit) (codes ", used ") (decimal c.args.used) (codes ".")
