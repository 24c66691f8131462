use Rattle.std.proofs.Common.{◌≡◌, ◌∙◌, ◌++◌, ap₂, codes}
use Rattle.api_types.specs.Ident.{ident_text}
use Rattle.neutron_http.proofs.MessageLemmas.{around_two}
use Rattle.neutron_http.proofs.fault.no_gateway.Goals as goal

pub returns : goal.returns
returns c = c.from_string.ensures ∙ c.in_ok-format.ensures.ok
    ∙ ap₂ (λ n s. codes "External network " ++ (n ++ (codes " is not reachable from subnet " ++ (s ++ codes ".")))) (c.as_str-network.ensures ∙ c.in_ok-network.ensures.text) (c.as_str-subnet.ensures ∙ c.in_ok-subnet.ensures.text)
    ∙ around_two (codes "External network ") (ident_text c.args.network) (codes " is not reachable from subnet ") (ident_text c.args.subnet) (codes ".")
