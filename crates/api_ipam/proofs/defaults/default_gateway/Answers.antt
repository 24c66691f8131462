use Rattle.std.proofs.Common.{◌∙◌, ap}
use Rattle.net_addr.specs.Prefixes.{Span}
use Rattle.api_types.proofs.ListLemmas.{none_some, some_equal}
use Rattle.api_ipam.proofs.DefaultLemmas.{has_hosts}
use Rattle.api_ipam.proofs.defaults.default_gateway.Goals as goal

pub unreachable-requires : goal.unreachable-requires
unreachable-requires c = none_some _ _ (c.in-None.ensures.word ∙ has_hosts c.args.prefix c.requires)

pub returns : goal.returns
returns c = ap (λ (s : Span). s.first) (c.hosts-in-Some.view_is ∙ some_equal _ _ (c.in-Some.ensures.word ∙ has_hosts c.args.prefix c.requires))
