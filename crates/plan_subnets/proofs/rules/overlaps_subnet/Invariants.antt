use Rattle.std.proofs.Common.{◌≡◌, drop}
use Rattle.std.specs.List.{list_any}
use Rattle.net_addr.specs.Prefixes.{overlaps}
use Rattle.api_types.specs.HeldAddresses.{subnets_on}
use Rattle.api_types.specs.declared.subnet.SubnetRow.{SubnetRow}
use Rattle.plan_subnets.proofs.rules.overlaps_subnet.Given as goal

-- none so far overlaps
abbrev pub invariant-loop-subnet : goal.invariant-loop-subnet
invariant-loop-subnet l =
    list_any (λ (s : SubnetRow). overlaps l.prefix s.prefix) (subnets_on (drop l.subnet-index l.subnets) l.network)
    ≡ list_any (λ (s : SubnetRow). overlaps l.prefix s.prefix) (subnets_on l.subnets l.network)
