use Rattle.std.proofs.Common.{◌≡◌, drop}
use Rattle.std.specs.List.{list_any}
use Rattle.api_types.specs.HeldAddresses.{subnets_on}
use Rattle.api_types.specs.RouterWays.{touches}
use Rattle.api_types.specs.declared.subnet.SubnetRow.{SubnetRow}
use Rattle.api_router.specs.Ways.{meets_network}
use Rattle.api_router.proofs.ways.meets_network.Given as goal

-- none so far overlaps one of the port
abbrev pub invariant-loop-subnet : goal.invariant-loop-subnet
invariant-loop-subnet l =
    list_any (λ (s : SubnetRow). touches l.subnets s.prefix l.port) (subnets_on (drop l.subnet-index l.subnets) l.network) ≡ meets_network l.subnets l.network l.port
