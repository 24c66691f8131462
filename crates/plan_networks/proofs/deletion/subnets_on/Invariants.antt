use Rattle.std.proofs.Common.{◌≡◌, ◌++◌, drop, map}
use Rattle.api_types.specs.HeldAddresses.{subnets_on}
use Rattle.api_types.specs.declared.subnet.SubnetRow.{SubnetRow}
use Rattle.plan_networks.proofs.deletion.subnets_on.Given as goal

abbrev pub invariant-loop-subnet : goal.invariant-loop-subnet
invariant-loop-subnet l =
    l.ids ++ map (λ (s : SubnetRow). s.id) (subnets_on (drop l.subnet-index l.subnets) l.network) ≡ map (λ (s : SubnetRow). s.id) (subnets_on l.subnets l.network)
