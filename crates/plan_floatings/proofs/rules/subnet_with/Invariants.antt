use Rattle.std.proofs.Common.{◌≡◌, drop, find}
use Rattle.net_addr.specs.Prefixes.{is_host_of}
use Rattle.net_addr.specs.declared.address.Addr.TheVariants.{V4}
use Rattle.api_types.specs.HeldAddresses.{subnets_on}
use Rattle.api_types.specs.declared.subnet.SubnetRow.{SubnetRow}
use Rattle.plan_floatings.proofs.rules.subnet_with.Given as goal

-- none so far has the address
abbrev pub invariant-loop-subnet : goal.invariant-loop-subnet
invariant-loop-subnet l =
    find (λ (s : SubnetRow). is_host_of s.prefix (V4 l.address)) (subnets_on (drop l.subnet-index l.subnet-items) l.network)
    ≡ find (λ (s : SubnetRow). is_host_of s.prefix (V4 l.address)) (subnets_on l.rows.subnets l.network)
