-- Whether a port holds an address in a subnet that overlaps one of a network's.
use Rattle.std.specs.Prelude.{Bool, List}
use Rattle.std.specs.List.{list_any}
use Rattle.api_types.specs.HeldAddresses.{subnets_on}
use Rattle.api_types.specs.Ident.{Ident}
use Rattle.api_types.specs.RouterWays.{touches}
use Rattle.api_types.specs.declared.port.PortRow.{PortRow}
use Rattle.api_types.specs.declared.subnet.SubnetRow.{SubnetRow}

abbrev pub meets_network : List SubnetRow → Ident → PortRow → Bool
meets_network subnets network p =
    list_any (λ (s : SubnetRow). touches subnets s.prefix p) (subnets_on subnets network)
