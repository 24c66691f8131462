-- Each fixed address is a host address of its subnet.
use Rattle.std.specs.Prelude.{◌&&◌, ◌||◌, not, Bool, List}
use Rattle.std.specs.List.{list_all}
use Rattle.net_addr.specs.Addresses.{addr_eq}
use Rattle.net_addr.specs.Prefixes.{eui, is_host_of}
use Rattle.net_addr.specs.declared.address.Addr.{Addr}
use Rattle.api_types.specs.Lists.{Pass, stands_so, is_some_so}
use Rattle.api_types.specs.Consistent.InForm.{is_eui}
use Rattle.api_types.specs.Owners.{is_interface}
use Rattle.api_types.specs.declared.subnet.SubnetRow.{SubnetRow}
use Rattle.api_types.specs.declared.port.PortRow.{PortRow}
use Rattle.api_types.specs.declared.port.Fixed.{Fixed}

-- in a subnet whose ports make their addresses themselves it is the one that the port's MAC gives,
-- or a router's interface has the gateway's
abbrev pub is_own_address : PortRow → Addr → SubnetRow → Bool
is_own_address p x s =
    not (is_eui s)
    || (addr_eq x (eui s.prefix p.mac)
    || (is_interface p.owner && is_some_so (addr_eq x) s.gateway))

abbrev pub is_host_in : List SubnetRow → PortRow → Fixed → Bool
is_host_in subnets p f =
    stands_so (λ s. s.id) f.subnet
    (λ s. is_host_of s.prefix f.address && is_own_address p f.address s) subnets

pub record AreHosts (subnets : List SubnetRow) (ports : List PortRow) : Type 0 where
  pub addresses : Pass (λ p. list_all (is_host_in subnets p) p.fixed) ports
