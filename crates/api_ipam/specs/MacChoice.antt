-- Which MAC address a port takes.
use Rattle.api_types.specs.Least.{least_from}
use Rattle.api_types.specs.HeldAddresses.{is_mac_held}
use Rattle.api_types.specs.Ident.{Ident}
use Rattle.api_types.specs.declared.form.Given.TheVariants.{Absent, Is, Null}
use Rattle.api_types.specs.declared.form.Given.{Given}
use Rattle.api_types.specs.declared.port.PortRow.{PortRow}
use Rattle.std.specs.Prelude.{Bool, List, Option, Some, false, not, true, unwrap_or, ◌^◌}
use Rattle.net_addr.specs.Words.{MacAddress}

-- the generated MAC addresses begin with fa:16:3e, as Neutron's `base_mac`
abbrev pub first_mac : MacAddress
first_mac = 0xfa16_3e00_0000

-- the least generated MAC address that no port of the network holds
abbrev pub free_mac : List PortRow → Ident → Option MacAddress
free_mac ports network = least_from (λ m. not (is_mac_held ports network m)) first_mac (2 ^ 24)

-- a MAC address where a port is made, and otherwise none
abbrev pub mac_if : Bool → List PortRow → Ident → Option MacAddress
mac_if false ports network = Some 0
mac_if true ports network = free_mac ports network

-- the MAC address that is named, or the least free generated one
abbrev pub mac_for : List PortRow → Ident → Given MacAddress → Option MacAddress
mac_for ports network Absent = free_mac ports network
mac_for ports network Null = free_mac ports network
mac_for ports network (Is mac) = Some mac

-- the MAC address by which addresses are chosen, before a missing one is refused
abbrev pub expected_mac : Option MacAddress → MacAddress
expected_mac mac = unwrap_or mac 0
