-- What consistency asks of the form of a row (Networking API reference v2.0, the refusals of each
-- call).
use Rattle.std.specs.Prelude.{◌&&◌, ◌||◌, not, Bool, List}
use Rattle.api_types.specs.Owners.{is_dhcp}
use Rattle.api_types.specs.Consistent.InForm.{is_network_of, is_subnet_form, is_port_form}
use Rattle.api_types.specs.declared.network.NetworkRow.{NetworkRow}
use Rattle.api_types.specs.declared.subnet.SubnetRow.{SubnetRow}
use Rattle.api_types.specs.declared.port.PortRow.{PortRow}

abbrev pub subnet_formed : List NetworkRow → SubnetRow → Bool
subnet_formed networks s = is_network_of networks s.project s.network && is_subnet_form s

abbrev pub port_formed : List NetworkRow → PortRow → Bool
port_formed networks p =
    (not (is_dhcp p.owner) || is_network_of networks p.project p.network) && is_port_form p
