-- What is leased to a port (RFC 2131, RFC 2132): the first of its addresses in a subnet in which
-- the DHCP port holds one.
use Rattle.std.specs.Prelude.{◌&&◌, Option, Some, None, find, option_and_then}
use Rattle.net_addr.specs.Addresses.{is_v4}
use Rattle.api_types.specs.Owners.{holds_in}
use Rattle.api_types.specs.RowLists.{RowLists}
use Rattle.api_types.specs.declared.port.Fixed.{Fixed}
use Rattle.api_types.specs.declared.port.PortRow.{PortRow}
use Rattle.api_types.specs.declared.subnet.SubnetRow.{SubnetRow}
use Rattle.api_types.specs.RowsWith.{subnet_with}
use Rattle.api_types.specs.declared.lease.Lease.{Lease}

abbrev pub lease_of : Fixed → SubnetRow → Lease
lease_of f s = record {
  address = f.address;
  length = s.prefix.len;
  gateway = s.gateway;
  name_servers = s.dns;
  host_routes = s.host_routes;
}

abbrev pub lease_in : RowLists → Fixed → Option Lease
lease_in rows f = elim (subnet_with rows f.subnet) [ None ↦ None | Some s ↦ Some (lease_of f s) ]

-- an ask for a lease (RFC 2131) is answered with the first address, of the live port with the MAC,
-- in a subnet in which the DHCP port holds one
abbrev pub lease_for : RowLists → PortRow → PortRow → Option Lease
lease_for rows d q =
    option_and_then (lease_in rows)
    (find (λ (f : Fixed). is_v4 f.address && holds_in f.subnet d) q.fixed)
