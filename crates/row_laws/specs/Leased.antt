-- A subnet that begins or ends to be leased by DHCP, together with what its network's DHCP port
-- takes or gives back.
use Rattle.std.specs.Prelude.{◌≡◌, ◌&&◌, ◌||◌, ◌++◌, ◌∷◌, ℕ, [], Bool, List, true, false, not, filter, slice_set, count_by}
use Rattle.std.specs.List.{list_any}
use Rattle.net_addr.specs.Addresses.{addr_eq, is_four}
use Rattle.net_addr.specs.Macs.{is_unicast}
use Rattle.net_addr.specs.Prefixes.{is_host_of}
use Rattle.net_addr.specs.declared.address.Addr.{Addr}
use Rattle.api_types.specs.Ident.{Ident}
use Rattle.api_types.specs.Table.{ident_eq}
use Rattle.api_types.specs.RowLists.{RowLists}
use Rattle.api_types.specs.Lists.{Each, if_some}
use Rattle.api_types.specs.Owners.{is_dhcp_of}
use Rattle.api_types.specs.Consistent.Numbered.{is_drawn, times_in}
use Rattle.api_types.specs.Consistent.InForm.{is_network_of, is_subnet_form}
use Rattle.api_types.specs.Consistent.HeldOnce.{has_mac}
use Rattle.api_types.specs.Consistent.Hosts.{is_own_address}
use Rattle.api_types.specs.declared.subnet.SubnetRow.{SubnetRow}
use Rattle.api_types.specs.declared.port.PortRow.{PortRow}
use Rattle.api_types.specs.declared.port.Fixed.{Fixed}
use Rattle.api_types.specs.declared.floating.Target.{Target}
use Rattle.row_laws.specs.NewRows.{with_port}
use Rattle.row_laws.specs.Replaced.{with_port_at, with_subnet_at, IsReplacedSubnet}

-- whether a port of the network holds the address
abbrev pub is_held : List PortRow → Ident → Addr → Bool
is_held ports network x =
    list_any
    (λ p. ident_eq network p.network && list_any (λ (f : Fixed). addr_eq f.address x) p.fixed)
    ports

-- an address in a subnet
abbrev pub held_in : SubnetRow → Addr → Fixed
held_in s x = record { subnet = s.id; address = x }

-- a subnet that wasn't leased in place of one that is, and a free address of it for a DHCP port of
-- its network
pub record BeginsLeased (rows : RowLists) (old new : SubnetRow) (p : PortRow) (x : Addr)
    : Type 0 where
  pub same : IsReplacedSubnet rows.ports old new
  pub form : is_subnet_form new ≡ true
  pub before : old.dhcp ≡ false
  pub after : new.dhcp ≡ true
  pub service : is_dhcp_of new.network p ≡ true
  pub host : is_host_of new.prefix x ≡ true
  pub own : is_own_address p x new ≡ true
  pub free : is_held rows.ports new.network x ≡ false

-- a DHCP port that holds no address yet, on a network that has none
pub record IsNewDhcpPort (rows : RowLists) (p : PortRow) : Type 0 where
  pub fresh : times_in rows p.id ≡ 0
  pub drawn : is_drawn rows.projects p.id ≡ true
  pub owner : is_network_of rows.networks p.project p.network ≡ true
  pub alone : list_any (is_dhcp_of p.network) rows.ports ≡ false
  pub unicast : is_unicast p.mac ≡ true
  pub mac : count_by (has_mac p.network p.mac) rows.ports ≡ 0
  pub unsecured : p.secured ≡ false
  pub no_groups : p.groups ≡ []
  pub no_pairs : p.pairs ≡ []
  pub no_fixed : p.fixed ≡ []

-- the port with one more address, held last
abbrev pub holding : PortRow → Fixed → PortRow
holding p f = record p { fixed = p.fixed ++ f ∷ [] }

-- the rows with the subnet leased by the DHCP port at a place, or by a new one
abbrev pub leased_at : RowLists → ℕ → SubnetRow → ℕ → PortRow → Addr → RowLists
leased_at rows place s k p x =
    with_port_at (with_subnet_at rows place s) k (holding p (held_in s x))

abbrev pub leased_by_new : RowLists → ℕ → SubnetRow → PortRow → Addr → RowLists
leased_by_new rows place s p x = with_port (with_subnet_at rows place s) (holding p (held_in s x))

-- the addresses outside a subnet
abbrev pub outside : Ident → List Fixed → List Fixed
outside subnet fixed = filter (λ (f : Fixed). not (ident_eq subnet f.subnet)) fixed

-- a floating address that leads to the port leads to an address that is kept
abbrev pub leads_to_kept : Ident → List Fixed → Target → Bool
leads_to_kept port kept t =
    not (ident_eq t.port port) || list_any (λ (f : Fixed). is_four f.address t.fixed) kept

-- a subnet that was leased in place of one that isn't, and its network's DHCP port, to whose
-- addresses there nothing leads
pub record EndsLeased (rows : RowLists) (old new : SubnetRow) (p : PortRow) : Type 0 where
  pub same : IsReplacedSubnet rows.ports old new
  pub form : is_subnet_form new ≡ true
  pub before : old.dhcp ≡ true
  pub after : new.dhcp ≡ false
  pub service : is_dhcp_of old.network p ≡ true
  pub targets : Each (λ f. if_some (leads_to_kept p.id (outside old.id p.fixed)) f.target ≡ true)
      rows.floatings

-- the ports with the one at a place keeping these addresses, or without it where there is none
abbrev pub ports_left : List PortRow → ℕ → PortRow → List Fixed → List PortRow
ports_left ports k p [] = filter (λ q. not (ident_eq p.id q.id)) ports
ports_left ports k p (f ∷ left) = slice_set ports k (record p { fixed = f ∷ left })

abbrev pub unleased_at : RowLists → ℕ → SubnetRow → ℕ → PortRow → List Fixed → RowLists
unleased_at rows place s k p left =
    record (with_subnet_at rows place s) { ports = ports_left rows.ports k p left }
