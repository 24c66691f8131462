-- The DHCP port of a network is chosen alike wherever its owner has the same footing.
use Rattle.std.proofs.Common.{◌≡◌, List, map, Bool, true, false, Option, Some, None, refl, ap, sym, ◌∙◌, not}
use Rattle.std.specs.Prelude.{◌&&◌, find, is_none, option_map}
use Rattle.net_addr.specs.Prefixes.{eui}
use Rattle.net_addr.specs.declared.address.Addr.{Addr}
use Rattle.api_ipam.specs.Addresses.{least_free_address}
use Rattle.plan_subnets.specs.DhcpUpkeep.{dhcp_address, dhcp_mac, dhcp_port_on, makes_dhcp_port, served_address}
use Rattle.api_types.specs.HeldAddresses.{is_address_held, is_mac_held}
use Rattle.api_ipam.specs.MacChoice.{expected_mac}
use Rattle.api_policy.specs.Visibility.{owns_network, seen_ports, sees_port}
use Rattle.apart_laws.specs.Footing.{blank_port, footing}
use Rattle.call_parts.specs.State.{State}
use Rattle.api_types.specs.Consistent.InForm.{is_eui}
use Rattle.api_types.specs.Ident.{Ident}
use Rattle.api_types.specs.Owners.{is_dhcp, is_dhcp_of}
use Rattle.api_types.specs.Table.{ident_eq}
use Rattle.api_types.specs.declared.call.Caller.{Caller}
use Rattle.api_types.specs.declared.port.PortRow.{PortRow}
use Rattle.api_types.specs.declared.subnet.SubnetRow.{SubnetRow}
use Rattle.net_settings.specs.Settings.{SettingsParts}
use Rattle.api_types.proofs.ListLemmas.{and_both, none_some, some_equal}
use Rattle.apart_laws.proofs.ListLemmas.{find-filter, find-map}
use Rattle.apart_laws.proofs.OwnAlike.{owned_port}
use Rattle.apart_laws.proofs.NearAlike.{free_mac_same}

none_view : {X V : Type 0} (view : X → V) (o p : Option X) → option_map view o ≡ option_map view p → is_none o ≡ is_none p
none_view view None None h = refl
none_view view None (Some y) h = none_some (view y) _ h
none_view view (Some x) None h = none_some (view x) _ (sym h)
none_view view (Some x) (Some y) h = refl

-- two lists of ports hold the same on a network
module _ (ports others : List PortRow) (i : Ident) (macs : is_mac_held ports i ≡ is_mac_held others i) where
  dhcp_mac_same : (o p : Option PortRow) → option_map blank_port o ≡ option_map blank_port p → dhcp_mac ports i o ≡ dhcp_mac others i p
  dhcp_mac_same None None alike = ap expected_mac (free_mac_same ports others i macs)
  dhcp_mac_same None (Some q) alike = none_some (blank_port q) _ alike
  dhcp_mac_same (Some p) None alike = none_some (blank_port p) _ (sym alike)
  dhcp_mac_same (Some p) (Some q) alike = ap (λ (x : PortRow). x.mac) (some_equal (blank_port p) (blank_port q) alike)

  module _ (addresses : is_address_held ports i ≡ is_address_held others i) (dhcp : option_map blank_port (dhcp_port_on ports i) ≡ option_map blank_port (dhcp_port_on others i)) where
    served_same : (s : SubnetRow) (eui : Bool) → served_address ports i s eui ≡ served_address others i s eui
    served_same s false = ap (λ (held : Addr → Bool). least_free_address (λ x. not (held x)) s.pools) addresses
    served_same s true = ap (λ mac. Some (eui s.prefix mac)) (dhcp_mac_same (dhcp_port_on ports i) (dhcp_port_on others i) dhcp)

    pub dhcp_address_same : (begins : Bool) (s : SubnetRow) → dhcp_address ports i begins s ≡ dhcp_address others i begins s
    dhcp_address_same false s = refl
    dhcp_address_same true s = served_same s (is_eui s)

    pub makes_same : (begins : Bool) → makes_dhcp_port ports i begins ≡ makes_dhcp_port others i begins
    makes_same begins = ap (λ b. begins && b) (none_view blank_port (dhcp_port_on ports i) (dhcp_port_on others i) dhcp)

module _ (settings : SettingsParts) (caller : Caller) (tenant : caller.admin ≡ false) (s t : State) (same : footing settings s caller ≡ footing settings t caller) where
  -- the DHCP port of a network that the caller owns
  pub dhcp_alike : (i : Ident) → owns_network s.rows caller.project i ≡ true → owns_network t.rows caller.project i ≡ true
      → option_map blank_port (dhcp_port_on s.rows.ports i) ≡ option_map blank_port (dhcp_port_on t.rows.ports i)
  dhcp_alike i owns owns' = seen_dhcp s owns ∙ (ap (λ f. find (is_dhcp_of i) f.ports) same ∙ sym (seen_dhcp t owns'))
    where
      seen_dhcp : (state : State) → owns_network state.rows caller.project i ≡ true → option_map blank_port (dhcp_port_on state.rows.ports i) ≡ find (is_dhcp_of i) (map blank_port (seen_ports state.rows caller))
      seen_dhcp state own = ap (option_map blank_port) (sym (find-filter (sees_port state.rows caller) (is_dhcp_of i) state.rows.ports
          (λ k p at is. owned_port state.rows caller i own p (and_both (ident_eq i p.network) (is_dhcp p.owner) is).0)))
          ∙ sym (find-map (is_dhcp_of i) blank_port (seen_ports state.rows caller))
