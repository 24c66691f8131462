-- A subnet that begins to be leased: the edit on its network's DHCP port, or the new DHCP port, keeps rows consistent.
use Rattle.std.proofs.Common.{List, None, Option, Some, [], ap, arith, false, refl, slice_get, slice_set, sym, true, ℕ, ◌++◌, ◌∙◌, ◌∷◌, ◌≡◌}
use Rattle.std.specs.Prelude.{◌&&◌}
use Rattle.std.specs.Str.{bytes_eq}
use Rattle.net_addr.specs.Prefixes.{is_host_of}
use Rattle.net_addr.specs.declared.address.Addr.{Addr}
use Rattle.api_types.specs.Consistent.{IsConsistent}
use Rattle.api_types.specs.Consistent.HeldOnce.{has_mac}
use Rattle.api_types.specs.Consistent.Hosts.{is_own_address}
use Rattle.api_types.specs.Consistent.InForm.{is_subnet_form}
use Rattle.api_types.specs.Consistent.Numbered.{is_drawn, times_in}
use Rattle.api_types.specs.Ident.{Ident}
use Rattle.api_types.specs.Owners.{is_dhcp, is_dhcp_of}
use Rattle.api_types.specs.RowLists.{RowLists}
use Rattle.api_types.specs.Table.{ident_eq}
use Rattle.api_types.specs.declared.network.NetworkRow.{NetworkRow}
use Rattle.api_types.specs.declared.port.PortRow.{PortRow}
use Rattle.api_types.specs.declared.subnet.SubnetRow.{SubnetRow}
use Rattle.row_laws.specs.Leased.{BeginsLeased, held_in, holding}
use Rattle.row_laws.specs.Replaced.{IsReplacedSubnet}
use Rattle.api_types.proofs.ListLemmas.{any-none, at-any, both_and, count-none, none-any}
use Rattle.api_types.proofs.NameLemmas.{bytes_itself, ident_itself}
use Rattle.row_laws.proofs.Service.SubnetLeased.{subnet_leased, subnet_leased_by_new}
use Rattle.kept_laws.proofs.EditedRows.{put_at}
use Rattle.kept_laws.proofs.PoolHosts.{free_mac_is}
use Rattle.plan_subnets.specs.DhcpUpkeep.{begin_serving, dhcp_mac, dhcp_port_on, new_dhcp_port, serving}
use Rattle.call_parts.specs.Edits.{Edit, made}
use Rattle.api_types.specs.HeldAddresses.{fixed_at, is_address_held}
use Rattle.api_ipam.specs.MacChoice.{expected_mac, free_mac}
use Rattle.api_ml2.specs.ServicePorts.{dhcp_owner}
use Rattle.kept_laws.proofs.OutcomeLemmas.{found_at, unfound}
use Rattle.net_settings.specs.Settings.{SettingsParts}

-- the rows after the edits, with any subnets, and with the subnet at the place leased
pub record HasBegun (rows : RowLists) (edits : List Edit) (place : ℕ) (new : SubnetRow) : Type 0 where
  pub ports : List PortRow
  pub is : (subnets : List SubnetRow) → made (record rows { subnets = subnets }) edits ≡ record rows { subnets = subnets; ports = ports }
  pub consistent : IsConsistent (record rows { subnets = slice_set rows.subnets place new; ports = ports })

-- where a DHCP port comes along, its id is new and drawn, and its MAC address is the least free one
pub record HasPortIds (rows : RowLists) (network i : Ident) (mac : ℕ) : Type 0 where
  pub fresh : times_in rows i ≡ 0
  pub drawn : is_drawn rows.projects i ≡ true
  pub mac_is : free_mac rows.ports network ≡ Some mac

-- the address is a host address of the subnet, free on the network, and the DHCP port's own
pub record IsServable (ports : List PortRow) (network : Ident) (s : SubnetRow) (x : Addr) : Type 0 where
  pub host : is_host_of s.prefix x ≡ true
  pub free : is_address_held ports network x ≡ false
  pub own : (q : PortRow) → q.mac ≡ dhcp_mac ports network (dhcp_port_on ports network) → is_own_address q x s ≡ true

dhcp_is : is_dhcp dhcp_owner ≡ true
unfolding is_dhcp
dhcp_is = bytes_itself dhcp_owner

module _ (settings : SettingsParts) (rows : RowLists) (place : ℕ) (old new : SubnetRow) (at : slice_get rows.subnets place ≡ Some old) (c : IsConsistent rows)
    (same : IsReplacedSubnet rows.ports old new) (form : is_subnet_form new ≡ true) (before : old.dhcp ≡ false) (after : new.dhcp ≡ true)
    (n : NetworkRow) (l : ℕ) (at_n : slice_get rows.networks l ≡ Some n) (there : new.network ≡ n.id) (x : Addr) (servable : IsServable rows.ports n.id new x) where
  -- what holds of each DHCP port that takes the address
  begins : (p : PortRow) → is_dhcp_of n.id p ≡ true → p.mac ≡ dhcp_mac rows.ports n.id (dhcp_port_on rows.ports n.id) → BeginsLeased rows old new p x
  begins p service mac = record {
    same = same;
    form = form;
    before = before;
    after = after;
    service = ap (λ i. is_dhcp_of i p) there ∙ service;
    host = servable.host;
    own = servable.own p mac;
    free = ap (λ i. is_address_held rows.ports i x) there ∙ servable.free;
  }

  -- the port that is there takes it
  taken : (i : Ident) (mac k : ℕ) (p : PortRow) → slice_get rows.ports k ≡ Some p → is_dhcp_of n.id p ≡ true → dhcp_port_on rows.ports n.id ≡ Some p
      → HasBegun rows (serving settings n (Some p) i mac (fixed_at new.id x)) place new
  taken i mac k p at_p service found = record {
    ports = slice_set rows.ports k (holding p (held_in new x));
    is = λ subnets. ap (λ ports. record rows { subnets = subnets; ports = ports })
        (put_at (λ (q : PortRow). q.id) rows.ports k p (holding p (held_in new x)) at_p refl (λ j. omega (arith, c.numbered.ids j)));
    consistent = subnet_leased rows place old new at c k p x at_p (begins p service (sym (ap (dhcp_mac rows.ports n.id) found)));
  }

  -- a new port takes it
  made_with : (i : Ident) (mac : ℕ) → dhcp_port_on rows.ports n.id ≡ None → HasPortIds rows n.id i mac → HasBegun rows (serving settings n None i mac (fixed_at new.id x)) place new
  made_with i mac none ids =
      let bare : PortRow = record (new_dhcp_port settings n i mac (fixed_at new.id x)) { fixed = [] } in
      let own_mac = free_mac_is rows.ports n.id mac ids.mac_is in
      let service : is_dhcp_of n.id bare ≡ true = both_and (ident_eq n.id n.id) (is_dhcp dhcp_owner) (ident_itself n.id) dhcp_is in
      record {
        ports = rows.ports ++ new_dhcp_port settings n i mac (fixed_at new.id x) ∷ [];
        is = λ subnets. refl;
        consistent = subnet_leased_by_new rows place old new at c bare x (record {
          fresh = ids.fresh;
          drawn = ids.drawn;
          owner = at-any (λ (m : NetworkRow). ident_eq n.id m.id && bytes_eq m.project n.project) rows.networks l n at_n (both_and (ident_eq n.id n.id) _ (ident_itself n.id) (bytes_itself n.project));
          alone = any-none (is_dhcp_of n.id) rows.ports (unfound (is_dhcp_of n.id) rows.ports none);
          unicast = own_mac.unicast;
          mac = count-none (has_mac n.id mac) rows.ports (none-any (has_mac n.id mac) rows.ports own_mac.free);
          unsecured = refl;
          no_groups = refl;
          no_pairs = refl;
          no_fixed = refl;
        }) (begins bare service (sym (ap (dhcp_mac rows.ports n.id) none ∙ ap expected_mac ids.mac_is)));
      }

  pub serving_begun : (i : Ident) (mac : ℕ) → (dhcp_port_on rows.ports n.id ≡ None → HasPortIds rows n.id i mac)
      → HasBegun rows (begin_serving settings rows n true i mac (fixed_at new.id x)) place new
  serving_begun i mac ids = by (dhcp_port_on rows.ports n.id) refl
    where
      by : (o : Option PortRow) → dhcp_port_on rows.ports n.id ≡ o → HasBegun rows (serving settings n o i mac (fixed_at new.id x)) place new
      by None e = made_with i mac e (ids e)
      by (Some p) e = let found = found_at (is_dhcp_of n.id) rows.ports p e in taken i mac found.0 p found.1 found.2 e
