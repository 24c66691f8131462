-- The subnets that a tenant sees, and what is held on a network that it owns.
use Rattle.std.proofs.Common.{◌≡◌, true, false, Option, Some, slice_get, ap, ℕ}
use Rattle.std.specs.Prelude.{◌&&◌}
use Rattle.std.specs.Str.{bytes_eq}
use Rattle.api_types.specs.HeldAddresses.{is_address_held, is_mac_held}
use Rattle.api_policy.specs.Seen.{subnet_seen}
use Rattle.api_policy.specs.Visibility.{owns_network, seen_subnets, sees_network, sees_subnet}
use Rattle.apart_laws.specs.Footing.{Near, footing, is_near}
use Rattle.api_types.specs.Refusing.{at_name}
use Rattle.call_parts.specs.State.{State}
use Rattle.api_types.specs.Consistent.{IsConsistent}
use Rattle.api_types.specs.Ident.{Ident}
use Rattle.api_types.specs.RowLists.{RowLists}
use Rattle.api_types.specs.Table.{ident_eq}
use Rattle.api_types.specs.declared.call.Caller.{Caller}
use Rattle.api_types.specs.declared.network.NetworkRow.{NetworkRow}
use Rattle.api_types.specs.declared.subnet.SubnetRow.{SubnetRow}
use Rattle.net_settings.specs.Settings.{SettingsParts}
use Rattle.api_types.proofs.ListLemmas.{and_both, any-filter_kept, at_filter}
use Rattle.apart_laws.proofs.FootingLemmas.{near_same}
use Rattle.apart_laws.proofs.ListLemmas.{name_here, or_left, or_right}

abbrev pub subnet_id : SubnetRow → Ident
subnet_id r = r.id

-- an owned network is near
pub owned_near : (rows : RowLists) (caller : Caller) (i : Ident) → owns_network rows caller.project i ≡ true → is_near rows caller i ≡ true
owned_near rows caller i owns = or_left _ _ (any-filter_kept (sees_network rows caller) (λ (n : NetworkRow). ident_eq i n.id && bytes_eq n.project caller.project) (λ (n : NetworkRow). ident_eq i n.id) rows.networks
    (λ m n at h. let both = and_both (ident_eq i n.id) (bytes_eq n.project caller.project) h in (or_left _ _ (or_right caller.admin _ both.1), both.0)) owns)

module _ (settings : SettingsParts) (caller : Caller) (tenant : caller.admin ≡ false) (s t : State) (c : IsConsistent s.rows) (d : IsConsistent t.rows) (same : footing settings s caller ≡ footing settings t caller) where
  -- what is chosen on a network that the caller owns

  pub owned_macs : (i : Ident) → owns_network s.rows caller.project i ≡ true → is_mac_held s.rows.ports i ≡ is_mac_held t.rows.ports i
  owned_macs i owns = ap (λ (z : Near). z.macs) (near_same settings caller s t same i (owned_near s.rows caller i owns))

  pub owned_addresses : (i : Ident) → owns_network s.rows caller.project i ≡ true → is_address_held s.rows.ports i ≡ is_address_held t.rows.ports i
  owned_addresses i owns = ap (λ (z : Near). z.addresses) (near_same settings caller s t same i (owned_near s.rows caller i owns))

  -- a subnet that is seen, and who uses it

  pub subnet_found : (name : Option Ident) → subnet_seen s.rows caller name ≡ subnet_seen t.rows caller name
  subnet_found name = ap (λ f. at_name subnet_id name f.subnets) same

  pub subnet_here : (state : State) (name : Option Ident) (r : SubnetRow) → subnet_seen state.rows caller name ≡ Some r → (k : ℕ) × (slice_get state.rows.subnets k ≡ Some r)
  subnet_here state name r found =
      let here = name_here subnet_id name (seen_subnets state.rows caller) r found in
      let there = at_filter (sees_subnet state.rows caller) state.rows.subnets here.0 r here.1 in (there.0, there.1)
