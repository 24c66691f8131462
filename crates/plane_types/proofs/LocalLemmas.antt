-- On what a row of a table depends: of a port that stays as it is, its row stays where its
-- network is as up, of the same segment and of
-- the same tag.
use Rattle.std.proofs.Common.{◌≡◌, ◌∙◌, ℕ, List, [], Option, Some, None, not, refl, ap}
use Rattle.std.specs.Prelude.{◌&&◌, if◌then◌else◌, option_map, option_and_then}
use Rattle.api_types.specs.Ident.{Ident}
use Rattle.api_types.specs.RowLists.{RowLists}
use Rattle.api_types.specs.Holders.{router_of, dhcp_port}
use Rattle.api_types.specs.Leases.{lease_for}
use Rattle.api_types.specs.Consistent.Carried.{is_bound}
use Rattle.api_types.specs.Live.{is_live, is_at, joins, network_up, segment}
use Rattle.api_types.specs.RowsWith.{network_with}
use Rattle.api_types.specs.Owners.{is_dhcp, is_router_port}
use Rattle.api_types.specs.declared.port.PortRow.{PortRow}
use Rattle.plane_types.specs.TableRows.{tag_of, tap_of, tap_row, bridge_by, to_router, to_there, bridge_row, dhcp_row, neighbours_by, neighbours_of, lease_row, lease_row_by}
use Rattle.plane_types.specs.declared.table.BridgeKey.{BridgeKey}
use Rattle.plane_types.specs.declared.table.BridgeKey.TheVariants.{Dhcp as AtDhcp}
use Rattle.plane_types.specs.declared.table.BridgeTo.TheVariants.{Tap as ToTap}
use Rattle.plane_types.specs.declared.table.TagRow.{TagRow}

-- what tables ask of a network by itself
pub record IsAlike (before after : RowLists) (old new : List TagRow) (n : Ident) : Type 0 where
  pub up : network_up (network_with before n) ≡ network_up (network_with after n)
  pub on : segment before n ≡ segment after n
  pub tag : tag_of old n ≡ tag_of new n

module _ (before after : RowLists) (host : List ℕ) (old new : List TagRow) where
  pub live_same : (p : PortRow) → IsAlike before after old new p.network
      → is_live before p ≡ is_live after p
  unfolding is_live
  live_same p same = ap (λ b. p.up && is_bound p.vif && b) same.up

  pub tap_same : (p : PortRow) → IsAlike before after old new p.network
      → tap_row before host old p ≡ tap_row after host new p
  tap_same p same =
      (λ j. if (live_same p same j && is_at host p) && not (is_router_port p.owner)
      then option_map (tap_of p) (same.tag j) else None)

  pub bridge_same : (p : PortRow) → IsAlike before after old new p.network
      → to_router p (router_of before p) ≡ to_router p (router_of after p) → (key : BridgeKey)
      → bridge_row before host old key p ≡ bridge_row after host new key p
  bridge_same p same routed key =
      (λ j. if live_same p same j
      then bridge_by key (if is_at host p then (if is_router_port p.owner then routed j
      else Some (ToTap p.id)) else to_there (same.on j) p) (same.tag j) else None)

  pub dhcp_same : (p : PortRow) → IsAlike before after old new p.network
      → to_router p (router_of before p) ≡ to_router p (router_of after p)
      → dhcp_row before host old p ≡ dhcp_row after host new p
  dhcp_same p same routed =
      ap (λ o. if is_dhcp p.owner then o else None) (bridge_same p same routed AtDhcp)

  pub neighbours_same : (p : PortRow) → IsAlike before after old new p.network
      → neighbours_of before host old p ≡ neighbours_of after host new p
  neighbours_same p same =
      (λ j. if live_same p same j && joins (same.on j) p.host host
      then neighbours_by p (same.tag j) else [])

  pub lease_same : (p : PortRow) → IsAlike before after old new p.network
      → dhcp_port before p.network ≡ dhcp_port after p.network
      → ((d : PortRow) → lease_for before d p ≡ lease_for after d p)
      → lease_row before host old p ≡ lease_row after host new p
  lease_same p same serving leased =
      go (dhcp_port before p.network) (dhcp_port after p.network) serving
    where
      by : (d : Option PortRow)
          → lease_row_by before host old p d ≡ lease_row_by after host new p d
      by None = refl
      by (Some d) =
          (λ j. if is_at host d
          then option_and_then (λ lease. option_map (λ tag. record {
            port = p.id;
            tag = tag;
            mac = p.mac;
            lease = lease;
          }) (same.tag j)) (leased d j) else None)

      go : (d e : Option PortRow) → d ≡ e
          → (if is_live before p then lease_row_by before host old p d else None)
          ≡ (if is_live after p then lease_row_by after host new p e else None)
      go d e alike =
          (λ j. if live_same p same j then (by d ∙ ap (lease_row_by after host new p) alike) j
          else None)
