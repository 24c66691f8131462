-- What a port that sees its network alike gives to the tables is what it gave.
use Rattle.std.proofs.Common.{◌≡◌, ◌∙◌, ℕ, List, [], None, ap, not, sym}
use Rattle.std.specs.Prelude.{◌&&◌, if◌then◌else◌, option_map}
use Rattle.api_types.specs.Consistent.{IsConsistent}
use Rattle.api_types.specs.Live.{is_at, is_joined, is_live}
use Rattle.api_types.specs.Owners.{is_dhcp, is_router_port}
use Rattle.api_types.specs.RowLists.{RowLists}
use Rattle.api_types.specs.declared.port.PortRow.{PortRow}
use Rattle.plane_types.specs.TableRows.{bridge_by, bridge_row, dhcp_row, end_of, mac_row, neighbours_by, neighbours_of, tag_of, tap_of, tap_row}
use Rattle.plane_types.specs.declared.table.BridgeKey.{BridgeKey}
use Rattle.plane_types.specs.declared.table.BridgeKey.TheVariants.{Dhcp as AtDhcp, Mac as AtMac}
use Rattle.plane_types.specs.declared.table.TagRow.{TagRow}
use Rattle.plane_types.proofs.LocalLemmas.{neighbours_same, tap_same}
use Rattle.touched_rows.specs.SeesAlike.{SeesAlike}
use Rattle.l2_delta.proofs.BridgeLaw.{HasRouter, entry_stays}
use Rattle.l2_delta.proofs.UntouchedPorts.{seen}

module _ (before after : RowLists) (host : List ℕ) (old new : List TagRow) (p : PortRow)
    (sees : SeesAlike before after old new p) where
  pub tap_seen : tap_row before host old p ≡ tap_row after host new p
  tap_seen =
      seen before after old new p sees (tap_row before host old p) (tap_row after host new p)
      (tap_same before after host old new p)
      (λ was is.
      ap (λ b. if (b && is_at host p) && not (is_router_port p.owner) then option_map (tap_of p) (tag_of old p.network) else None) was
      ∙ sym (ap (λ b. if (b && is_at host p) && not (is_router_port p.owner) then option_map (tap_of p) (tag_of new p.network) else None) is))

  pub neighbours_seen : neighbours_of before host old p ≡ neighbours_of after host new p
  neighbours_seen =
      seen before after old new p sees (neighbours_of before host old p) (neighbours_of after host new p)
      (neighbours_same before after host old new p)
      (λ was is.
      ap (λ b. if b && is_joined before p host then neighbours_by p (tag_of old p.network) else []) was
      ∙ sym (ap (λ b. if b && is_joined after p host then neighbours_by p (tag_of new p.network) else []) is))

  module _ (good : IsConsistent before) (good_now : IsConsistent after)
      (has : HasRouter before good p) (also : HasRouter after good_now p) where
    entry_seen : (key : BridgeKey) → bridge_row before host old key p ≡ bridge_row after host new key p
    entry_seen key =
        seen before after old new p sees (bridge_row before host old key p) (bridge_row after host new key p)
        (λ same. entry_stays before after host old new good good_now key p same has also)
        (λ was is.
        ap (λ b. if b then bridge_by key (end_of before host p) (tag_of old p.network) else None) was
        ∙ sym (ap (λ b. if b then bridge_by key (end_of after host p) (tag_of new p.network) else None) is))

    pub mac_seen : mac_row before host old p ≡ mac_row after host new p
    mac_seen = entry_seen (AtMac p.mac)

    pub dhcp_seen : dhcp_row before host old p ≡ dhcp_row after host new p
    dhcp_seen = ap (λ o. if is_dhcp p.owner then o else None) (entry_seen AtDhcp)
