-- The bridge of a host leads to the DHCP port of a network exactly if that is here.
use Rattle.std.proofs.Common.{◌≡◌, ◌∙◌, ℕ, List, Bool, true, false, Option, Some, None, refl, ap, sym}
use Rattle.std.specs.Prelude.{◌&&◌, if◌then◌else◌, option_and_then, option_map}
use Rattle.std.proofs.lemmas.Bool.{and_parts}
use Rattle.api_types.specs.Holders.{dhcp_port, is_live_dhcp_of, router_of}
use Rattle.api_types.specs.Ident.{Ident}
use Rattle.api_types.specs.Live.{is_at, is_live, segment}
use Rattle.api_types.specs.Owners.{is_dhcp}
use Rattle.api_types.specs.RowLists.{RowLists}
use Rattle.api_types.specs.Table.{ident_eq}
use Rattle.api_types.specs.declared.network.Segment.{Segment}
use Rattle.api_types.specs.declared.network.Segment.TheVariants.{Flat, Local, Vlan, Vxlan}
use Rattle.api_types.specs.declared.port.PortRow.{PortRow}
use Rattle.api_types.proofs.ListLemmas.{both_and, none_some}
use Rattle.api_types.proofs.NameLemmas.{ident_same}
use Rattle.plane_types.specs.TableRows.{bridge_by, dhcp_row, end_of, tag_of, to_here, to_router, to_there}
use Rattle.plane_types.specs.TableStep.{bridge_at}
use Rattle.plane_types.specs.declared.lists.TableLists.{TableLists}
use Rattle.plane_types.specs.declared.table.BridgeKey.TheVariants.{Dhcp as AtDhcp}
use Rattle.plane_types.specs.declared.table.BridgeRow.{BridgeRow}
use Rattle.plane_types.specs.declared.table.BridgeTo.TheVariants.{Tap}
use Rattle.plane_types.specs.declared.table.TagRow.{TagRow}
use Rattle.plane_laws.proofs.Facts.{FrameFacts, HostFacts}
use Rattle.plane_laws.proofs.Leases.{dhcp-located, dhcp-plain, row-located}
use Rattle.plane_laws.proofs.ListLemmas.{find-passes}
use Rattle.plane_laws.proofs.Tagged.{tagged}
use Rattle.dhcp_delta.specs.Serving.{dhcp_here, if_at, tap_port}

module _ (rows : RowLists) (host : List ℕ) (t : TableLists) (real : HostFacts rows host t)
    (good : FrameFacts rows) (n : Ident) where
  passes : (d : PortRow) → dhcp_port rows n ≡ Some d
      → (ident_eq n d.network ≡ true) × (is_dhcp d.owner ≡ true) × (is_live rows d ≡ true)
  passes d is =
      let all = and_parts (ident_eq n d.network && is_dhcp d.owner) (is_live rows d)
      (find-passes (is_live_dhcp_of rows n) rows.ports d is) in
      let first = and_parts (ident_eq n d.network) (is_dhcp d.owner) all.0 in
      (first.0, first.1, all.1)

  -- a network without a tag has no DHCP port here
  pub untagged : tag_of t.tags n ≡ None → dhcp_here rows host n ≡ None
  untagged none = go (dhcp_port rows n) refl
    where
      here : (d : PortRow) → dhcp_port rows n ≡ Some d → (b : Bool) → is_at host d ≡ b
          → (if b then Some d else None) ≡ None
      here d is true at =
          let p = passes d is in
          let tag = tagged rows host t real good (is_live_dhcp_of rows n) d is
          (both_and (is_live rows d) (is_at host d) p.2 at) in
          let same : n ≡ d.network = ident_same n d.network p.0 in
          none_some tag.0 _ (sym none ∙ ap (tag_of t.tags) same ∙ tag.1)
      here d is false at = refl

      go : (o : Option PortRow) → dhcp_port rows n ≡ o → dhcp_here rows host n ≡ None
      go None is = ap (option_and_then (if_at host)) is
      go (Some d) is = ap (option_and_then (if_at host)) is ∙ here d is (is_at host d) refl

  abbrev pub tap_by : Option BridgeRow → Option Ident
  tap_by o = option_and_then (λ (r : BridgeRow). tap_port r.to) o

  abbrev pub id_by : Option PortRow → Option Ident
  id_by o = option_map (λ (d : PortRow). d.id) o

  no_tap : (tag : ℕ) (s : Segment) (d : PortRow) → tap_by (bridge_by AtDhcp (to_there s d) (Some tag)) ≡ None
  no_tap tag Local d = refl
  no_tap tag (Flat p) d = refl
  no_tap tag (Vlan p v) d = refl
  no_tap tag (Vxlan v) d = refl

  -- its entry leads to the tap of the DHCP port
  pub by_bridge : (tag : ℕ) → tag_of t.tags n ≡ Some tag
      → tap_by (bridge_at t tag AtDhcp) ≡ id_by (dhcp_here rows host n)
  by_bridge tag has = go (dhcp_port rows n) refl
    where
      at : (d : PortRow) → dhcp_port rows n ≡ Some d → (b : Bool) → is_at host d ≡ b
          → tap_by (bridge_by AtDhcp (if b then to_here rows d else to_there (segment rows d.network) d) (Some tag))
          ≡ id_by (if b then Some d else None)
      at d is true here =
          ap (λ b. tap_by (bridge_by AtDhcp (if b then to_router d (router_of rows d) else Some (Tap d.id)) (Some tag)))
          (dhcp-plain d (passes d is).1)
      at d is false away = no_tap tag (segment rows d.network) d

      go : (o : Option PortRow) → dhcp_port rows n ≡ o
          → tap_by (bridge_at t tag AtDhcp) ≡ id_by (dhcp_here rows host n)
      go None is =
          ap tap_by (dhcp-located rows host t real good n tag has ∙ ap (option_and_then (dhcp_row rows host t.tags)) is)
          ∙ sym (ap (λ o. id_by (option_and_then (if_at host) o)) is)
      go (Some d) is =
          ap tap_by (row-located rows host t real good n tag has d is (end_of rows host d) refl)
          ∙ at d is (is_at host d) refl
          ∙ sym (ap (λ o. id_by (option_and_then (if_at host) o)) is)

  -- the same, by the network's tag, if it has one
  pub by_tag : (old : List TagRow) → old ≡ t.tags → (o : Option ℕ) → tag_of old n ≡ o
      → option_and_then (λ tag. tap_by (bridge_at t tag AtDhcp)) o ≡ id_by (dhcp_here rows host n)
  by_tag old is None has =
      sym (ap id_by (untagged (ap (λ (ts : List TagRow). tag_of ts n) (sym is) ∙ has)))
  by_tag old is (Some tag) has =
      by_bridge tag (ap (λ (ts : List TagRow). tag_of ts n) (sym is) ∙ has)
