-- Tags, taps and segments.
use Rattle.std.proofs.Common.{◌≡◌, ℕ, List, map, Bool, true, false, Option, Some, None, refl, ap, sym, subst, ◌∙◌}
use Rattle.std.specs.Prelude.{find, option_and_then, option_map, ◌&&◌, ◌==◌, if◌then◌else◌, is_some}
use Rattle.std.specs.List.{filter, list_any}
use Rattle.std.proofs.lemmas.Option.{same_Some}
use Rattle.std.proofs.lemmas.Bool.{and_from}
use Rattle.api_types.proofs.NameLemmas.{ident_same, ident_itself}
use Rattle.plane_laws.proofs.ListLemmas.{find-passes, find-each, find-only, find-filter_map, AtMostOne-map, AtMostOne-from_map, AtMostOne-filter, list_any-filter, find-some, list_any-found, list_any-map, list_any-kept, some_of}
use Rattle.plane_laws.proofs.Located.{tag-row}
use Rattle.api_types.specs.Ident.{Ident}
use Rattle.api_types.specs.RowLists.{RowLists}
use Rattle.api_types.specs.Table.{ident_eq}
use Rattle.api_types.specs.declared.network.NetworkRow.{NetworkRow}
use Rattle.api_types.specs.declared.port.PortRow.{PortRow}
use Rattle.api_types.specs.Live.{segment, is_here}
use Rattle.api_types.specs.RowsWith.{network_with}
use Rattle.api_types.specs.Wires.{wire_of}
use Rattle.plane_types.specs.TableRows.{carrier_of, inward_row, inward_rows, is_tagged, is_tap, tag_of, tap_of, tap_row, tap_rows}
use Rattle.plane_types.specs.TableStep.{carrier_eq, inward_at, tap_at}
use Rattle.plane_types.specs.declared.table.Carrier.{Carrier}
use Rattle.plane_types.specs.declared.table.InwardRow.{InwardRow}
use Rattle.plane_types.specs.declared.table.TagRow.{TagRow}
use Rattle.plane_types.specs.declared.table.TapRow.{TapRow}
use Rattle.plane_types.specs.declared.lists.TableLists.{TableLists}
use Rattle.plane_laws.proofs.Facts.{AtMostOne, FrameFacts, HostFacts, carried_by, has_id, is_carrier}

module _ (rows : RowLists) (host : List ℕ) (t : TableLists) (real : HostFacts rows host t) (good : FrameFacts rows) where
  tap_hit : (port : Ident) (q : PortRow) (row : TapRow) → tap_row rows host t.tags q ≡ Some row → ident_eq port row.port ≡ ident_eq port q.id
  tap_hit port q row h = go (is_tap rows host q) (tag_of t.tags q.network) h
    where
      go : (b : Bool) (o : Option ℕ) → (if b then option_map (tap_of q) o else None) ≡ Some row → ident_eq port row.port ≡ ident_eq port q.id
      go false o h = cc
      go true None h = cc
      go true (Some tag) h = let is : tap_of q tag ≡ row = cc in sym (ap (λ (r : TapRow). ident_eq port r.port) is)

  pub tap-located : (port : Ident) → tap_at t port ≡ option_and_then (tap_row rows host t.tags) (find (has_id port) rows.ports)
  unfolding tap_rows
  tap-located port = ap (find (λ (r : TapRow). ident_eq port r.port)) real.taps ∙ find-filter_map (has_id port) (λ (r : TapRow). ident_eq port r.port) (tap_row rows host t.tags) rows.ports (tap_hit port) (good.port_ids port)

  -- the network of a live port here has a tag
  pub tagged : (test : PortRow → Bool) (p : PortRow) → find test rows.ports ≡ Some p → is_here rows host p ≡ true → (tag : ℕ) × (tag_of t.tags p.network ≡ Some tag)
  tagged test p found here =
      let net = some_of (network_with rows p.network) (find-each (λ (q : PortRow). is_some (network_with rows q.network) ≡ true) test rows.ports p good.networks_stand found) in
      let id : ident_eq p.network (net.0).id ≡ true = find-passes (λ (n : NetworkRow). ident_eq p.network n.id) rows.networks net.0 net.1 in
      let is = ident_same p.network (net.0).id id in
      let tagged : is_tagged rows host net.0 ≡ true = list_any-found test (λ q. ident_eq (net.0).id q.network && is_here rows host q) rows.ports p found (and_from (ident_eq (net.0).id p.network) (is_here rows host p) (subst (λ i. ident_eq i p.network ≡ true) is (ident_itself p.network)) here) in
      let any : list_any (ident_eq p.network) (map (λ (t : TagRow). t.network) t.tags) ≡ true =
      ap (list_any (ident_eq p.network)) real.tags.networks ∙ list_any-map (ident_eq p.network) (λ (n : NetworkRow). n.id) (filter (is_tagged rows host) rows.networks)
      ∙ list_any-kept (λ (n : NetworkRow). ident_eq p.network n.id) (λ (n : NetworkRow). ident_eq p.network n.id) (is_tagged rows host) rows.networks net.0 net.1 id tagged in
      let row = some_of (find (λ (r : TagRow). ident_eq p.network r.network) t.tags) (find-some (λ (r : TagRow). ident_eq p.network r.network) t.tags ∙ sym (list_any-map (ident_eq p.network) (λ (t : TagRow). t.network) t.tags) ∙ any) in
      ((row.0).tag, ap (option_map (λ (t : TagRow). t.tag)) row.1)

  pub inward_hit : (c : Carrier) (x : TagRow) (row : InwardRow) → inward_row rows x ≡ Some row → carrier_eq c row.carrier ≡ carried_by rows c x.network
  inward_hit c x row h = go (carrier_of (segment rows x.network)) h
    where
      go : (o : Option Carrier) → option_map (λ (d : Carrier). record { carrier = d; tag = x.tag }) o ≡ Some row → carrier_eq c row.carrier ≡ is_carrier c o
      go None h = cc
      go (Some d) h = let is : record { carrier = d; tag = x.tag } ≡ row = cc in sym (ap (λ (r : InwardRow). carrier_eq c r.carrier) is)

  -- the inward row of a network's segment leads to its tag
  pub inward-located : (n : Ident) (tag : ℕ) (c : Carrier) → tag_of t.tags n ≡ Some tag → carrier_of (segment rows n) ≡ Some c → carrier_eq c c ≡ true → inward_at t c ≡ Some (record { carrier = c; tag = tag })
  unfolding inward_rows
  inward-located n tag c tagged segment_is self =
      let test = λ (x : TagRow). carried_by rows c x.network in
      let one : AtMostOne test t.tags = AtMostOne-from_map (carried_by rows c) (λ (x : TagRow). x.network) t.tags
      (subst (AtMostOne (carried_by rows c)) (sym real.tags.networks)
      (AtMostOne-map (carried_by rows c) (λ (n : NetworkRow). n.id) (filter (is_tagged rows host) rows.networks)
      (AtMostOne-filter (λ (n : NetworkRow). carried_by rows c n.id) (is_tagged rows host) rows.networks (good.segments c)))) in
      let found = tag-row rows host t.tags real.tags n tag tagged in
      let only = find-only (λ (x : TagRow). x.tag == tag) test t.tags (record { network = n; tag = tag; wire = wire_of (segment rows n) }) one found (ap (is_carrier c) segment_is ∙ self) in
      ap (find (λ (r : InwardRow). carrier_eq c r.carrier)) real.inward
      ∙ find-filter_map test (λ (r : InwardRow). carrier_eq c r.carrier) (inward_row rows) t.tags (inward_hit c) one
      ∙ ap (option_and_then (inward_row rows)) only
      ∙ ap (option_map (λ (d : Carrier). record { carrier = d; tag = tag })) segment_is

  pub one-carrier : (c : Carrier) → AtMostOne (λ (x : TagRow). carried_by rows c x.network) t.tags
  one-carrier c = AtMostOne-from_map (carried_by rows c) (λ (x : TagRow). x.network) t.tags
      (subst (AtMostOne (carried_by rows c)) (sym real.tags.networks)
      (AtMostOne-map (carried_by rows c) (λ (n : NetworkRow). n.id) (filter (is_tagged rows host) rows.networks)
      (AtMostOne-filter (λ (n : NetworkRow). carried_by rows c n.id) (is_tagged rows host) rows.networks (good.segments c))))

  -- where a network has no tag, nothing comes in by its carrier
  pub inward-none : (n : Ident) (net : NetworkRow) (c : Carrier) → network_with rows n ≡ Some net → tag_of t.tags n ≡ None → carrier_of (segment rows n) ≡ Some c → carrier_eq c c ≡ true → inward_at t c ≡ None
  unfolding inward_rows
  inward-none n net c there none segment_is self =
      ap (find (λ (r : InwardRow). carrier_eq c r.carrier)) real.inward
      ∙ find-filter_map test (λ (r : InwardRow). carrier_eq c r.carrier) (inward_row rows) t.tags (inward_hit c) (one-carrier c)
      ∙ go (find test t.tags) refl
    where
      test : TagRow → Bool
      test x = carried_by rows c x.network

      mine : n ≡ net.id
      mine = ident_same n net.id (find-passes (λ (m : NetworkRow). ident_eq n m.id) rows.networks net there)

      first : find (λ (m : NetworkRow). carried_by rows c m.id) rows.networks ≡ Some net
      first = find-only (λ (m : NetworkRow). ident_eq n m.id) (λ (m : NetworkRow). carried_by rows c m.id) rows.networks net (good.segments c) there (ap (λ i. carried_by rows c i) (sym mine) ∙ ap (is_carrier c) segment_is ∙ self)

      go : (o : Option TagRow) → find (λ (x : TagRow). carried_by rows c x.network) t.tags ≡ o → option_and_then (inward_row rows) o ≡ None
      go None e = refl
      go (Some row) e =
          let carried : carried_by rows c row.network ≡ true = find-passes (λ (x : TagRow). carried_by rows c x.network) t.tags row e in
          let any : list_any (ident_eq row.network) (map (λ (x : TagRow). x.network) t.tags) ≡ true = list_any-map (ident_eq row.network) (λ (x : TagRow). x.network) t.tags ∙ list_any-found (λ (x : TagRow). carried_by rows c x.network) (λ (x : TagRow). ident_eq row.network x.network) t.tags row e (ident_itself row.network) in
          let any2 : list_any (λ (m : NetworkRow). ident_eq row.network m.id) (filter (is_tagged rows host) rows.networks) ≡ true = sym (list_any-map (ident_eq row.network) (λ (m : NetworkRow). m.id) (filter (is_tagged rows host) rows.networks)) ∙ ap (list_any (ident_eq row.network)) (sym real.tags.networks) ∙ any in
          let other = some_of (find (λ (m : NetworkRow). ident_eq row.network m.id) rows.networks) (find-some (λ (m : NetworkRow). ident_eq row.network m.id) rows.networks ∙ list_any-filter (λ (m : NetworkRow). ident_eq row.network m.id) (is_tagged rows host) rows.networks any2) in
          let its : row.network ≡ (other.0).id = ident_same row.network (other.0).id (find-passes (λ (m : NetworkRow). ident_eq row.network m.id) rows.networks other.0 other.1) in
          let second = find-only (λ (m : NetworkRow). ident_eq row.network m.id) (λ (m : NetworkRow). carried_by rows c m.id) rows.networks other.0 (good.segments c) other.1 (ap (λ i. carried_by rows c i) (sym its) ∙ carried) in
          let same : net ≡ other.0 = same_Some net other.0 (sym first ∙ second) in
          let ids : n ≡ row.network = mine ∙ ap (λ (m : NetworkRow). m.id) same ∙ sym its in
          let has : list_any (λ (x : TagRow). ident_eq n x.network) t.tags ≡ true = list_any-found (λ (x : TagRow). carried_by rows c x.network) (λ (x : TagRow). ident_eq n x.network) t.tags row e (subst (λ i. ident_eq n i ≡ true) ids (ident_itself n)) in
          let found = some_of (find (λ (x : TagRow). ident_eq n x.network) t.tags) (find-some (λ (x : TagRow). ident_eq n x.network) t.tags ∙ has) in
          let bad : Some ((found.0).tag) ≡ None = ap (option_map (λ (x : TagRow). x.tag)) (sym found.1) ∙ none in
          cc
