-- Rows whose networks are otherwise named give the same tables to a host.
use Rattle.std.proofs.Common.{◌≡◌, ◌∙◌, inl, ℕ, List, [], ◌∷◌, ◌++◌, map, Option, Some, None, Bool, true, false, cond, not, refl, sym, ap}
use Rattle.std.specs.Prelude.{◌&&◌, if◌then◌else◌, find, flat_map, option_and_then, option_map}
use Rattle.std.specs.List.{filter, filter_map, list_any}
use Rattle.net_addr.specs.declared.address.Addr.TheVariants.{V4}
use Rattle.api_types.specs.Ascending.{ascending}
use Rattle.api_types.specs.Consistent.{IsConsistent}
use Rattle.api_types.specs.Consistent.Carried.{is_bound}
use Rattle.api_types.specs.Holders.{dhcp_port, floating_holder, gateway_port, live_on, target_router}
use Rattle.api_types.specs.Ident.{Ident}
use Rattle.api_types.specs.Live.{is_at, is_here, is_live, joins, segment}
use Rattle.api_types.specs.Members.{members}
use Rattle.api_types.specs.Owners.{is_dhcp, is_dhcp_of, is_port_of, is_router_port}
use Rattle.api_types.specs.RouterRows.{by_address, connected_ways, default_by, default_of, extra_ways, gateway_address, has_snat, legs_of, ways_of}
use Rattle.api_types.specs.RowLists.{RowLists}
use Rattle.api_types.specs.RowsWith.{subnet_with}
use Rattle.api_types.specs.Table.{ident_eq}
use Rattle.api_types.specs.Wires.{wire_of}
use Rattle.api_types.specs.declared.change.Item.{Item}
use Rattle.api_types.specs.declared.floating.FloatingRow.{FloatingRow}
use Rattle.api_types.specs.declared.network.NetworkRow.{NetworkRow}
use Rattle.api_types.specs.declared.port.Fixed.{Fixed}
use Rattle.api_types.specs.declared.port.PortRow.{PortRow}
use Rattle.api_types.specs.declared.router.RouterRow.{RouterRow}
use Rattle.plane_types.specs.Delta.{with_delta}
use Rattle.plane_types.specs.Hosts.{bridge_before, neighbour_before}
use Rattle.plane_types.specs.NewTags.{free_tags, in_turn, kept_tags, new_tags, next_tag, tagged_networks, with_tag}
use Rattle.plane_types.specs.Realises.{Realises, RealisesTags}
use Rattle.plane_types.specs.TableRows.{bridge_by, bridge_row, bridge_rows, carrier_of, filter_rows, filters_of_group, float_rows, floating_neighbour, floating_neighbour_by, inward_rows, is_on_host, lease_row_by, lease_rows, neighbour_rows, neighbours_by, neighbours_of, route_row, route_rows, router_rows, set_rows, tag_of, tagged_by, tap_of, tap_rows, to_here, to_there}
use Rattle.plane_types.specs.TablesOfRows.{tables_of_rows}
use Rattle.plane_types.specs.declared.lists.TableLists.{TableLists}
use Rattle.plane_types.specs.declared.table.BridgeKey.{BridgeKey}
use Rattle.plane_types.specs.declared.table.BridgeKey.TheVariants.{Dhcp as AtDhcp, Mac as AtMac}
use Rattle.plane_types.specs.declared.table.Carrier.{Carrier}
use Rattle.plane_types.specs.declared.table.FilterRow.{FilterRow}
use Rattle.plane_types.specs.declared.table.TagRow.{TagRow}
use Rattle.table_edits.specs.Rewires.{LeadsOn}
use Rattle.l2_delta.proofs.TagsLaw.{tags_are_kept}
use Rattle.agent_node.specs.Still.{AreStill, no_edits}
use Rattle.agent_node.proofs.StillRows.{AreRenamed, all_renamed, network_id, with_networks}

-- the ids of the networks whose id passes
ids_that : (test : Ident → Bool) (ns : List NetworkRow)
    → map network_id (filter (λ (n : NetworkRow). test n.id) ns) ≡ filter test (map network_id ns)
ids_that test [] = refl
ids_that test (n ∷ ns) = go (test n.id) (ids_that test ns)
  where
    go : (b : Bool)
        → map network_id (filter (λ (n : NetworkRow). test n.id) ns)
        ≡ filter test (map network_id ns)
        → map network_id
        (cond b (n ∷ filter (λ (n : NetworkRow). test n.id) ns)
        (filter (λ (n : NetworkRow). test n.id) ns))
        ≡ cond b (n.id ∷ filter test (map network_id ns)) (filter test (map network_id ns))
    go true rest = ap (λ is. n.id ∷ is) rest
    go false rest = rest

-- tags that realise rows are those that the rows give
tags_as_they_are : (rows : RowLists) (host : List ℕ) (old : List TagRow) → IsConsistent rows
    → RealisesTags rows host old → new_tags rows host old ≡ old
tags_as_they_are rows host old good real =
    tags_are_kept rows rows []
    (record { fits = tt; leads = refl; consistent = good; stays_consistent = good }) host old real
    (record { rows = rows.networks; items = [] }) (record { rows = rows.ports; items = [] }) refl
    refl (λ k. inl refl) (λ k. inl refl)

module _ (rows : RowLists) (networks : List NetworkRow) (same : AreRenamed rows networks) where
  abbrev now : RowLists
  now = with_networks rows networks

  live : (p : PortRow) → is_live rows p ≡ is_live now p
  unfolding is_live
  live p = λ j. p.up && is_bound p.vif && same.up p.network j

  on : (i : Ident) → segment rows i ≡ segment now i
  unfolding segment
  on i = same.on i

  -- tags
  tagged : Ident → List ℕ → Bool
  tagged i host = list_any (λ (p : PortRow). ident_eq i p.network && is_here rows host p) rows.ports

  same_tagged : (host : List ℕ) → tagged_networks rows host ≡ tagged_networks now host
  unfolding tagged tagged_networks
  same_tagged host =
      ids_that (λ i. tagged i host) rows.networks
      ∙ ap (filter (λ i. tagged i host)) (sym same.ids)
      ∙ sym (ids_that (λ i. tagged i host) networks)
      ∙ (λ j. map network_id (filter (λ (n : NetworkRow). list_any (λ (p : PortRow).
      ident_eq n.id p.network && (live p j && is_at host p)) rows.ports) networks))

  same_turn : (old : List TagRow) (free : List ℕ) (is : List Ident)
      → in_turn rows old free is ≡ in_turn now old free is
  unfolding in_turn
  same_turn old free [] = refl
  same_turn old free (i ∷ is) =
      go (next_tag (tag_of old i) free) (λ left. same_turn old left is)
    where
      go : (o : Option (ℕ × List ℕ))
          → ((left : List ℕ) → in_turn rows old left is ≡ in_turn now old left is)
          → with_tag rows i free (λ left. in_turn rows old left is) o
          ≡ with_tag now i free (λ left. in_turn now old left is) o
      go None rest = rest free
      go (Some (tag, left)) rest =
          λ j. record { network = i; tag = tag; wire = wire_of (on i j) } ∷ rest left j

  pub same_tags : (host : List ℕ) (old : List TagRow)
      → new_tags rows host old ≡ new_tags now host old
  unfolding new_tags
  same_tags host old =
      ap (λ is. in_turn rows old (free_tags (kept_tags old is)) is) (same_tagged host)
      ∙ same_turn old (free_tags (kept_tags old (tagged_networks now host)))
      (tagged_networks now host)

  -- taps, filters and sets
  pub same_taps : (host : List ℕ) (tags : List TagRow)
      → tap_rows rows host tags ≡ tap_rows now host tags
  unfolding tap_rows
  same_taps host tags =
      λ j. filter_map (λ (p : PortRow). if (live p j && is_at host p)
      && not (is_router_port p.owner) then option_map (tap_of p) (tag_of tags p.network)
      else None) rows.ports

  pub same_filters : (host : List ℕ) → filter_rows rows host ≡ filter_rows now host
  unfolding filter_rows
  same_filters host =
      λ j. flat_map (λ (p : PortRow). if ((live p j && is_at host p)
      && not (is_router_port p.owner)) && p.secured
      then flat_map (filters_of_group rows p) rows.groups else []) rows.ports

  pub same_sets : (filters : List FilterRow) → set_rows rows filters ≡ set_rows now filters
  unfolding set_rows members
  same_sets filters = refl

  -- the bridge and what comes inward
  same_entry : (host : List ℕ) (tags : List TagRow) (key : BridgeKey) (q : PortRow)
      → bridge_row rows host tags key q ≡ bridge_row now host tags key q
  same_entry host tags key q =
      λ j. if live q j
      then bridge_by key (if is_at host q then to_here rows q else to_there (on q.network j) q)
      (tag_of tags q.network)
      else None

  pub same_bridge : (host : List ℕ) (tags : List TagRow)
      → bridge_rows rows host tags ≡ bridge_rows now host tags
  unfolding bridge_rows
  same_bridge host tags =
      λ j. ascending bridge_before
      (filter_map (λ (q : PortRow). same_entry host tags (AtMac q.mac) q j) rows.ports
      ++ filter_map (λ (q : PortRow). if is_dhcp q.owner then same_entry host tags AtDhcp q j
      else None) rows.ports)

  pub same_inward : (tags : List TagRow) → inward_rows rows tags ≡ inward_rows now tags
  unfolding inward_rows
  same_inward tags =
      λ j. filter_map (λ (t : TagRow). option_map
      (λ (c : Carrier). record { carrier = c; tag = t.tag }) (carrier_of (on t.network j))) tags

  -- neighbours
  same_of_port : (host : List ℕ) (tags : List TagRow) (q : PortRow)
      → neighbours_of rows host tags q ≡ neighbours_of now host tags q
  same_of_port host tags q =
      λ j. if live q j && joins (on q.network j) q.host host
      then neighbours_by q (tag_of tags q.network) else []

  same_on : (i : Ident) (o : Option PortRow) → live_on rows i o ≡ live_on now i o
  same_on i None = refl
  same_on i (Some q) = λ j. if ident_eq i q.network && live q j then Some q else None

  same_holder : (f : FloatingRow) → floating_holder rows f ≡ floating_holder now f
  unfolding floating_holder
  same_holder f =
      same_on f.network (option_and_then (gateway_port rows) (target_router rows f.target))

  same_by : (host : List ℕ) (tags : List TagRow) (f : FloatingRow) (o : Option PortRow)
      → floating_neighbour_by rows host tags f o ≡ floating_neighbour_by now host tags f o
  same_by host tags f None = refl
  same_by host tags f (Some q) =
      λ j. if joins (on q.network j) q.host host
      then option_map (λ tag. record { tag = tag; address = V4 f.address; mac = q.mac })
      (tag_of tags f.network)
      else None

  same_of_floating : (host : List ℕ) (tags : List TagRow) (f : FloatingRow)
      → floating_neighbour rows host tags f ≡ floating_neighbour now host tags f
  same_of_floating host tags f =
      same_by host tags f (floating_holder rows f)
      ∙ ap (floating_neighbour_by now host tags f) (same_holder f)

  pub same_neighbours : (host : List ℕ) (tags : List TagRow)
      → neighbour_rows rows host tags ≡ neighbour_rows now host tags
  unfolding neighbour_rows
  same_neighbours host tags =
      λ j. ascending neighbour_before
      (flat_map (λ (q : PortRow). same_of_port host tags q j) rows.ports
      ++ filter_map (λ (f : FloatingRow). same_of_floating host tags f j) rows.floatings)

  -- routers, routes and floats
  same_legs : (r : RouterRow) → legs_of rows r ≡ legs_of now r
  unfolding legs_of
  same_legs r = λ j. filter (λ (p : PortRow). is_port_of r p && live p j) rows.ports

  pub same_routers : (host : List ℕ) (tags : List TagRow)
      → router_rows rows host tags ≡ router_rows now host tags
  unfolding router_rows
  same_routers host tags =
      λ j. filter_map (λ (r : RouterRow). if is_on_host host r
      then Some (record {
        router = r.id;
        up = r.up;
        snat = has_snat r.gateway;
        gateway = gateway_address rows r;
        ports = filter_map (tagged_by rows tags) (same_legs r j);
      })
      else None) rows.routers

  same_defaults : (legs : List PortRow) (o : Option PortRow)
      → default_of rows legs o ≡ default_of now legs o
  same_defaults legs None = refl
  same_defaults legs (Some p) =
      λ j. if live p j
      then flat_map (λ (f : Fixed). default_by legs (subnet_with rows f.subnet))
      (ascending by_address p.fixed)
      else []

  same_ways : (r : RouterRow) → ways_of rows r ≡ ways_of now r
  unfolding ways_of connected_ways extra_ways
  same_ways r =
      ap (λ legs. connected_ways rows legs ++ extra_ways rows legs r.routes
      ++ default_of rows legs (gateway_port rows r)) (same_legs r)
      ∙ (λ j. connected_ways rows (legs_of now r)
      ++ extra_ways rows (legs_of now r) r.routes
      ++ same_defaults (legs_of now r) (gateway_port rows r) j)

  pub same_routes : (host : List ℕ) → route_rows rows host ≡ route_rows now host
  unfolding route_rows
  same_routes host =
      λ j. flat_map (λ (r : RouterRow). if is_on_host host r
      then map (route_row r.id) (same_ways r j) else []) rows.routers

  pub same_floats : (host : List ℕ) → float_rows rows host ≡ float_rows now host
  unfolding float_rows
  same_floats host = refl

  -- leases
  same_server : (i : Ident) → dhcp_port rows i ≡ dhcp_port now i
  same_server i = λ j. find (λ (q : PortRow). is_dhcp_of i q && live q j) rows.ports

  pub same_leases : (host : List ℕ) (tags : List TagRow)
      → lease_rows rows host tags ≡ lease_rows now host tags
  unfolding lease_rows
  same_leases host tags =
      λ j. filter_map (λ (q : PortRow). if live q j
      then lease_row_by rows host tags q (same_server q.network j) else None) rows.ports

-- so the tables of a host stay
pub tables_stay : (rows later : RowLists) (items : List Item) (host : List ℕ) (t : TableLists)
    → LeadsOn rows items later → AreStill items → Realises rows host t
    → with_delta t no_edits ≡ tables_of_rows later host t.tags
unfolding tables_of_rows
tables_stay rows later items host t leads_on still real =
    let found = all_renamed rows items leads_on.fits still in
    let ns = found.0 in
    let same = found.2 in
    let after = with_networks rows ns in
    let tags : t.tags ≡ new_tags after host t.tags =
    sym (tags_as_they_are rows host t.tags leads_on.consistent real.tags)
    ∙ same_tags rows ns same host t.tags in
    let filters : t.filters ≡ filter_rows after host =
    real.filters ∙ same_filters rows ns same host in
    let all : with_delta t no_edits ≡ tables_of_rows after host t.tags =
    λ j. record {
      tags = tags j;
      taps = (real.taps ∙ same_taps rows ns same host t.tags ∙ ap (tap_rows after host) tags) j;
      filters = filters j;
      sets = (real.sets ∙ same_sets rows ns same t.filters ∙ ap (set_rows after) filters) j;
      bridge =
          (real.bridge ∙ same_bridge rows ns same host t.tags ∙ ap (bridge_rows after host) tags)
          j;
      inward = (real.inward ∙ same_inward rows ns same t.tags ∙ ap (inward_rows after) tags) j;
      neighbours =
          (real.neighbours ∙ same_neighbours rows ns same host t.tags
          ∙ ap (neighbour_rows after host) tags) j;
      routers =
          (real.routers ∙ same_routers rows ns same host t.tags
          ∙ ap (router_rows after host) tags) j;
      routes = (real.routes ∙ same_routes rows ns same host) j;
      floats = (real.floats ∙ same_floats rows ns same host) j;
      leases =
          (real.leases ∙ same_leases rows ns same host t.tags ∙ ap (lease_rows after host) tags)
          j;
    } in
    all ∙ ap (λ (r : RowLists). tables_of_rows r host t.tags) (sym (leads_on.leads ∙ found.1))
