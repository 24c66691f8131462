-- The neighbours and the bridge at what a change touches.
use Rattle.std.proofs.Common.{◌≡◌, ◌∙◌, ℕ, List, ◌++◌, map, Option, Some, Bool, true, false, sym, ap, subst, arith}
use Rattle.std.specs.Prelude.{◌&&◌, ◌||◌, ◌==◌, if◌then◌else◌, flat_map, nat_lt, option_and_then, slice_get}
use Rattle.std.specs.List.{filter_map}
use Rattle.std.proofs.Math.Path.{transport}
use Rattle.std.proofs.lemmas.Bool.Decides.{nat_tests}
use Rattle.net_addr.specs.Ordered.{addr_before}
use Rattle.api_types.specs.Ascending.{ascending}
use Rattle.api_types.specs.Parts.{floating_of, port_of}
use Rattle.api_types.specs.RowLists.{RowLists}
use Rattle.api_types.specs.declared.change.Item.{Item}
use Rattle.api_types.specs.declared.floating.FloatingRow.{FloatingRow}
use Rattle.api_types.specs.declared.kind.Kind.TheVariants.{Floating, Port}
use Rattle.api_types.specs.declared.port.PortRow.{PortRow}
use Rattle.plane_laws.proofs.Facts.{AllOf}
use Rattle.plane_types.specs.Hosts.{bridge_before, neighbour_before}
use Rattle.plane_types.specs.Keyed.{pair_order, row_at}
use Rattle.plane_types.specs.KeyedTables.{BridgeKeyAt, NeighbourKey, bridge_key, bridge_order, neighbour_key, neighbour_order}
use Rattle.plane_types.specs.Numbered.{numbered_after, with_numbers}
use Rattle.plane_types.specs.NewTags.{new_tags}
use Rattle.plane_types.specs.NumberedRows.{row_items}
use Rattle.plane_types.specs.Realises.{RealisesTags}
use Rattle.plane_types.specs.TableRows.{bridge_rows, dhcp_row, floating_neighbour, mac_row, neighbour_rows, neighbours_of}
use Rattle.plane_types.specs.declared.table.BridgeRow.{BridgeRow}
use Rattle.plane_types.specs.declared.table.NeighbourRow.{NeighbourRow}
use Rattle.plane_types.specs.declared.table.TagRow.{TagRow}
use Rattle.plane_types.proofs.KeyedTablesLemmas.{unkeyed}
use Rattle.plane_types.proofs.NumberedLemmas.{after_plain, after_rises, numbered_rises, plain_numbered}
use Rattle.plane_types.proofs.RealisedTags.{are_tags}
use Rattle.plane_types.proofs.RetaggedLaw.{tags_stand}
use Rattle.plane_types.proofs.StayLemmas.{ports_after}
use Rattle.table_edits.specs.EditsAt.{KeysDescend, among}
use Rattle.table_edits.specs.NumbersSeen.{Renumbered, at_after, at_before}
use Rattle.table_edits.specs.Rewires.{LeadsOn}
use Rattle.table_edits.proofs.KindsAfter.{floatings_after}
use Rattle.touched_rows.specs.SeesAlike.{SeesAlike}
use Rattle.l2_delta.proofs.BridgeLaw.{HasRouter, bridge_own, have_routers, of_dhcp, of_mac}
use Rattle.l2_delta.proofs.BridgeLaw.{before as bridge_at, order as bridge_total}
use Rattle.l2_delta.proofs.MapLaw.{IsMapChange, as_list, given_options, map_changes}
use Rattle.l2_delta.proofs.NeighbourLaw.{neighbours_own, of_floating, of_port}
use Rattle.l2_delta.proofs.NeighbourLaw.{before as neighbour_at, order as neighbour_total}
use Rattle.l2_delta.proofs.NumberedSources.{at_numbers}
use Rattle.l2_delta.proofs.SeenPorts.{dhcp_seen, mac_seen, neighbours_seen}
use Rattle.l2_delta.proofs.UntouchedPorts.{number_stays, of_row, option_stays, places}

-- the orders of the keys, as the tables have them

pub same_neighbour_order : pair_order nat_lt addr_before ≡ neighbour_order
same_neighbour_order = λ j a b. same a b j
  where
    same : (a b : NeighbourKey) → pair_order nat_lt addr_before a b ≡ neighbour_order a b
    same a b = by (addr_before a.1 b.1)
      where
        by : (later : Bool) → (if nat_lt a.0 b.0 then true else (if nat_lt b.0 a.0 then false else later)) ≡ (nat_lt a.0 b.0 || ((a.0 == b.0) && later))
        by true = grind (arith, nat_tests)
        by false = grind (arith, nat_tests)

pub same_bridge_order : pair_order nat_lt nat_lt ≡ bridge_order
same_bridge_order = λ j a b. same a b j
  where
    same : (a b : BridgeKeyAt) → pair_order nat_lt nat_lt a b ≡ bridge_order a b
    same a b = by (nat_lt a.1 b.1)
      where
        by : (later : Bool) → (if nat_lt a.0 b.0 then true else (if nat_lt b.0 a.0 then false else later)) ≡ (nat_lt a.0 b.0 || ((a.0 == b.0) && later))
        by true = grind (arith, nat_tests)
        by false = grind (arith, nat_tests)

module _ (rows now : RowLists) (items : List Item) (host : List ℕ) (old new : List TagRow) where
  abbrev ports_now : List (ℕ × PortRow)
  ports_now = numbered_after rows.ports (row_items Port port_of items)

  abbrev floatings_now : List (ℕ × FloatingRow)
  floatings_now = numbered_after rows.floatings (row_items Floating floating_of items)

  -- a change that touches ports with these numbers
  pub record ArePortsTouched (ks : List ℕ) : Type 0 where
    pub leads : LeadsOn rows items now
    pub had : RealisesTags rows host old
    pub has : RealisesTags now host new
    pub down : KeysDescend nat_lt ks
    pub stay : (k : ℕ) → among nat_lt k ks ≡ false → row_at nat_lt k (with_numbers 0 rows.ports) ≡ row_at nat_lt k ports_now
    pub networks : (k : ℕ) (p : PortRow) → among nat_lt k ks ≡ false → row_at nat_lt k (with_numbers 0 rows.ports) ≡ Some p → SeesAlike rows now old new p

  pub record AreFloatingsTouched (js : List ℕ) : Type 0 where
    pub down : KeysDescend nat_lt js
    pub stay : (k : ℕ) → among nat_lt k js ≡ false → option_and_then (floating_neighbour rows host old) (row_at nat_lt k (with_numbers 0 rows.floatings)) ≡ option_and_then (floating_neighbour now host new) (row_at nat_lt k floatings_now)

  pub ports_touched : (tags : List TagRow) (ports : Renumbered PortRow) → LeadsOn rows items now → RealisesTags rows host tags → old ≡ tags → new ≡ new_tags now host tags
      → ports ≡ record { rows = rows.ports; items = row_items Port port_of items } → (ks : List ℕ) → KeysDescend nat_lt ks
      → ((k : ℕ) → among nat_lt k ks ≡ false → at_before ports k ≡ at_after ports k)
      → ((k : ℕ) (p : PortRow) → among nat_lt k ks ≡ false → at_before ports k ≡ Some p → SeesAlike rows now old new p)
      → ArePortsTouched ks
  ports_touched tags ports leads real had given numbered ks down named networks = record {
    leads = leads;
    had = subst (RealisesTags rows host) (sym had) real;
    has = subst (RealisesTags now host) (sym given) (tags_stand now host tags (are_tags rows host tags real) leads.stays_consistent);
    down = down;
    stay = λ k away. subst (λ n. at_before n k ≡ at_after n k) numbered (named k away);
    networks = λ k p away at. networks k p away (subst (λ n. at_before n k ≡ Some p) (sym numbered) at);
  }

  module _ (ks : List ℕ) (touched : ArePortsTouched ks) where
    are_now : unkeyed ports_now ≡ now.ports
    are_now = after_plain rows.ports (row_items Port port_of items) ∙ sym (ports_after rows items) ∙ ap (λ (r : RowLists). r.ports) (sym touched.leads.leads)

    floatings_are_now : unkeyed floatings_now ≡ now.floatings
    floatings_are_now = after_plain rows.floatings (row_items Floating floating_of items) ∙ sym (floatings_after rows items) ∙ ap (λ (r : RowLists). r.floatings) (sym touched.leads.leads)

    pub neighbours_change : (js : List ℕ) → AreFloatingsTouched js
        → IsMapChange neighbour_at neighbour_key
        (map neighbour_key (flat_map (neighbours_of rows host old) (filter_map (λ k. slice_get rows.ports k) ks) ++ filter_map (floating_neighbour rows host old) (filter_map (λ k. slice_get rows.floatings k) js)))
        (neighbour_rows rows host old)
        (ascending neighbour_before (flat_map (neighbours_of now host new) (at_numbers ports_now ks) ++ filter_map (floating_neighbour now host new) (at_numbers floatings_now js)))
        (neighbour_rows now host new)
    unfolding neighbour_rows
    neighbours_change js floating =
        transport (λ i. IsMapChange neighbour_at neighbour_key
        (map neighbour_key (flat_map (of_port rows host old) (sym (places rows.ports ks) i) ++ touched_before i))
        (ascending (by_order i) (flat_map (of_port rows host old) (plain_numbered 0 rows.ports i) ++ all_before i))
        (ascending (by_order i) (flat_map (of_port now host new) (at_numbers ports_now ks) ++ touched_now i))
        (ascending (by_order i) (flat_map (of_port now host new) (are_now i) ++ all_now i)))
        (map_changes neighbour_at neighbour_total neighbour_key (of_port rows host old) (of_port now host new) (of_floating rows host old) (of_floating now host new)
        (with_numbers 0 rows.ports) ports_now (with_numbers 0 rows.floatings) floatings_now ks js
        (numbered_rises 0 rows.ports) (after_rises rows.ports (row_items Port port_of items)) (numbered_rises 0 rows.floatings) (after_rises rows.floatings (row_items Floating floating_of items)) touched.down floating.down
        (neighbours_own rows host old touched.leads.consistent touched.had (with_numbers 0 rows.ports) (with_numbers 0 rows.floatings) (plain_numbered 0 rows.ports) (plain_numbered 0 rows.floatings))
        (neighbours_own now host new touched.leads.stays_consistent touched.has ports_now floatings_now are_now floatings_are_now)
        (λ k away. number_stays (of_port rows host old) (of_port now host new) (with_numbers 0 rows.ports) ports_now k (touched.stay k away)
        (λ p at. neighbours_seen rows now host old new p (touched.networks k p away at)))
        (λ k away. option_stays (floating_neighbour rows host old) (floating_neighbour now host new) (with_numbers 0 rows.floatings) floatings_now k (floating.stay k away)))
      where
        by_order : (λ (r s : NeighbourRow). neighbour_at (neighbour_key r) (neighbour_key s)) ≡ neighbour_before
        by_order = λ i r s. same_neighbour_order i (neighbour_key r) (neighbour_key s)

        touched_before : flat_map (of_floating rows host old) (at_numbers (with_numbers 0 rows.floatings) js) ≡ filter_map (floating_neighbour rows host old) (filter_map (λ k. slice_get rows.floatings k) js)
        touched_before = given_options (floating_neighbour rows host old) (at_numbers (with_numbers 0 rows.floatings) js) ∙ ap (filter_map (floating_neighbour rows host old)) (sym (places rows.floatings js))

        all_before : flat_map (of_floating rows host old) (unkeyed (with_numbers 0 rows.floatings)) ≡ filter_map (floating_neighbour rows host old) rows.floatings
        all_before = given_options (floating_neighbour rows host old) (unkeyed (with_numbers 0 rows.floatings)) ∙ ap (filter_map (floating_neighbour rows host old)) (plain_numbered 0 rows.floatings)

        touched_now : flat_map (of_floating now host new) (at_numbers floatings_now js) ≡ filter_map (floating_neighbour now host new) (at_numbers floatings_now js)
        touched_now = given_options (floating_neighbour now host new) (at_numbers floatings_now js)

        all_now : flat_map (of_floating now host new) (unkeyed floatings_now) ≡ filter_map (floating_neighbour now host new) now.floatings
        all_now = given_options (floating_neighbour now host new) (unkeyed floatings_now) ∙ ap (filter_map (floating_neighbour now host new)) floatings_are_now

    -- an untouched port is of a router before the change, and after it
    routed : (k : ℕ) (p : PortRow) → among nat_lt k ks ≡ false → row_at nat_lt k (with_numbers 0 rows.ports) ≡ Some p
        → HasRouter rows touched.leads.consistent p × HasRouter now touched.leads.stays_consistent p
    routed k p away at = (
      of_row (HasRouter rows touched.leads.consistent) (with_numbers 0 rows.ports) (subst (AllOf (HasRouter rows touched.leads.consistent)) (sym (plain_numbered 0 rows.ports)) (have_routers rows touched.leads.consistent)) k p at,
      of_row (HasRouter now touched.leads.stays_consistent) ports_now (subst (AllOf (HasRouter now touched.leads.stays_consistent)) (sym are_now) (have_routers now touched.leads.stays_consistent)) k p (sym (touched.stay k away) ∙ at),
    )

    pub bridge_change : IsMapChange bridge_at bridge_key
        (map bridge_key (filter_map (mac_row rows host old) (filter_map (λ k. slice_get rows.ports k) ks) ++ filter_map (dhcp_row rows host old) (filter_map (λ k. slice_get rows.ports k) ks)))
        (bridge_rows rows host old)
        (ascending bridge_before (filter_map (mac_row now host new) (at_numbers ports_now ks) ++ filter_map (dhcp_row now host new) (at_numbers ports_now ks)))
        (bridge_rows now host new)
    unfolding bridge_rows
    bridge_change =
        transport (λ i. IsMapChange bridge_at bridge_key
        (map bridge_key (some_before (mac_row rows host old) i ++ some_before (dhcp_row rows host old) i))
        (ascending (by_order i) (all_before (mac_row rows host old) i ++ all_before (dhcp_row rows host old) i))
        (ascending (by_order i) (some_now (mac_row now host new) i ++ some_now (dhcp_row now host new) i))
        (ascending (by_order i) (all_now (mac_row now host new) i ++ all_now (dhcp_row now host new) i)))
        (map_changes bridge_at bridge_total bridge_key (of_mac rows host old) (of_mac now host new) (of_dhcp rows host old) (of_dhcp now host new)
        (with_numbers 0 rows.ports) ports_now (with_numbers 0 rows.ports) ports_now ks ks
        (numbered_rises 0 rows.ports) (after_rises rows.ports (row_items Port port_of items)) (numbered_rises 0 rows.ports) (after_rises rows.ports (row_items Port port_of items)) touched.down touched.down
        (bridge_own rows host old touched.leads.consistent touched.had (with_numbers 0 rows.ports) (plain_numbered 0 rows.ports))
        (bridge_own now host new touched.leads.stays_consistent touched.has ports_now are_now)
        (λ k away. number_stays (of_mac rows host old) (of_mac now host new) (with_numbers 0 rows.ports) ports_now k (touched.stay k away)
        (λ p at. let r = routed k p away at in ap as_list (mac_seen rows now host old new p (touched.networks k p away at) touched.leads.consistent touched.leads.stays_consistent r.0 r.1)))
        (λ k away. number_stays (of_dhcp rows host old) (of_dhcp now host new) (with_numbers 0 rows.ports) ports_now k (touched.stay k away)
        (λ p at. let r = routed k p away at in ap as_list (dhcp_seen rows now host old new p (touched.networks k p away at) touched.leads.consistent touched.leads.stays_consistent r.0 r.1))))
      where
        by_order : (λ (r s : BridgeRow). bridge_at (bridge_key r) (bridge_key s)) ≡ bridge_before
        by_order = λ i r s. same_bridge_order i (bridge_key r) (bridge_key s)

        some_before : (gives : PortRow → Option BridgeRow) → flat_map (λ p. as_list (gives p)) (at_numbers (with_numbers 0 rows.ports) ks) ≡ filter_map gives (filter_map (λ k. slice_get rows.ports k) ks)
        some_before gives = given_options gives (at_numbers (with_numbers 0 rows.ports) ks) ∙ ap (filter_map gives) (sym (places rows.ports ks))

        all_before : (gives : PortRow → Option BridgeRow) → flat_map (λ p. as_list (gives p)) (unkeyed (with_numbers 0 rows.ports)) ≡ filter_map gives rows.ports
        all_before gives = given_options gives (unkeyed (with_numbers 0 rows.ports)) ∙ ap (filter_map gives) (plain_numbered 0 rows.ports)

        some_now : (gives : PortRow → Option BridgeRow) → flat_map (λ p. as_list (gives p)) (at_numbers ports_now ks) ≡ filter_map gives (at_numbers ports_now ks)
        some_now gives = given_options gives (at_numbers ports_now ks)

        all_now : (gives : PortRow → Option BridgeRow) → flat_map (λ p. as_list (gives p)) (unkeyed ports_now) ≡ filter_map gives now.ports
        all_now gives = given_options gives (unkeyed ports_now) ∙ ap (filter_map gives) are_now

-- ---- the same of what code has at hand

module _ (rows now : RowLists) (items : List Item) (host : List ℕ) (old new tags : List TagRow) (ports : Renumbered PortRow) (leads : LeadsOn rows items now) (real : RealisesTags rows host tags) (had : old ≡ tags) (given : new ≡ new_tags now host tags) (numbered : ports ≡ record { rows = rows.ports; items = row_items Port port_of items }) (ks : List ℕ) (down : KeysDescend nat_lt ks)
    (named : (k : ℕ) → among nat_lt k ks ≡ false → at_before ports k ≡ at_after ports k) (networks : (k : ℕ) (p : PortRow) → among nat_lt k ks ≡ false → at_before ports k ≡ Some p → SeesAlike rows now old new p) where
  touched : ArePortsTouched rows now items host old new ks
  touched = ports_touched rows now items host old new tags ports leads real had given numbered ks down named networks

  pub neighbours_at : (floatings : Renumbered FloatingRow) → floatings ≡ record { rows = rows.floatings; items = row_items Floating floating_of items } → (js : List ℕ) → KeysDescend nat_lt js
      → ((k : ℕ) → among nat_lt k js ≡ false → option_and_then (floating_neighbour rows host old) (at_before floatings k) ≡ option_and_then (floating_neighbour now host new) (at_after floatings k))
      → (keys : List NeighbourKey) (table found : List NeighbourRow)
      → keys ≡ map neighbour_key (flat_map (neighbours_of rows host old) (filter_map (λ k. slice_get ports.rows k) ks) ++ filter_map (floating_neighbour rows host old) (filter_map (λ k. slice_get floatings.rows k) js))
      → table ≡ neighbour_rows rows host tags
      → found ≡ ascending neighbour_before (flat_map (neighbours_of now host new) (filter_map (at_after ports) ks) ++ filter_map (floating_neighbour now host new) (filter_map (at_after floatings) js))
      → IsMapChange neighbour_at neighbour_key keys table found (neighbour_rows now host new)
  neighbours_at floatings counted js descend stay keys table found are_keys is_table is_found =
      transport (λ i. IsMapChange neighbour_at neighbour_key (sym keys_are i) (sym table_is i) (sym found_is i) (neighbour_rows now host new))
      (neighbours_change rows now items host old new ks touched js (record { down = descend; stay = λ k away. subst (λ n. option_and_then (floating_neighbour rows host old) (at_before n k) ≡ option_and_then (floating_neighbour now host new) (at_after n k)) counted (stay k away) }))
    where
      keys_are : keys ≡ map neighbour_key (flat_map (neighbours_of rows host old) (filter_map (λ k. slice_get rows.ports k) ks) ++ filter_map (floating_neighbour rows host old) (filter_map (λ k. slice_get rows.floatings k) js))
      keys_are = are_keys ∙ (λ i. map neighbour_key (flat_map (neighbours_of rows host old) (filter_map (λ k. slice_get (numbered i).rows k) ks) ++ filter_map (floating_neighbour rows host old) (filter_map (λ k. slice_get (counted i).rows k) js)))

      table_is : table ≡ neighbour_rows rows host old
      table_is = is_table ∙ ap (neighbour_rows rows host) (sym had)

      found_is : found ≡ ascending neighbour_before (flat_map (neighbours_of now host new) (at_numbers (numbered_after rows.ports (row_items Port port_of items)) ks) ++ filter_map (floating_neighbour now host new) (at_numbers (numbered_after rows.floatings (row_items Floating floating_of items)) js))
      found_is = is_found ∙ (λ i. ascending neighbour_before (flat_map (neighbours_of now host new) (filter_map (at_after (numbered i)) ks) ++ filter_map (floating_neighbour now host new) (filter_map (at_after (counted i)) js)))

  pub bridge_entries_at : (keys : List BridgeKeyAt) (table found : List BridgeRow)
      → keys ≡ map bridge_key (filter_map (mac_row rows host old) (filter_map (λ k. slice_get ports.rows k) ks) ++ filter_map (dhcp_row rows host old) (filter_map (λ k. slice_get ports.rows k) ks))
      → table ≡ bridge_rows rows host tags
      → found ≡ ascending bridge_before (filter_map (mac_row now host new) (filter_map (at_after ports) ks) ++ filter_map (dhcp_row now host new) (filter_map (at_after ports) ks))
      → IsMapChange bridge_at bridge_key keys table found (bridge_rows now host new)
  bridge_entries_at keys table found are_keys is_table is_found =
      transport (λ i. IsMapChange bridge_at bridge_key (sym keys_are i) (sym table_is i) (sym found_is i) (bridge_rows now host new))
      (bridge_change rows now items host old new ks touched)
    where
      keys_are : keys ≡ map bridge_key (filter_map (mac_row rows host old) (filter_map (λ k. slice_get rows.ports k) ks) ++ filter_map (dhcp_row rows host old) (filter_map (λ k. slice_get rows.ports k) ks))
      keys_are = are_keys ∙ (λ i. map bridge_key (filter_map (mac_row rows host old) (filter_map (λ k. slice_get (numbered i).rows k) ks) ++ filter_map (dhcp_row rows host old) (filter_map (λ k. slice_get (numbered i).rows k) ks)))

      table_is : table ≡ bridge_rows rows host old
      table_is = is_table ∙ ap (bridge_rows rows host) (sym had)

      found_is : found ≡ ascending bridge_before (filter_map (mac_row now host new) (at_numbers (numbered_after rows.ports (row_items Port port_of items)) ks) ++ filter_map (dhcp_row now host new) (at_numbers (numbered_after rows.ports (row_items Port port_of items)) ks))
      found_is = is_found ∙ (λ i. ascending bridge_before (filter_map (mac_row now host new) (filter_map (at_after (numbered i)) ks) ++ filter_map (dhcp_row now host new) (filter_map (at_after (numbered i)) ks)))
