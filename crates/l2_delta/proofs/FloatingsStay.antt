-- A floating address that a change doesn't touch gives the neighbour that it gave: the router that
-- it names isn't touched, so neither is that router's gateway port.
use Rattle.std.proofs.Common.{◌≡◌, ◌∙◌, ℕ, List, Bool, true, false, Option, Some, None, find, slice_get, refl, ap, sym, subst}
use Rattle.std.specs.Prelude.{◌&&◌, ◌||◌, if◌then◌else◌, nat_lt, option_and_then, option_map}
use Rattle.std.specs.List.{list_any}
use Rattle.net_addr.specs.declared.address.Addr.TheVariants.{V4}
use Rattle.api_types.specs.Consistent.{IsConsistent}
use Rattle.api_types.specs.Consistent.Services.{is_gateway_of, is_named_gateway}
use Rattle.api_types.specs.Holders.{floating_holder, gateway_port, gateway_port_of, live_on, target_router}
use Rattle.api_types.specs.Ident.{Ident}
use Rattle.api_types.specs.Lists.{if_some}
use Rattle.api_types.specs.Live.{is_joined, is_live, joins}
use Rattle.api_types.specs.Owners.{device_is, is_gateway, is_interface, is_router_port}
use Rattle.api_types.specs.Parts.{port_of, router_of}
use Rattle.api_types.specs.RowLists.{RowLists}
use Rattle.api_types.specs.RowsWith.{port_with, router_with}
use Rattle.api_types.specs.Table.{ident_eq}
use Rattle.api_types.specs.declared.change.Item.{Item}
use Rattle.api_types.specs.declared.floating.FloatingRow.{FloatingRow}
use Rattle.api_types.specs.declared.floating.Target.{Target}
use Rattle.api_types.specs.declared.kind.Kind.TheVariants.{Port, Router}
use Rattle.api_types.specs.declared.port.PortRow.{PortRow}
use Rattle.api_types.specs.declared.router.Gateway.{Gateway}
use Rattle.api_types.specs.declared.router.RouterRow.{RouterRow}
use Rattle.api_types.proofs.ListLemmas.{and_both, none_some, or_true, some_equal}
use Rattle.api_types.proofs.NameLemmas.{and_fails, by_test, ident_same}
use Rattle.plane_laws.proofs.Facts.{AtMostOne, has_id}
use Rattle.plane_laws.proofs.FactsHold.{frame-facts}
use Rattle.plane_laws.proofs.ListLemmas.{find-only, find-passes, find-some, some_of}
use Rattle.plane_types.specs.Numbered.{numbered_after, with_numbers}
use Rattle.plane_types.specs.NumberedRows.{row_items}
use Rattle.plane_types.specs.TableRows.{floating_neighbour, floating_neighbour_by, tag_of}
use Rattle.plane_types.specs.declared.table.NeighbourRow.{NeighbourRow}
use Rattle.plane_types.specs.declared.table.TagRow.{TagRow}
use Rattle.plane_types.proofs.LocalLemmas.{live_same}
use Rattle.plane_types.proofs.NumberedLemmas.{after_plain, after_rises, numbered_rises, plain, plain_numbered}
use Rattle.plane_types.proofs.StayLemmas.{ports_after}
use Rattle.table_edits.specs.EditsAt.{among}
use Rattle.table_edits.specs.NumbersSeen.{Renumbered, at_after, at_before}
use Rattle.table_edits.specs.Rewires.{LeadsOn}
use Rattle.table_edits.proofs.KindsAfter.{routers_after}
use Rattle.touched_rows.specs.SeesAlike.{SeesAlike}
use Rattle.kept_rows.proofs.FoundLemmas.{found_at, number_found, place_at, same_found}
use Rattle.l2_delta.proofs.UntouchedPorts.{seen}

-- the ports, routers and floating addresses that a change touches, by number: a touched port
-- touches its router, and a touched router the floating addresses that name it
pub record Touches (before after : RowLists) (items : List Item) (old new : List TagRow)
    (ports : Renumbered PortRow) (routers : Renumbered RouterRow)
    (floatings : Renumbered FloatingRow) (by_ports by_routers by_floatings : List ℕ)
    : Type 0 where
  pub leads_on : LeadsOn before items after
  pub numbered : ports ≡ record { rows = before.ports; items = row_items Port port_of items }
  pub routed : routers ≡ record { rows = before.routers; items = row_items Router router_of items }
  pub ports_stay : (k : ℕ) → among nat_lt k by_ports ≡ false → at_before ports k ≡ at_after ports k
  pub networks : (k : ℕ) (p : PortRow) → among nat_lt k by_ports ≡ false
      → at_before ports k ≡ Some p → SeesAlike before after old new p
  pub routers_stay : (k : ℕ) → among nat_lt k by_routers ≡ false
      → at_before routers k ≡ at_after routers k
  pub ports_before : (k j : ℕ) (r : RouterRow) (p : PortRow) → among nat_lt k by_routers ≡ false
      → at_before routers k ≡ Some r → at_before ports j ≡ Some p
      → is_router_port p.owner ≡ true → device_is p.device r.id ≡ true
      → among nat_lt j by_ports ≡ false
  pub ports_after : (k j : ℕ) (r : RouterRow) (p : PortRow) → among nat_lt k by_routers ≡ false
      → at_after routers k ≡ Some r → at_after ports j ≡ Some p
      → is_router_port p.owner ≡ true → device_is p.device r.id ≡ true
      → among nat_lt j by_ports ≡ false
  pub floatings_stay : (k : ℕ) → among nat_lt k by_floatings ≡ false
      → at_before floatings k ≡ at_after floatings k
  pub routers_before : (k j : ℕ) (f : FloatingRow) (t : Target) (r : RouterRow)
      → among nat_lt k by_floatings ≡ false → at_before floatings k ≡ Some f
      → f.target ≡ Some t → at_before routers j ≡ Some r → r.id ≡ t.router
      → among nat_lt j by_routers ≡ false
  pub routers_after : (k j : ℕ) (f : FloatingRow) (t : Target) (r : RouterRow)
      → among nat_lt k by_floatings ≡ false → at_before floatings k ≡ Some f
      → f.target ≡ Some t → at_after routers j ≡ Some r → r.id ≡ t.router
      → among nat_lt j by_routers ≡ false

-- the port that a router's gateway names is the router's
gateway_own : (rows : RowLists) → IsConsistent rows → (i : ℕ) (r : RouterRow) (g : Gateway)
    → slice_get rows.routers i ≡ Some r → r.gateway ≡ Some g → (p : PortRow)
    → port_with rows g.port ≡ Some p
    → (is_router_port p.owner ≡ true) × (device_is p.device r.id ≡ true)
gateway_own rows good i r g there has p is =
    let test : PortRow → Bool = is_named_gateway r g in
    let named = some_of (find test rows.ports) (find-some test rows.ports
    ∙ sym (ap (if_some (λ (h : Gateway). list_any (is_named_gateway r h) rows.ports)) has)
    ∙ good.services.of_routers.named i r there) in
    let q : PortRow = named.0 in
    let parts =
    and_both (is_gateway_of r.id q) (ident_eq g.network q.network && ident_eq g.port q.id)
    (find-passes test rows.ports q named.1) in
    let own = and_both (is_gateway q.owner) (device_is q.device r.id) parts.0 in
    let id = and_both (ident_eq g.network q.network) (ident_eq g.port q.id) parts.1 in
    let same : q ≡ p =
    some_equal q p (sym (find-only test (has_id g.port) rows.ports q
    ((frame-facts rows good).port_ids g.port) named.1 id.1) ∙ is) in (
      subst (λ (x : PortRow). is_router_port x.owner ≡ true) same
          (ap (λ b. is_interface q.owner || b) own.0 ∙ or_true (is_interface q.owner)),
      subst (λ (x : PortRow). device_is x.device r.id ≡ true) same own.1,
    )

module _ (before after : RowLists) (items : List Item) (old new : List TagRow)
    (ports : Renumbered PortRow) (routers : Renumbered RouterRow)
    (floatings : Renumbered FloatingRow) (by_ports by_routers by_floatings : List ℕ)
    (t : Touches before after items old new ports routers floatings by_ports by_routers
    by_floatings) where
  ports_then : plain (with_numbers 0 ports.rows) ≡ before.ports
  ports_then = plain_numbered 0 ports.rows ∙ ap (λ (n : Renumbered PortRow). n.rows) t.numbered

  ports_now : plain (numbered_after ports.rows ports.items) ≡ after.ports
  ports_now =
      ap (λ (n : Renumbered PortRow). plain (numbered_after n.rows n.items)) t.numbered
      ∙ after_plain before.ports (row_items Port port_of items)
      ∙ sym (ports_after before items)
      ∙ ap (λ (rows : RowLists). rows.ports) (sym t.leads_on.leads)

  routers_then : plain (with_numbers 0 routers.rows) ≡ before.routers
  routers_then = plain_numbered 0 routers.rows ∙ ap (λ (n : Renumbered RouterRow). n.rows) t.routed

  routers_now : plain (numbered_after routers.rows routers.items) ≡ after.routers
  routers_now =
      ap (λ (n : Renumbered RouterRow). plain (numbered_after n.rows n.items)) t.routed
      ∙ after_plain before.routers (row_items Router router_of items)
      ∙ sym (routers_after before items)
      ∙ ap (λ (rows : RowLists). rows.routers) (sym t.leads_on.leads)

  once_then : (i : Ident) → AtMostOne (has_id i) (plain (with_numbers 0 ports.rows))
  once_then i =
      subst (AtMostOne (has_id i)) (sym ports_then)
      ((frame-facts before t.leads_on.consistent).port_ids i)

  once_now : (i : Ident) → AtMostOne (has_id i) (plain (numbered_after ports.rows ports.items))
  once_now i =
      subst (AtMostOne (has_id i)) (sym ports_now)
      ((frame-facts after t.leads_on.stays_consistent).port_ids i)

  -- ---- the gateway port of a router that isn't touched
  module _ (k : ℕ) (r : RouterRow) (away : among nat_lt k by_routers ≡ false)
      (at : at_before routers k ≡ Some r) where
    at_now : at_after routers k ≡ Some r
    at_now = sym (t.routers_stay k away) ∙ at

    module _ (g : Gateway) (has : r.gateway ≡ Some g) where
      -- it isn't touched
      away_before : (j : ℕ) (p : PortRow) → at_before ports j ≡ Some p → has_id g.port p ≡ true
          → among nat_lt j by_ports ≡ false
      away_before j p there is =
          let place = place_at (with_numbers 0 routers.rows) k r at in
          let own =
          gateway_own before t.leads_on.consistent place.0 r g
          (ap (λ rs. slice_get rs place.0) (sym routers_then) ∙ place.1) has p
          (ap (find (has_id g.port)) (sym ports_then)
          ∙ found_at (has_id g.port) (with_numbers 0 ports.rows) (once_then g.port) j p there is) in
          t.ports_before k j r p away at there own.0 own.1

      away_after : (j : ℕ) (p : PortRow) → at_after ports j ≡ Some p → has_id g.port p ≡ true
          → among nat_lt j by_ports ≡ false
      away_after j p there is =
          let place = place_at (numbered_after routers.rows routers.items) k r at_now in
          let own =
          gateway_own after t.leads_on.stays_consistent place.0 r g
          (ap (λ rs. slice_get rs place.0) (sym routers_now) ∙ place.1) has p
          (ap (find (has_id g.port)) (sym ports_now)
          ∙ found_at (has_id g.port) (numbered_after ports.rows ports.items) (once_now g.port) j p
          there is) in
          t.ports_after k j r p away at_now there own.0 own.1

      -- so it stays
      port_stays : port_with before g.port ≡ port_with after g.port
      port_stays =
          ap (find (has_id g.port)) (sym ports_then)
          ∙ same_found (has_id g.port) (has_id g.port) (with_numbers 0 ports.rows)
          (numbered_after ports.rows ports.items) (numbered_rises 0 ports.rows)
          (after_rises ports.rows ports.items)
          (λ j p there is.
          (sym (t.ports_stay j (away_before j p there is)) ∙ there, is))
          (λ j p there is. (t.ports_stay j (away_after j p there is) ∙ there, is))
          (once_then g.port) (once_now g.port)
          ∙ ap (find (has_id g.port)) ports_now

      -- and its network is alike
      port_alike : (p : PortRow) → port_with before g.port ≡ Some p
          → SeesAlike before after old new p
      port_alike p is =
          let found =
          number_found (has_id g.port) (with_numbers 0 ports.rows) (numbered_rises 0 ports.rows) p
          (ap (find (has_id g.port)) ports_then ∙ is) in
          t.networks found.0 p (away_before found.0 p found.1 found.2) found.1

    gateway_stays : gateway_port before r ≡ gateway_port after r
    gateway_stays = go r.gateway refl
      where
        go : (o : Option Gateway) → r.gateway ≡ o
            → gateway_port_of before r.gateway ≡ gateway_port_of after r.gateway
        go None e = ap (gateway_port_of before) e ∙ sym (ap (gateway_port_of after) e)
        go (Some g) e =
            ap (gateway_port_of before) e ∙ port_stays g e ∙ sym (ap (gateway_port_of after) e)

    gateway_alike : (p : PortRow) → gateway_port before r ≡ Some p
        → SeesAlike before after old new p
    gateway_alike p is = go r.gateway refl
      where
        go : (o : Option Gateway) → r.gateway ≡ o → SeesAlike before after old new p
        go None e = none_some p _ (sym (ap (gateway_port_of before) e) ∙ is)
        go (Some g) e = port_alike g e p (sym (ap (gateway_port_of before) e) ∙ is)

  -- ---- a floating address that isn't touched
  module _ (k : ℕ) (f : FloatingRow) (away : among nat_lt k by_floatings ≡ false)
      (at : at_before floatings k ≡ Some f) where
    module _ (x : Target) (has : f.target ≡ Some x) where
      abbrev named : RouterRow → Bool
      named r = ident_eq x.router r.id

      away_router : (j : ℕ) (r : RouterRow) → at_before routers j ≡ Some r → named r ≡ true
          → among nat_lt j by_routers ≡ false
      away_router j r there is =
          t.routers_before k j f x r away at has there (sym (ident_same x.router r.id is))

      -- the router that it names stays
      router_stays : router_with before x.router ≡ router_with after x.router
      router_stays =
          ap (find named) (sym routers_then)
          ∙ same_found named named (with_numbers 0 routers.rows)
          (numbered_after routers.rows routers.items) (numbered_rises 0 routers.rows)
          (after_rises routers.rows routers.items)
          (λ j r there is. (sym (t.routers_stay j (away_router j r there is)) ∙ there, is))
          (λ j r there is.
          let off =
          t.routers_after k j f x r away at has there (sym (ident_same x.router r.id is)) in
          (t.routers_stay j off ∙ there, is))
          (subst (AtMostOne named) (sym routers_then)
          ((frame-facts before t.leads_on.consistent).router_ids x.router))
          (subst (AtMostOne named) (sym routers_now)
          ((frame-facts after t.leads_on.stays_consistent).router_ids x.router))
          ∙ ap (find named) routers_now

      -- its number
      router_number : (r : RouterRow) → router_with before x.router ≡ Some r
          → (j : ℕ) × (at_before routers j ≡ Some r) × (among nat_lt j by_routers ≡ false)
      router_number r is =
          let found =
          number_found named (with_numbers 0 routers.rows) (numbered_rises 0 routers.rows) r
          (ap (find named) routers_then ∙ is) in
          (found.0, found.1, away_router found.0 r found.1 found.2)

      outer_stays : option_and_then (gateway_port before) (router_with before x.router)
          ≡ option_and_then (gateway_port after) (router_with after x.router)
      outer_stays =
          go (router_with before x.router) refl
          ∙ ap (option_and_then (gateway_port after)) router_stays
        where
          go : (o : Option RouterRow) → router_with before x.router ≡ o
              → option_and_then (gateway_port before) (router_with before x.router)
              ≡ option_and_then (gateway_port after) (router_with before x.router)
          go None e =
              ap (option_and_then (gateway_port before)) e
              ∙ sym (ap (option_and_then (gateway_port after)) e)
          go (Some r) e =
              let n = router_number r e in
              ap (option_and_then (gateway_port before)) e
              ∙ gateway_stays n.0 r n.2 n.1
              ∙ sym (ap (option_and_then (gateway_port after)) e)

      outer_alike : (q : PortRow)
          → option_and_then (gateway_port before) (router_with before x.router) ≡ Some q
          → SeesAlike before after old new q
      outer_alike q is = go (router_with before x.router) refl
        where
          go : (o : Option RouterRow) → router_with before x.router ≡ o
              → SeesAlike before after old new q
          go None e =
              none_some q _ (sym (ap (option_and_then (gateway_port before)) e) ∙ is)
          go (Some r) e =
              let n = router_number r e in
              gateway_alike n.0 r n.2 n.1 q
              (sym (ap (option_and_then (gateway_port before)) e) ∙ is)

    -- the gateway port of the router that a floating address names
    abbrev outer : RowLists → Option PortRow
    outer rows = option_and_then (gateway_port rows) (target_router rows f.target)

    stays : outer before ≡ outer after
    stays = go f.target refl
      where
        go : (o : Option Target) → f.target ≡ o → outer before ≡ outer after
        go None e =
            ap (λ o. option_and_then (gateway_port before) (target_router before o)) e
            ∙ sym (ap (λ o. option_and_then (gateway_port after) (target_router after o)) e)
        go (Some x) e =
            ap (λ o. option_and_then (gateway_port before) (target_router before o)) e
            ∙ outer_stays x e
            ∙ sym (ap (λ o. option_and_then (gateway_port after) (target_router after o)) e)

    on_alike : (q : PortRow) → outer before ≡ Some q → SeesAlike before after old new q
    on_alike q is = go f.target refl
      where
        go : (o : Option Target) → f.target ≡ o → SeesAlike before after old new q
        go None e =
            none_some q _
            (sym (ap (λ o. option_and_then (gateway_port before) (target_router before o)) e) ∙ is)
        go (Some x) e =
            outer_alike x e q
            (sym (ap (λ o. option_and_then (gateway_port before) (target_router before o)) e) ∙ is)

    -- what a floating address gives, by its port
    abbrev shown : PortRow → Bool → Bool → Option ℕ → Option NeighbourRow
    shown q live joined tag =
        if live
        then (if joined
        then option_map (λ tag. record { tag = tag; address = V4 f.address; mac = q.mac }) tag
        else None)
        else None

    module _ (host : List ℕ) where
      is_shown : (rows : RowLists) (tags : List TagRow) (q : PortRow)
          → floating_neighbour_by rows host tags f (live_on rows f.network (Some q))
          ≡ shown q (ident_eq f.network q.network && is_live rows q) (is_joined rows q host)
          (tag_of tags f.network)
      is_shown rows tags q = go (ident_eq f.network q.network && is_live rows q)
        where
          go : (b : Bool)
              → floating_neighbour_by rows host tags f (if b then Some q else None)
              ≡ shown q b (is_joined rows q host) (tag_of tags f.network)
          go true = refl
          go false = refl

      shown_same : (q : PortRow) → SeesAlike before after old new q
          → shown q (ident_eq f.network q.network && is_live before q) (is_joined before q host)
          (tag_of old f.network)
          ≡ shown q (ident_eq f.network q.network && is_live after q) (is_joined after q host)
          (tag_of new f.network)
      shown_same q sees =
          by_test (ident_eq f.network q.network)
          (shown q (ident_eq f.network q.network && is_live before q) (is_joined before q host)
          (tag_of old f.network)
          ≡ shown q (ident_eq f.network q.network && is_live after q) (is_joined after q host)
          (tag_of new f.network))
          (λ on.
          seen before after old new q sees
          (shown q (ident_eq f.network q.network && is_live before q) (is_joined before q host)
          (tag_of old f.network))
          (shown q (ident_eq f.network q.network && is_live after q) (is_joined after q host)
          (tag_of new f.network))
          (λ same.
          let tag : tag_of old f.network ≡ tag_of new f.network =
          subst (λ n. tag_of old n ≡ tag_of new n) (sym (ident_same f.network q.network on))
          same.tag in
          let live : is_live before q ≡ is_live after q =
          live_same before after host old new q same in
          (λ j. shown q (ident_eq f.network q.network && live j) (joins (same.on j) q.host host)
          (tag j)))
          (λ was is.
          unshown (is_live before q) was (is_joined before q host) (tag_of old f.network)
          ∙ sym (unshown (is_live after q) is (is_joined after q host) (tag_of new f.network))))
          (λ off.
          ap (λ b. shown q (b && is_live before q) (is_joined before q host) (tag_of old f.network))
          off
          ∙ sym (ap (λ b. shown q (b && is_live after q) (is_joined after q host)
          (tag_of new f.network)) off))
        where
          unshown : (live : Bool) → live ≡ false → (joined : Bool) (tag : Option ℕ)
              → shown q (ident_eq f.network q.network && live) joined tag ≡ None
          unshown live off joined tag =
              ap (λ b. shown q b joined tag) (and_fails (ident_eq f.network q.network) live off)

      gives : floating_neighbour before host old f ≡ floating_neighbour after host new f
      unfolding floating_holder
      gives =
          go (outer before) refl
          ∙ ap (λ o. floating_neighbour_by after host new f (live_on after f.network o)) stays
        where
          go : (o : Option PortRow) → outer before ≡ o
              → floating_neighbour_by before host old f (live_on before f.network (outer before))
              ≡ floating_neighbour_by after host new f (live_on after f.network (outer before))
          go None e =
              ap (λ o. floating_neighbour_by before host old f (live_on before f.network o)) e
              ∙ sym (ap (λ o. floating_neighbour_by after host new f (live_on after f.network o)) e)
          go (Some q) e =
              ap (λ o. floating_neighbour_by before host old f (live_on before f.network o)) e
              ∙ is_shown before old q
              ∙ shown_same q (on_alike q e)
              ∙ sym (is_shown after new q)
              ∙ sym (ap (λ o. floating_neighbour_by after host new f (live_on after f.network o)) e)

  -- each floating address that isn't touched, or none
  pub floatings_stay : (host : List ℕ) (k : ℕ) → among nat_lt k by_floatings ≡ false
      → option_and_then (floating_neighbour before host old) (at_before floatings k)
      ≡ option_and_then (floating_neighbour after host new) (at_after floatings k)
  floatings_stay host k away =
      go (at_before floatings k) refl
      ∙ ap (option_and_then (floating_neighbour after host new)) (t.floatings_stay k away)
    where
      go : (o : Option FloatingRow) → at_before floatings k ≡ o
          → option_and_then (floating_neighbour before host old) (at_before floatings k)
          ≡ option_and_then (floating_neighbour after host new) (at_before floatings k)
      go None e =
          ap (option_and_then (floating_neighbour before host old)) e
          ∙ sym (ap (option_and_then (floating_neighbour after host new)) e)
      go (Some f) e =
          ap (option_and_then (floating_neighbour before host old)) e
          ∙ gives k f away e host
          ∙ sym (ap (option_and_then (floating_neighbour after host new)) e)
