-- A router that a change doesn't touch has the ports that it had, with the same tags and subnets.
use Rattle.std.proofs.Common.{◌≡◌, ◌∙◌, ℕ, List, Bool, true, false, Option, Some, None, find, slice_get, refl, ap, sym, subst}
use Rattle.std.specs.Prelude.{◌&&◌, ◌||◌, Err, IfOk, Ok, Result, nat_lt}
use Rattle.std.specs.List.{filter, list_any}
use Rattle.api_types.specs.Consistent.{IsConsistent}
use Rattle.api_types.specs.Consistent.Services.{is_gateway_of, is_named_gateway}
use Rattle.api_types.specs.Holders.{gateway_port, gateway_port_of}
use Rattle.api_types.specs.Lists.{Each, if_some}
use Rattle.api_types.specs.Live.{is_live}
use Rattle.api_types.specs.Owners.{device_is, is_gateway, is_interface, is_port_of, is_router_port}
use Rattle.api_types.specs.Parts.{port_of, router_of}
use Rattle.api_types.specs.RouterRows.{is_leg_of, legs_of}
use Rattle.api_types.specs.RowLists.{RowLists}
use Rattle.api_types.specs.RowsWith.{port_with, subnet_with}
use Rattle.api_types.specs.Table.{ident_eq}
use Rattle.api_types.specs.declared.change.Item.{Item}
use Rattle.api_types.specs.declared.kind.Kind.TheVariants.{Port, Router}
use Rattle.api_types.specs.declared.port.Fixed.{Fixed}
use Rattle.api_types.specs.declared.port.PortRow.{PortRow}
use Rattle.api_types.specs.declared.router.Gateway.{Gateway}
use Rattle.api_types.specs.declared.router.RouterRow.{RouterRow}
use Rattle.api_types.proofs.ListLemmas.{and_both, any-at, none_some, or_true, some_equal}
use Rattle.plane_types.specs.Keyed.{row_at}
use Rattle.plane_types.specs.Numbered.{numbered_after, with_numbers}
use Rattle.plane_types.specs.NumberedRows.{row_items}
use Rattle.plane_types.specs.TableRows.{tag_of}
use Rattle.plane_types.specs.declared.table.TagRow.{TagRow}
use Rattle.plane_types.proofs.NumberedLemmas.{after_plain, after_rises, numbered_rises, plain, plain_numbered}
use Rattle.plane_types.proofs.StayLemmas.{ports_after}
use Rattle.plane_laws.proofs.Facts.{AtMostOne}
use Rattle.plane_laws.proofs.FactsHold.{frame-facts}
use Rattle.table_edits.specs.EditsAt.{among}
use Rattle.table_edits.specs.NumbersSeen.{Renumbered, at_after, at_before}
use Rattle.table_edits.specs.Rewires.{LeadsOn}
use Rattle.table_edits.specs.Untouched.{SubnetStays}
use Rattle.table_edits.proofs.KindsAfter.{routers_after}
use Rattle.touched_rows.specs.SeesAlike.{SeesAlike}
use Rattle.touched_rows.proofs.SeesLemmas.{live_can, live_seen}
use Rattle.kept_rows.proofs.FoundLemmas.{Carries, each_filtered, found_at, number_at, number_found, place_at, same_filtered, same_found}
use Rattle.l3_delta.specs.RouterStays.{RouterStays, numbered_legs}

-- four facts of one result are one
pub joined : {X E : Type 0} (res : Result X E) (P Q R S T : X → Type 0)
    → ((x : X) → P x → Q x → R x → S x → T x)
    → IfOk res P → IfOk res Q → IfOk res R → IfOk res S → IfOk res T
joined (Ok x) P Q R S T h p q r s = h x p q r s
joined (Err e) P Q R S T h p q r s = tt

-- the ports before a change and after it, and a router
pub record Ports (before after : RowLists) (items : List Item) (ports : Renumbered PortRow)
    (routers : Renumbered RouterRow) : Type 0 where
  pub leads_on : LeadsOn before items after
  pub numbered : ports ≡ record { rows = before.ports; items = row_items Port port_of items }
  pub routed : routers ≡ record { rows = before.routers; items = row_items Router router_of items }

-- what the touched ports are to a router
pub record IsAway (before after : RowLists) (ports : Renumbered PortRow) (touched : List ℕ)
    (old new : List TagRow) (r : RouterRow) : Type 0 where
  pub stay : (j : ℕ) → among nat_lt j touched ≡ false → at_before ports j ≡ at_after ports j
  pub alike : (j : ℕ) (p : PortRow) → among nat_lt j touched ≡ false → at_before ports j ≡ Some p
      → SeesAlike before after old new p
  pub of_before : (j : ℕ) (p : PortRow) → at_before ports j ≡ Some p
      → is_router_port p.owner ≡ true → device_is p.device r.id ≡ true
      → among nat_lt j touched ≡ false
  pub of_after : (j : ℕ) (p : PortRow) → at_after ports j ≡ Some p
      → is_router_port p.owner ≡ true → device_is p.device r.id ≡ true
      → among nat_lt j touched ≡ false

module _ (before after : RowLists) (items : List Item) (ports : Renumbered PortRow)
    (routers : Renumbered RouterRow) (s : Ports before after items ports routers) where
  pub plain_before : plain (with_numbers 0 ports.rows) ≡ before.ports
  plain_before = plain_numbered 0 ports.rows ∙ ap (λ (p : Renumbered PortRow). p.rows) s.numbered

  pub plain_after : plain (numbered_after ports.rows ports.items) ≡ after.ports
  plain_after =
      ap (λ (p : Renumbered PortRow). plain (numbered_after p.rows p.items)) s.numbered
      ∙ after_plain before.ports (row_items Port port_of items)
      ∙ sym (ports_after before items)
      ∙ ap (λ (rows : RowLists). rows.ports) (sym s.leads_on.leads)

  pub routers_before : plain (with_numbers 0 routers.rows) ≡ before.routers
  routers_before =
      plain_numbered 0 routers.rows ∙ ap (λ (p : Renumbered RouterRow). p.rows) s.routed

  pub routers_now : plain (numbered_after routers.rows routers.items) ≡ after.routers
  routers_now =
      ap (λ (p : Renumbered RouterRow). plain (numbered_after p.rows p.items)) s.routed
      ∙ after_plain before.routers (row_items Router router_of items)
      ∙ sym (routers_after before items)
      ∙ ap (λ (rows : RowLists). rows.routers) (sym s.leads_on.leads)

-- a port that a router's gateway names is the router's
module _ (rows : RowLists) (good : IsConsistent rows) (xs : List (ℕ × PortRow))
    (is_ports : plain xs ≡ rows.ports) (r : RouterRow) (i : ℕ) (there : slice_get rows.routers i ≡ Some r)
    (g : Gateway) (has : r.gateway ≡ Some g) where
  abbrev named : PortRow → Bool
  named p = ident_eq g.port p.id

  once : AtMostOne named (plain xs)
  once = subst (AtMostOne named) (sym is_ports) ((frame-facts rows good).port_ids g.port)

  pub its : (j : ℕ) (p : PortRow) → row_at nat_lt j xs ≡ Some p → named p ≡ true
      → (up : (k : ℕ) (q : PortRow) → slice_get (plain xs) k ≡ Some q → (m : ℕ) × (row_at nat_lt m xs ≡ Some q))
      → (is_router_port p.owner ≡ true) × (device_is p.device r.id ≡ true)
  its j p at is up =
      let any : list_any (is_named_gateway r g) rows.ports ≡ true =
      sym (ap (if_some (λ (g : Gateway). list_any (is_named_gateway r g) rows.ports)) has)
      ∙ good.services.of_routers.named i r there in
      let q = any-at (is_named_gateway r g) rows.ports any in
      let parts = and_both (is_gateway_of r.id q.1) (ident_eq g.network (q.1).network && ident_eq g.port (q.1).id) q.3 in
      let own = and_both (is_gateway (q.1).owner) (device_is (q.1).device r.id) parts.0 in
      let id = and_both (ident_eq g.network (q.1).network) (ident_eq g.port (q.1).id) parts.1 in
      let number = up q.0 q.1 (ap (λ (ps : List PortRow). slice_get ps q.0) is_ports ∙ q.2) in
      let same : q.1 ≡ p =
      some_equal q.1 p (sym (found_at named xs once number.0 q.1 number.1 id.1) ∙ found_at named xs once j p at is) in (
        subst (λ (x : PortRow). is_router_port x.owner ≡ true) same
            (ap (λ b. is_interface (q.1).owner || b) own.0 ∙ or_true (is_interface (q.1).owner)),
        subst (λ (x : PortRow). device_is x.device r.id ≡ true) same own.1,
      )

module _ (before after : RowLists) (items : List Item) (ports : Renumbered PortRow)
    (routers : Renumbered RouterRow) (s : Ports before after items ports routers)
    (touched : List ℕ) (old new : List TagRow) (k : ℕ) (r : RouterRow)
    (at : at_before routers k ≡ Some r) (at_now : at_after routers k ≡ Some r)
    (away : IsAway before after ports touched old new r) where
  -- of a port that stays at its number
  carried : (j : ℕ) (p : PortRow) → at_before ports j ≡ Some p → among nat_lt j touched ≡ false
      → (at_after ports j ≡ Some p) × (is_live before p ≡ is_live after p)
  carried j p there off =
      (sym (away.stay j off) ∙ there, live_seen before after old new p (away.alike j p off there))

  leg_off : (j : ℕ) (p : PortRow) → at_before ports j ≡ Some p → is_leg_of before r p ≡ true
      → among nat_lt j touched ≡ false
  leg_off j p there leg =
      let parts = and_both (is_port_of r p) (is_live before p) leg in
      let own = and_both (is_router_port p.owner) (device_is p.device r.id) parts.0 in
      away.of_before j p there own.0 own.1

  leg_stays : Carries (is_leg_of before r) (is_leg_of after r) (with_numbers 0 ports.rows)
      (numbered_after ports.rows ports.items)
  leg_stays j p there leg =
      let c = carried j p there (leg_off j p there leg) in
      (c.0, ap (λ b. is_port_of r p && b) (sym c.1) ∙ leg)

  leg_was : Carries (is_leg_of after r) (is_leg_of before r)
      (numbered_after ports.rows ports.items) (with_numbers 0 ports.rows)
  leg_was j p there leg =
      let parts = and_both (is_port_of r p) (is_live after p) leg in
      let own = and_both (is_router_port p.owner) (device_is p.device r.id) parts.0 in
      let off = away.of_after j p there own.0 own.1 in
      let was : at_before ports j ≡ Some p = away.stay j off ∙ there in
      let c = carried j p was off in
      (was, ap (λ b. is_port_of r p && b) c.1 ∙ leg)

  legs : numbered_legs before r (with_numbers 0 ports.rows)
      ≡ numbered_legs after r (numbered_after ports.rows ports.items)
  legs =
      same_filtered (is_leg_of before r) (is_leg_of after r) (with_numbers 0 ports.rows)
      (numbered_after ports.rows ports.items) (numbered_rises 0 ports.rows)
      (after_rises ports.rows ports.items) leg_stays leg_was

  tags : Each (λ (p : PortRow). tag_of old p.network ≡ tag_of new p.network) (legs_of before r)
  unfolding legs_of
  tags =
      subst (λ (ps : List PortRow). Each (λ (p : PortRow). tag_of old p.network ≡ tag_of new p.network) (filter (is_leg_of before r) ps))
      (plain_before before after items ports routers s)
      (each_filtered (λ (p : PortRow). tag_of old p.network ≡ tag_of new p.network) (is_leg_of before r)
      (with_numbers 0 ports.rows) (numbered_rises 0 ports.rows)
      (λ j p there leg.
      let live = and_both (is_port_of r p) (is_live before p) leg in
      (away.alike j p (leg_off j p there leg) there (live_can before p live.1)).tag))

  place_before : (i : ℕ) × (slice_get before.routers i ≡ Some r)
  place_before =
      let place = place_at (with_numbers 0 routers.rows) k r at in
      (place.0, ap (λ (rs : List RouterRow). slice_get rs place.0) (sym (routers_before before after items ports routers s)) ∙ place.1)

  place_after : (i : ℕ) × (slice_get after.routers i ≡ Some r)
  place_after =
      let place = place_at (numbered_after routers.rows routers.items) k r at_now in
      (place.0, ap (λ (rs : List RouterRow). slice_get rs place.0) (sym (routers_now before after items ports routers s)) ∙ place.1)

  module _ (g : Gateway) (has : r.gateway ≡ Some g) where
    its_before : (j : ℕ) (p : PortRow) → at_before ports j ≡ Some p → ident_eq g.port p.id ≡ true
        → among nat_lt j touched ≡ false
    its_before j p there is =
        let own = its before s.leads_on.consistent (with_numbers 0 ports.rows)
        (plain_before before after items ports routers s) r place_before.0 place_before.1 g has j p there is
        (λ m q here. number_at (with_numbers 0 ports.rows) (numbered_rises 0 ports.rows) m q here) in
        away.of_before j p there own.0 own.1

    its_after : (j : ℕ) (p : PortRow) → at_after ports j ≡ Some p → ident_eq g.port p.id ≡ true
        → among nat_lt j touched ≡ false
    its_after j p there is =
        let own = its after s.leads_on.stays_consistent (numbered_after ports.rows ports.items)
        (plain_after before after items ports routers s) r place_after.0 place_after.1 g has j p there is
        (λ m q here. number_at (numbered_after ports.rows ports.items) (after_rises ports.rows ports.items) m q here) in
        away.of_after j p there own.0 own.1

    port_stays : port_with before g.port ≡ port_with after g.port
    port_stays =
        let test : PortRow → Bool = λ p. ident_eq g.port p.id in
        ap (find test) (sym (plain_before before after items ports routers s))
        ∙ same_found test test (with_numbers 0 ports.rows) (numbered_after ports.rows ports.items)
        (numbered_rises 0 ports.rows) (after_rises ports.rows ports.items)
        (λ j p there is. ((carried j p there (its_before j p there is)).0, is))
        (λ j p there is. (away.stay j (its_after j p there is) ∙ there, is))
        (subst (AtMostOne test) (sym (plain_before before after items ports routers s)) ((frame-facts before s.leads_on.consistent).port_ids g.port))
        (subst (AtMostOne test) (sym (plain_after before after items ports routers s)) ((frame-facts after s.leads_on.stays_consistent).port_ids g.port))
        ∙ ap (find test) (plain_after before after items ports routers s)

    port_live : (p : PortRow) → port_with before g.port ≡ Some p → is_live before p ≡ is_live after p
    port_live p is =
        let found = number_found (λ (q : PortRow). ident_eq g.port q.id) (with_numbers 0 ports.rows) (numbered_rises 0 ports.rows) p
        (ap (find (λ (q : PortRow). ident_eq g.port q.id)) (plain_before before after items ports routers s) ∙ is) in
        (carried found.0 p found.1 (its_before found.0 p found.1 found.2)).1

  gateway : gateway_port before r ≡ gateway_port after r
  gateway = go r.gateway refl
    where
      go : (o : Option Gateway) → r.gateway ≡ o → gateway_port_of before r.gateway ≡ gateway_port_of after r.gateway
      go None e = ap (gateway_port_of before) e ∙ sym (ap (gateway_port_of after) e)
      go (Some g) e = ap (gateway_port_of before) e ∙ port_stays g e ∙ sym (ap (gateway_port_of after) e)

  gateway_live : (p : PortRow) → gateway_port before r ≡ Some p → is_live before p ≡ is_live after p
  gateway_live p is = go r.gateway refl
    where
      go : (o : Option Gateway) → r.gateway ≡ o → is_live before p ≡ is_live after p
      go None e = none_some p _ (sym (ap (gateway_port_of before) e) ∙ is)
      go (Some g) e = port_live g e p (sym (ap (gateway_port_of before) e) ∙ is)

  pub router_stays : Each
      (λ (p : PortRow). Each
      (λ (f : Fixed). SubnetStays (subnet_with before f.subnet) (subnet_with after f.subnet)) p.fixed)
      (legs_of before r)
      → RouterStays before after ports old new r
  router_stays subnets = record {
    legs = legs;
    tags = tags;
    subnets = subnets;
    gateway = gateway;
    gateway_live = gateway_live;
  }
