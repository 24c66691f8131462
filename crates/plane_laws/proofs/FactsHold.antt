-- Consistent rows have what the law of frames uses of them.
use Rattle.std.proofs.Common.{◌≡◌, ℕ, zero, suc, ◌<◌, ◌≤◌, List, [], ◌∷◌, Bool, true, false, cond, not, Option, Some, None, refl, ap, sym, ◌∙◌, arith, subst}
use Rattle.std.specs.Prelude.{nat_le, length, find, count_by, is_some, slice_get, ◌&&◌, ◌||◌, ◌==◌}
use Rattle.std.specs.List.{list_any, list_all}
use Rattle.std.specs.Str.{bytes_eq}
use Rattle.std.proofs.lemmas.Bool.{eqb-true, leb-true}
use Rattle.api_types.proofs.ListLemmas.{and_both, both_and, any-at, any-weaker, false_true, some_equal, none_some}
use Rattle.api_types.proofs.NameLemmas.{ident_same, ident_itself, bytes_same, bytes_itself, all-at, by_test}
use Rattle.plane_laws.proofs.ListLemmas.{find-passes, find-each, find-only, find-some, some_of, AllOf-more, any-only, each-found}
use Rattle.plane_laws.proofs.Counted.{all-of, each-of, once-counted, once-weighed, counted, AtMostOne-less_each, AtMostOne-none, AtMostOne-unfound, AllOf-both}
use Rattle.api_types.proofs.IdTexts.{one-text}
use Rattle.net_addr.proofs.AddrLemmas.{addr_same}
use Rattle.net_addr.specs.Addresses.{addr_eq}
use Rattle.net_addr.specs.declared.address.Addr.{Addr}
use Rattle.net_addr.specs.declared.address.Addr.TheVariants.{V4}
use Rattle.api_types.specs.Consistent.{IsConsistent}
use Rattle.api_types.specs.Consistent.Carried.{is_bound, is_unbound}
use Rattle.api_types.specs.Consistent.HeldOnce.{holds_times}
use Rattle.api_types.specs.Consistent.Named.{is_own_port}
use Rattle.api_types.specs.Consistent.Numbered.{is_drawn}
use Rattle.api_types.specs.Consistent.Segments.{same_segment}
use Rattle.api_types.specs.Consistent.Services.{holds_just, is_port_for, wants_dhcp}
use Rattle.api_types.specs.Ident.{Ident, IsDrawable, ident_text}
use Rattle.api_types.specs.Lists.{Each, if_some, is_some_so}
use Rattle.api_types.specs.Owners.{device_is, is_dhcp, is_dhcp_of, is_floating, is_port_of, is_router_port}
use Rattle.api_types.specs.RowLists.{RowLists}
use Rattle.api_types.specs.Table.{ident_eq}
use Rattle.api_types.specs.declared.floating.FloatingRow.{FloatingRow}
use Rattle.api_types.specs.declared.group.GroupRow.{GroupRow}
use Rattle.api_types.specs.declared.group.RuleRow.{RuleRow}
use Rattle.api_types.specs.declared.network.NetworkRow.{NetworkRow}
use Rattle.api_types.specs.declared.network.Segment.{Segment}
use Rattle.api_types.specs.declared.network.Segment.TheVariants.{Flat, Local, Vlan, Vxlan}
use Rattle.api_types.specs.declared.port.Fixed.{Fixed}
use Rattle.api_types.specs.declared.port.PortRow.{PortRow}
use Rattle.api_types.specs.declared.port.Vif.{Vif}
use Rattle.api_types.specs.declared.port.Vif.TheVariants.{Failed, Ovs, Unbound}
use Rattle.api_types.specs.declared.project.ProjectRow.{ProjectRow}
use Rattle.api_types.specs.declared.router.RouterRow.{RouterRow}
use Rattle.api_types.specs.Holders.{holds, router_of}
use Rattle.api_types.specs.Live.{is_live, network_up, segment, segment_of}
use Rattle.api_types.specs.RowsWith.{network_with}
use Rattle.api_types.specs.Wires.{tag_eq}
use Rattle.plane_types.specs.TableRows.{carrier_of, is_host_of, is_hosted}
use Rattle.plane_types.specs.declared.table.Carrier.{Carrier}
use Rattle.plane_types.specs.declared.table.Carrier.TheVariants.{Tunnel as ByTunnel, Wire as ByWire}
use Rattle.plane_laws.proofs.Facts.{AllOf, AtMostOne, FrameFacts, OwnPortStands, RemoteStands, RouterPortStands, carried_by, has_id, is_carrier, own_port_stands}

-- either a test fails, or what is said of those that pass holds
pub unless-passes : (a b : Bool) → not a || b ≡ true → a ≡ true → b ≡ true
unless-passes true b h e = h
unless-passes false b h e = cc

at-place : {X : Type 0} (xs : List X) (k : ℕ) (x : X) → slice_get xs k ≡ Some x → k < length xs
at-place [] k x h = none_some x _ h
at-place (y ∷ xs) zero x h = omega arith
at-place (y ∷ xs) (suc k) x h = let less = at-place xs k x h in omega (arith, less)

module _ (rows : RowLists) (good : IsConsistent rows) where
  port-ids : (i : Ident) → AtMostOne (has_id i) rows.ports
  port-ids i = once-counted (has_id i) rows.ports (omega (arith, good.numbered.ids i))

  network-ids : (i : Ident) → AtMostOne (λ (n : NetworkRow). ident_eq i n.id) rows.networks
  network-ids i = once-counted (λ (n : NetworkRow). ident_eq i n.id) rows.networks (omega (arith, good.numbered.ids i))

  router-ids : (i : Ident) → AtMostOne (λ (r : RouterRow). ident_eq i r.id) rows.routers
  router-ids i = once-counted (λ (r : RouterRow). ident_eq i r.id) rows.routers (omega (arith, good.numbered.ids i))

  networks-stand : AllOf (λ (p : PortRow). is_some (network_with rows p.network) ≡ true) rows.ports
  networks-stand = AllOf-more (λ p. list_any (λ (n : NetworkRow). ident_eq p.network n.id) rows.networks ≡ true) (λ p. is_some (network_with rows p.network) ≡ true) rows.ports
      (λ p h. find-some (λ (n : NetworkRow). ident_eq p.network n.id) rows.networks ∙ h) (all-of _ rows.ports good.named.networks.of_ports)

  remotes-stand : AllOf (λ (r : RuleRow). RemoteStands rows r.remote_group) rows.rules
  remotes-stand = AllOf-more (λ r. if_some (λ i. list_any (λ (g : GroupRow). ident_eq i g.id) rows.groups) r.remote_group ≡ true) (λ r. RemoteStands rows r.remote_group) rows.rules
      (λ r h. by r.remote_group h) (all-of _ rows.rules good.named.groups.of_remotes)
    where
      by : (o : Option Ident) → if_some (λ i. list_any (λ (g : GroupRow). ident_eq i g.id) rows.groups) o ≡ true → RemoteStands rows o
      by None h = tt
      by (Some g) h = h

  macs : (n : Ident) (mac : ℕ) → AtMostOne (λ (p : PortRow). ident_eq n p.network && (p.mac == mac)) rows.ports
  macs n mac = once-counted (λ (p : PortRow). ident_eq n p.network && (p.mac == mac)) rows.ports (good.held_once.macs n mac)

  addresses : (n : Ident) (x : Addr) → AtMostOne (λ (p : PortRow). ident_eq n p.network && holds p x) rows.ports
  addresses n x = once-weighed (holds_times n x) (λ (p : PortRow). ident_eq n p.network && holds p x) (λ p e. weighs p (ident_eq n p.network) e) rows.ports (good.held_once.addresses n x)
    where
      weighs : (p : PortRow) (b : Bool) → b && holds p x ≡ true → 1 ≤ cond b (count_by (λ (f : Fixed). addr_eq f.address x) p.fixed) 0
      weighs p true e = counted (λ (f : Fixed). addr_eq f.address x) p.fixed e
      weighs p false e = cc

  -- segments
  networks-found : AllOf (λ (n : NetworkRow). find (λ (m : NetworkRow). ident_eq n.id m.id) rows.networks ≡ Some n) rows.networks
  networks-found = each-found (λ (n : NetworkRow) (m : NetworkRow). ident_eq n.id m.id) rows.networks (λ n. ident_itself n.id) (λ n. network-ids n.id)

  abbrev wire-segment : List ℕ → Option ℕ → Segment
  wire-segment physical None = Flat physical
  wire-segment physical (Some t) = Vlan physical t

  abbrev segment-of : Carrier → Segment
  segment-of (ByTunnel n) = Vxlan n
  segment-of (ByWire w) = wire-segment w.physical w.tag

  carried-same : (c : Carrier) (s : Segment) → is_carrier c (carrier_of s) ≡ true → same_segment (segment-of c) s ≡ true
  carried-same c Local h = cc
  carried-same (ByTunnel n) (Vxlan m) h = h
  carried-same (ByTunnel n) (Flat p) h = cc
  carried-same (ByTunnel n) (Vlan p t) h = cc
  carried-same (ByWire w) (Vxlan m) h = cc
  carried-same (ByWire w) (Flat p) h = by w.tag h
    where
      by : (o : Option ℕ) → bytes_eq w.physical p && tag_eq o None ≡ true → same_segment (segment-of (ByWire (record { physical = w.physical; tag = o }))) (Flat p) ≡ true
      by None k = (and_both (bytes_eq w.physical p) true k).0
      by (Some t) k = let bad = (and_both (bytes_eq w.physical p) false k).1 in cc
  carried-same (ByWire w) (Vlan p t) h = by w.tag h
    where
      by : (o : Option ℕ) → bytes_eq w.physical p && tag_eq o (Some t) ≡ true → same_segment (segment-of (ByWire (record { physical = w.physical; tag = o }))) (Vlan p t) ≡ true
      by None k = let bad = (and_both (bytes_eq w.physical p) false k).1 in cc
      by (Some x) k = k

  segments : (c : Carrier) → AtMostOne (λ (n : NetworkRow). carried_by rows c n.id) rows.networks
  unfolding segment
  segments c = AtMostOne-less_each (λ (n : NetworkRow). same_segment (segment-of c) n.segment) (λ (n : NetworkRow). carried_by rows c n.id) rows.networks
      (AllOf-more (λ (n : NetworkRow). find (λ (m : NetworkRow). ident_eq n.id m.id) rows.networks ≡ Some n) (λ n. carried_by rows c n.id ≡ true → same_segment (segment-of c) n.segment ≡ true) rows.networks
      (λ n found h. carried-same c n.segment (ap (λ o. is_carrier c (carrier_of (segment_of o))) (sym found) ∙ h)) networks-found)
      (once-counted (λ (n : NetworkRow). same_segment (segment-of c) n.segment) rows.networks (good.segments.apart (segment-of c)))

  -- DHCP ports
  dhcp-once : Each (λ (n : NetworkRow). count_by (is_dhcp_of n.id) rows.ports ≤ 1) rows.networks
  dhcp-once k n at = by (wants_dhcp rows.subnets n.id) (good.services.dhcp.there k n at)
    where
      by : (b : Bool) → count_by (is_dhcp_of n.id) rows.ports ≡ cond b 1 0 → count_by (is_dhcp_of n.id) rows.ports ≤ 1
      by true e = omega (arith, e)
      by false e = omega (arith, e)

  dhcp-ports : (n : Ident) → AtMostOne (is_dhcp_of n) rows.ports
  dhcp-ports n = go (network_with rows n) refl
    where
      go : (o : Option NetworkRow) → network_with rows n ≡ o → AtMostOne (is_dhcp_of n) rows.ports
      go (Some net) e =
          let same : n ≡ net.id = ident_same n net.id (find-passes (λ (m : NetworkRow). ident_eq n m.id) rows.networks net e) in
          once-counted (is_dhcp_of n) rows.ports (subst (λ i. count_by (is_dhcp_of i) rows.ports ≤ 1) (sym same)
          (find-each (λ (m : NetworkRow). count_by (is_dhcp_of m.id) rows.ports ≤ 1) (λ (m : NetworkRow). ident_eq n m.id) rows.networks net (all-of _ rows.networks dhcp-once) e))
      go None e = AtMostOne-less_each (λ p. false) (is_dhcp_of n) rows.ports
          (AllOf-more (λ (p : PortRow). is_some (network_with rows p.network) ≡ true) (λ p. is_dhcp_of n p ≡ true → false ≡ true) rows.ports
          (λ p there h. let same : n ≡ p.network = ident_same n p.network (and_both (ident_eq n p.network) (is_dhcp p.owner) h).0 in
          ap is_some (sym e) ∙ ap (λ i. is_some (network_with rows i)) same ∙ there) networks-stand)
          (AtMostOne-none (λ p. false) rows.ports (λ p h. false_true ⊥ h))

  -- routers by the texts of their ids
  drawable : (i : Ident) → is_drawn rows.projects i ≡ true → IsDrawable i
  drawable i h =
      let at = any-at (λ (p : ProjectRow). (p.ordinal == i.ordinal) && (nat_le 1 i.count && nat_le i.count p.count)) rows.projects h in
      let project : ProjectRow = at.1 in
      let parts = and_both (project.ordinal == i.ordinal) (nat_le 1 i.count && nat_le i.count project.count) at.3 in
      let counts = and_both (nat_le 1 i.count) (nat_le i.count project.count) parts.1 in
      let order = good.numbered.projects.ordered at.0 project at.2 in
      let is : project.ordinal ≡ i.ordinal = eqb-true project.ordinal i.ordinal parts.0 in
      let within = at-place rows.projects at.0 project at.2 in
      record {
        first_ordinal = omega (arith, order.0, is);
        last_ordinal = omega (arith, order.0, is, within, good.numbered.projects.few);
        first_count = leb-true 1 i.count counts.0;
        last_count = omega (arith, order.1, leb-true i.count project.count counts.1);
      }

  routers-drawable : AllOf (λ (r : RouterRow). IsDrawable r.id) rows.routers
  routers-drawable = AllOf-more (λ (r : RouterRow). is_drawn rows.projects r.id ≡ true) (λ r. IsDrawable r.id) rows.routers (λ r h. drawable r.id h) (all-of _ rows.routers good.numbered.drawn.routers)

  -- of the routers with a text, all have the id of the first one
  router-names : (text : List ℕ) → AtMostOne (λ (r : RouterRow). device_is text r.id) rows.routers
  unfolding device_is
  router-names text = go (find (λ (r : RouterRow). bytes_eq text (ident_text r.id)) rows.routers) refl
    where
      go : (o : Option RouterRow) → find (λ (r : RouterRow). bytes_eq text (ident_text r.id)) rows.routers ≡ o → AtMostOne (λ (r : RouterRow). bytes_eq text (ident_text r.id)) rows.routers
      go None e = AtMostOne-unfound (λ (r : RouterRow). bytes_eq text (ident_text r.id)) rows.routers e
      go (Some first) e = AtMostOne-less_each (λ (r : RouterRow). ident_eq first.id r.id) (λ (r : RouterRow). bytes_eq text (ident_text r.id)) rows.routers
          (AllOf-more (λ (r : RouterRow). IsDrawable r.id) (λ r. bytes_eq text (ident_text r.id) ≡ true → ident_eq first.id r.id ≡ true) rows.routers
          (λ r fits h. subst (λ i. ident_eq first.id i ≡ true)
          (one-text first.id r.id (find-each (λ (r : RouterRow). IsDrawable r.id) (λ (r : RouterRow). bytes_eq text (ident_text r.id)) rows.routers first routers-drawable e) fits
          (sym (bytes_same text (ident_text first.id) (find-passes (λ (r : RouterRow). bytes_eq text (ident_text r.id)) rows.routers first e)) ∙ bytes_same text (ident_text r.id) h))
          (ident_itself first.id)) routers-drawable)
          (router-ids first.id)

  -- a live port of a router names one, on the port's host
  abbrev HasHost : PortRow → Type 0
  HasHost p = not (is_bound p.vif) || list_all (λ (r : RouterRow). not (is_port_of r p) || is_some_so (bytes_eq p.host) r.host) rows.routers ≡ true

  abbrev HasRouter : PortRow → Type 0
  HasRouter p = not (is_router_port p.owner) || list_any (λ (r : RouterRow). is_port_of r p) rows.routers ≡ true

  live-bound : (p : PortRow) → is_live rows p ≡ true → is_bound p.vif ≡ true
  unfolding is_live
  live-bound p h = (and_both p.up (is_bound p.vif) (and_both (p.up && is_bound p.vif) (network_up (network_with rows p.network)) h).0).1

  on-host : (p : PortRow) (o : Option (List ℕ)) → is_some_so (bytes_eq p.host) o ≡ true → is_host_of p.host o ≡ true
  on-host p None h = h
  on-host p (Some host) h = subst (λ x. bytes_eq x p.host ≡ true) (bytes_same p.host host h) (bytes_itself p.host)

  port-stands : (p : PortRow) → HasRouter p → HasHost p → RouterPortStands rows p
  port-stands p names hosts router live =
      let any = unless-passes (is_router_port p.owner) (list_any (λ (r : RouterRow). is_port_of r p) rows.routers) names router in
      let all = unless-passes (is_bound p.vif) (list_all (λ (r : RouterRow). not (is_port_of r p) || is_some_so (bytes_eq p.host) r.host) rows.routers) hosts (live-bound p live) in
      let found = some_of (router_of rows p) (find-some (λ (r : RouterRow). device_is p.device r.id) rows.routers
      ∙ any-weaker (λ (r : RouterRow). is_port_of r p) (λ (r : RouterRow). device_is p.device r.id) rows.routers (λ r h. (and_both (is_router_port p.owner) (device_is p.device r.id) h).1) any) in
      let r : RouterRow = found.0 in
      let device = find-passes (λ (r : RouterRow). device_is p.device r.id) rows.routers r found.1 in
      let mine : is_port_of r p ≡ true = both_and (is_router_port p.owner) (device_is p.device r.id) router device in
      let each = find-each (λ (r : RouterRow). not (is_port_of r p) || is_some_so (bytes_eq p.host) r.host ≡ true) (λ (r : RouterRow). device_is p.device r.id) rows.routers r
      (all-of _ rows.routers (all-at (λ (r : RouterRow). not (is_port_of r p) || is_some_so (bytes_eq p.host) r.host) rows.routers all)) found.1 in
      ap (is_hosted p.host) found.1 ∙ on-host p r.host (unless-passes (is_port_of r p) (is_some_so (bytes_eq p.host) r.host) each mine)

  router-ports : AllOf (RouterPortStands rows) rows.ports
  router-ports = AllOf-both HasRouter HasHost (RouterPortStands rows) rows.ports port-stands (all-of HasRouter rows.ports good.services.of_routers.devices) (all-of HasHost rows.ports good.on_hosts.at_router)

  -- floating addresses
  abbrev IsThere : FloatingRow → Type 0
  IsThere f = list_any (λ (p : PortRow). ident_eq f.own_port p.id && is_port_for f p) rows.ports ≡ true

  -- its own port is there, on its network, holds it, and isn't bound
  own-port : (f : FloatingRow) → IsThere f → (p : PortRow) × (find (has_id f.own_port) rows.ports ≡ Some p) × (is_port_for f p ≡ true)
  own-port f there =
      let found = some_of (find (has_id f.own_port) rows.ports) (find-some (has_id f.own_port) rows.ports
      ∙ any-weaker (λ (p : PortRow). ident_eq f.own_port p.id && is_port_for f p) (has_id f.own_port) rows.ports (λ p h. (and_both (ident_eq f.own_port p.id) (is_port_for f p) h).0) there) in
      (found.0, found.1, any-only (has_id f.own_port) (is_port_for f) rows.ports found.0 (port-ids f.own_port) found.1 there)

  just-held : (x : ℕ) (fs : List Fixed) → holds_just x fs ≡ true → list_any (λ (f : Fixed). addr_eq f.address (V4 x)) fs ≡ true
  just-held x [] h = cc
  just-held x (f ∷ []) h = ap (λ b. b || false) h
  just-held x (f ∷ g ∷ fs) h = cc

  unbound : (v : Vif) → is_unbound v ≡ true → not (is_bound v) ≡ true
  unbound Unbound h = refl
  unbound Failed h = cc
  unbound Ovs h = cc

  module _ (f : FloatingRow) (p : PortRow) (is : is_port_for f p ≡ true) where
    parts : (ident_eq f.network p.network && is_floating p.owner && holds_just f.address p.fixed ≡ true) × (is_unbound p.vif ≡ true)
    parts = and_both (ident_eq f.network p.network && is_floating p.owner && holds_just f.address p.fixed) (is_unbound p.vif) is

    its-network : ident_eq f.network p.network ≡ true
    its-network = (and_both (ident_eq f.network p.network) (is_floating p.owner) (and_both (ident_eq f.network p.network && is_floating p.owner) (holds_just f.address p.fixed) parts.0).0).0

    it-holds : holds p (V4 f.address) ≡ true
    it-holds = just-held f.address p.fixed (and_both (ident_eq f.network p.network && is_floating p.owner) (holds_just f.address p.fixed) parts.0).1

    it-stands : own_port_stands f (Some p) ≡ true
    it-stands = both_and (ident_eq f.network p.network && holds p (V4 f.address)) (not (is_bound p.vif)) (both_and (ident_eq f.network p.network) (holds p (V4 f.address)) its-network it-holds) (unbound p.vif parts.1)

  own-ports : AllOf (OwnPortStands rows) rows.floatings
  own-ports = AllOf-more IsThere (OwnPortStands rows) rows.floatings
      (λ f there. let own = own-port f there in ap (own_port_stands f) own.1 ∙ it-stands f own.0 own.2)
      (all-of IsThere rows.floatings good.services.of_floatings.there)

  -- floating addresses with one address on a network have one own port
  floating-addresses : (n : Ident) (x : Addr) → AtMostOne (λ (f : FloatingRow). ident_eq n f.network && addr_eq (V4 f.address) x) rows.floatings
  floating-addresses n x = go (find (λ (p : PortRow). ident_eq n p.network && holds p x) rows.ports) refl
    where
      -- the one port that holds the address is the own port
      held : (f : FloatingRow) → IsThere f → ident_eq n f.network && addr_eq (V4 f.address) x ≡ true → (p : PortRow) × (find (λ (q : PortRow). ident_eq n q.network && holds q x) rows.ports ≡ Some p) × (f.own_port ≡ p.id)
      held f there at =
          let own = own-port f there in
          let both = and_both (ident_eq n f.network) (addr_eq (V4 f.address) x) at in
          let network : ident_eq n (own.0).network ≡ true = subst (λ i. ident_eq i (own.0).network ≡ true) (sym (ident_same n f.network both.0)) (its-network f own.0 own.2) in
          let holding : holds own.0 x ≡ true = subst (λ y. holds own.0 y ≡ true) (addr_same (V4 f.address) x both.1) (it-holds f own.0 own.2) in (
            own.0,
            find-only (has_id f.own_port) (λ (q : PortRow). ident_eq n q.network && holds q x) rows.ports own.0 (addresses n x) own.1 (both_and (ident_eq n (own.0).network) (holds own.0 x) network holding),
            ident_same f.own_port (own.0).id (find-passes (has_id f.own_port) rows.ports own.0 own.1),
          )

      go : (o : Option PortRow) → find (λ (p : PortRow). ident_eq n p.network && holds p x) rows.ports ≡ o → AtMostOne (λ (f : FloatingRow). ident_eq n f.network && addr_eq (V4 f.address) x) rows.floatings
      go None e = AtMostOne-less_each (λ f. false) (λ (f : FloatingRow). ident_eq n f.network && addr_eq (V4 f.address) x) rows.floatings
          (AllOf-more IsThere (λ f. ident_eq n f.network && addr_eq (V4 f.address) x ≡ true → false ≡ true) rows.floatings
          (λ f there at. let h = held f there at in ap is_some (sym e ∙ h.1)) (all-of IsThere rows.floatings good.services.of_floatings.there))
          (AtMostOne-none (λ f. false) rows.floatings (λ f h. false_true ⊥ h))
      go (Some p) e = AtMostOne-less_each (λ (f : FloatingRow). ident_eq p.id f.own_port) (λ (f : FloatingRow). ident_eq n f.network && addr_eq (V4 f.address) x) rows.floatings
          (AllOf-more IsThere (λ f. ident_eq n f.network && addr_eq (V4 f.address) x ≡ true → ident_eq p.id f.own_port ≡ true) rows.floatings
          (λ f there at. let h = held f there at in
          let same : p ≡ h.0 = some_equal p h.0 (sym e ∙ h.1) in
          subst (λ i. ident_eq p.id i ≡ true) (ap (λ (q : PortRow). q.id) same ∙ sym h.2) (ident_itself p.id)) (all-of IsThere rows.floatings good.services.of_floatings.there))
          (once-counted (λ (f : FloatingRow). ident_eq p.id f.own_port) rows.floatings (good.services.of_floatings.once p.id))

  pub frame-facts : FrameFacts rows
  frame-facts = record {
    port_ids = port-ids;
    network_ids = network-ids;
    router_ids = router-ids;
    router_names = router-names;
    networks_stand = networks-stand;
    groups_stand = all-of _ rows.rules good.named.groups.of_rules;
    remotes_stand = remotes-stand;
    macs = macs;
    addresses = addresses;
    segments = segments;
    dhcp_ports = dhcp-ports;
    router_ports = router-ports;
    floating_addresses = floating-addresses;
    own_ports = own-ports;
  }

  -- a floating address's own port is down
  pub own-down : Each (λ (p : PortRow). is_own_port rows.floatings p.id ≡ true → is_live rows p ≡ false) rows.ports
  own-down = each-of (λ (p : PortRow). is_own_port rows.floatings p.id ≡ true → is_live rows p ≡ false) rows.ports
      (AllOf-more (λ (p : PortRow). find (has_id p.id) rows.ports ≡ Some p) (λ p. is_own_port rows.floatings p.id ≡ true → is_live rows p ≡ false) rows.ports down
      (each-found (λ (p q : PortRow). has_id p.id q) rows.ports (λ p. ident_itself p.id) (λ p. port-ids p.id)))
    where
      down : (p : PortRow) → find (has_id p.id) rows.ports ≡ Some p → is_own_port rows.floatings p.id ≡ true → is_live rows p ≡ false
      down p here own =
          let at = any-at (λ (f : FloatingRow). ident_eq p.id f.own_port) rows.floatings own in
          let f : FloatingRow = at.1 in
          let port = own-port f (good.services.of_floatings.there at.0 f at.2) in
          let same : p ≡ port.0 = some_equal p port.0 (sym here ∙ ap (λ i. find (has_id i) rows.ports) (ident_same p.id f.own_port at.3) ∙ port.1) in
          let unbound_port : not (is_bound p.vif) ≡ true = subst (λ (q : PortRow). not (is_bound q.vif) ≡ true) (sym same) (unbound (port.0).vif (parts f port.0 port.2).1) in
          by_test (is_live rows p) (is_live rows p ≡ false) (λ live. let bound : is_bound p.vif ≡ true = live-bound p live in false_true _ (sym (ap not bound) ∙ unbound_port)) (λ dead. dead)
