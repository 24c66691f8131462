-- The steps of a router's rule, one by one.
use Rattle.std.proofs.Common.{◌≡◌, ◌∙◌, ◌-◌, ◌<◌, ◌≤◌, ℕ, List, [], true, false, Option, Some, ap, sym, arith}
use Rattle.std.specs.Prelude.{find, nat_le, not, if◌then◌else◌}
use Rattle.std.proofs.lemmas.Bool.Decides.{nat_tests}
use Rattle.net_addr.specs.declared.address.Addr.{Addr}
use Rattle.plane_types.specs.Ends.{destination}
use Rattle.plane_types.specs.Keys.{key_eq}
use Rattle.plane_types.specs.Packets.{Packet, key_of}
use Rattle.plane_types.specs.Routing.{Changed, Destined, RouteEnds, Routed, Sourced, Use, best_way, new_destination, is_own, routing_of, routed_out, routed_to, routed_way, sending_of, new_source, sourced_at, sourced_gateway, sourced_use, uses_by}
use Rattle.api_types.specs.RouterViews.{Leg, RouterView}
use Rattle.plane_types.specs.declared.entry.Entry.{Entry}
use Rattle.plane_types.specs.declared.frame.Key.{Key}
use Rattle.plane_types.specs.declared.verdict.DropCause.TheVariants.{Expired, RouterDown}
use Rattle.plane_types.specs.declared.verdict.Outcome.TheVariants.{Absorbed, Dropped}

-- the source with the port of the entry that has the same key
pub gateway_kept : (v : RouterView) (uses : List Use) (p : Packet) (g : Option ℕ) (outer : ℕ) (key : Key) (found : Option Use) (u : Use) (q : Packet) → g ≡ Some outer → key ≡ key_of p → found ≡ find (λ (x : Use). key_eq x.key key) uses → found ≡ Some u → q ≡ sourced_at p outer u.port → Some (record { packet = q; made = [] }) ≡ sourced_gateway v uses p g
gateway_kept v uses p g outer key found u q g_is key_is found_is some q_is =
    ap (λ (x : Packet). Some (record { packet = x; made = [] })) q_is
    ∙ sym (ap (sourced_gateway v uses p) g_is ∙ ap (sourced_use v.id uses p outer) (ap (λ k. find (λ (x : Use). key_eq x.key k) uses) (sym key_is) ∙ sym found_is ∙ some))

-- by the port that was found
pub out_found : (v : RouterView) (uses : List Use) (way_in : Leg) (by : Changed) (p : Packet) (hop way_hop : Addr) (found : Option Leg) (out : Leg) (s : Option Sourced) (x : Routed) → found ≡ Some out → hop ≡ way_hop → s ≡ new_source v uses way_in out by p → x ≡ sending_of out hop s → x ≡ routed_out v uses way_in by p way_hop found
out_found v uses way_in by p hop way_hop found out s x found_is hop_is s_is x_is =
    x_is ∙ ap (λ h. sending_of out h s) hop_is ∙ ap (sending_of out way_hop) s_is ∙ sym (ap (routed_out v uses way_in by p way_hop) found_is)

-- what is the router's own ends there
pub ends_own : (v : RouterView) (uses : List Use) (way_in : Leg) (d : Destined) → is_own v (destination d.packet.ends) ≡ true → RouteEnds (Absorbed v.id) ≡ routed_to v uses way_in d
ends_own v uses way_in d own = sym (ap (λ b. if b then RouteEnds (Absorbed v.id) else (if nat_le d.packet.ttl 1 then RouteEnds (Dropped Expired) else routed_way v uses way_in d.by (record (d.packet) { ttl = d.packet.ttl - 1 }) (best_way (destination d.packet.ends) v.ways))) own)

-- so does what has lived
pub ends_expired : (v : RouterView) (uses : List Use) (way_in : Leg) (d : Destined) → is_own v (destination d.packet.ends) ≡ false → d.packet.ttl ≤ 1 → RouteEnds (Dropped Expired) ≡ routed_to v uses way_in d
ends_expired v uses way_in d own lived =
    let at_end : nat_le d.packet.ttl 1 ≡ true = grind (arith, nat_tests) in
    sym (ap (λ b. if b then RouteEnds (Absorbed v.id) else (if nat_le d.packet.ttl 1 then RouteEnds (Dropped Expired) else routed_way v uses way_in d.by (record (d.packet) { ttl = d.packet.ttl - 1 }) (best_way (destination d.packet.ends) v.ways))) own ∙ ap (λ b. if b then RouteEnds (Dropped Expired) else routed_way v uses way_in d.by (record (d.packet) { ttl = d.packet.ttl - 1 }) (best_way (destination d.packet.ends) v.ways)) at_end)

-- and all else goes on
pub goes_on : (v : RouterView) (uses : List Use) (way_in : Leg) (d lower : Destined) → is_own v (destination d.packet.ends) ≡ false → 1 < d.packet.ttl → lower ≡ record { packet = record (d.packet) { ttl = d.packet.ttl - 1 }; by = d.by } → routed_way v uses way_in lower.by lower.packet (best_way (destination lower.packet.ends) v.ways) ≡ routed_to v uses way_in d
goes_on v uses way_in d lower own lives lower_is =
    let before_end : nat_le d.packet.ttl 1 ≡ false = grind (arith, nat_tests) in
    ap (λ (x : Destined). routed_way v uses way_in x.by x.packet (best_way (destination x.packet.ends) v.ways)) lower_is
    ∙ sym (ap (λ b. if b then RouteEnds (Absorbed v.id) else (if nat_le d.packet.ttl 1 then RouteEnds (Dropped Expired) else routed_way v uses way_in d.by (record (d.packet) { ttl = d.packet.ttl - 1 }) (best_way (destination d.packet.ends) v.ways))) own ∙ ap (λ b. if b then RouteEnds (Dropped Expired) else routed_way v uses way_in d.by (record (d.packet) { ttl = d.packet.ttl - 1 }) (best_way (destination d.packet.ends) v.ways)) before_end)

-- the whole rule of a router that is up
pub whole_route : (v : RouterView) (entries : List Entry) (way_in : Leg) (p : Packet) (uses : List Use) (d : Destined) → v.up ≡ true → uses ≡ uses_by v.snat v.gateway v.id entries → d ≡ new_destination v uses p → routed_to v uses way_in d ≡ routing_of v entries way_in p
unfolding routing_of
whole_route v entries way_in p uses d up uses_is d_is =
    ap (routed_to v uses way_in) d_is
    ∙ ap (λ us. routed_to v us way_in (new_destination v us p)) uses_is
    ∙ sym (ap (λ b. if not b then RouteEnds (Dropped RouterDown) else routed_to v (uses_by v.snat v.gateway v.id entries) way_in (new_destination v (uses_by v.snat v.gateway v.id entries) p)) up)
