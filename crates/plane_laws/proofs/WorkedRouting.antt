-- Worked frames through routers: routes, floating addresses, translation, and what ends in a router.
use Rattle.std.specs.Prelude.{◌≡◌, ℕ, Bool, true, false, List, [], ◌∷◌, map, Option, Some, None, codes, refl}
use Rattle.uuid.specs.Text.{by_index}
use Rattle.net_addr.specs.declared.address.Addr.TheVariants.{V4}
use Rattle.net_addr.specs.Prefixes.{contains}
use Rattle.api_types.specs.Ident.{Ident, ident_text, uuid_bytes, uuid_number}
use Rattle.api_types.specs.Owners.{device_is, is_dhcp, is_gateway, is_interface}
use Rattle.api_types.specs.RowLists.{RowLists}
use Rattle.api_types.specs.declared.floating.FloatingRow.{FloatingRow}
use Rattle.api_types.specs.declared.group.Direction.TheVariants.{Egress, Ingress}
use Rattle.api_types.specs.declared.group.RuleRow.{RuleRow}
use Rattle.api_types.specs.declared.network.Segment.TheVariants.{Flat, Vxlan}
use Rattle.api_types.specs.declared.router.RouterRow.{RouterRow}
use Rattle.api_types.specs.declared.subnet.Hop.{Hop}
use Rattle.plane_types.proofs.WorkedRows.{ends, c1, c2, drawn_mac, flow, gateway_on, group, guarded, held, hop, host, id, interface, ip, leasing, local_mac, network, no_rows, open_port, physnet1, prefix, router, rule, subnet, tag, tcp, tcp_key}
use Rattle.api_types.specs.Ascending.{ascending, put_in}
use Rattle.plane_types.specs.Fabric.{fabric_fate, steps_for, walk}
use Rattle.plane_types.specs.Filter.{rule_matches, rules_allow}
use Rattle.api_types.specs.Members.{is_member, members, once}
use Rattle.api_types.specs.Holders.{floating_holder}
use Rattle.plane_types.specs.Hosts.{Host}
use Rattle.api_types.specs.Live.{is_live, segment}
use Rattle.plane_types.specs.Meaning.{port_fate, rows_fate}
use Rattle.api_types.specs.RouterRows.{connected_ways, extra_ways, floats_of, legs_of, router_view, ways_of}
use Rattle.plane_types.specs.Routing.{best_way, least_untaken, new_port, routing_of}
use Rattle.plane_types.specs.TableRows.{bridge_rows, filter_rows, float_rows, inward_rows, lease_rows, neighbour_rows, route_rows, router_rows, set_rows, tap_rows}
use Rattle.plane_types.specs.TableStep.{tables_allow}
use Rattle.plane_types.specs.Verdicts.{fabric_verdict, fabric_verdicts, of_nobody, rows_verdict, rows_verdicts, without_hosts}
use Rattle.plane_types.specs.declared.entry.Entry.{Entry}
use Rattle.plane_types.specs.declared.entry.Entry.TheVariants.{Snat}
use Rattle.plane_types.specs.declared.event.Event.{Event}
use Rattle.plane_types.specs.declared.event.Event.TheVariants.{FromPort, FromWire}
use Rattle.plane_types.specs.declared.frame.Frame.{Frame}
use Rattle.plane_types.specs.declared.frame.Frame.TheVariants.{Dhcp, Ip, NeighbourAsk}
use Rattle.plane_types.specs.declared.frame.Key.{Key}
use Rattle.plane_types.specs.declared.frame.KeyKind.TheVariants.{EchoAsk as AskKey, Proto as ProtoKey}
use Rattle.plane_types.specs.declared.frame.KeyPart.TheVariants.{EchoAsk, EchoReply, Proto}
use Rattle.api_types.specs.declared.wire.Wire.{Wire}
use Rattle.plane_types.specs.declared.verdict.AskAnswer.TheVariants.{Arp as ArpAnswer, Lease as LeaseAnswer}
use Rattle.plane_types.specs.declared.verdict.DropCause.TheVariants.{Expired, NoHolder, NoRoute, RouterDown, TranslationFull}
use Rattle.plane_types.specs.declared.verdict.Made.{Made}
use Rattle.plane_types.specs.declared.verdict.Outcome.{Outcome}
use Rattle.plane_types.specs.declared.verdict.Outcome.TheVariants.{Absorbed, Answered, Delivered, Dropped, Out}
use Rattle.plane_types.specs.declared.verdict.Toward.TheVariants.{Address as TowardAddress}
use Rattle.plane_types.specs.declared.verdict.Verdict.{Verdict as ToldVerdict}

abbrev router_text : List ℕ
router_text = codes "00000001-0000-8000-8000-000000000020"

-- Two networks on one router, with a port on each of two hosts.
abbrev joined : RowLists
joined = record no_rows {
  networks = network (id 6) (Vxlan 1) ∷ network (id 16) (Vxlan 2) ∷ [];
  subnets = subnet (id 7) (id 6) (prefix (ip 10 0 0 0) 24) (Some (ip 10 0 0 1)) false ∷ subnet (id 17) (id 16) (prefix (ip 10 1 0 0) 24) (Some (ip 10 1 0 1)) false ∷ [];
  ports =
      interface (id 33) (id 6) c1 (drawn_mac 0) (held (id 7) (ip 10 0 0 1) ∷ []) router_text ∷
      interface (id 34) (id 16) c1 (drawn_mac 1) (held (id 17) (ip 10 1 0 1) ∷ []) router_text ∷
      guarded (open_port (id 8) (id 6) c1 (local_mac 5) (held (id 7) (ip 10 0 0 5) ∷ [])) (id 1 ∷ []) ∷
      guarded (open_port (id 18) (id 16) c2 (local_mac 6) (held (id 17) (ip 10 1 0 5) ∷ [])) (id 1 ∷ []) ∷ [];
  groups = group (id 1) ∷ [];
  rules = rule (id 2) (id 1) Egress None None None ∷ rule (id 3) (id 1) Ingress None None (Some (id 1)) ∷ [];
  routers = router (id 32) None [] ∷ [];
}

abbrev echo : ℕ → Frame
echo ttl = Ip (local_mac 5) (drawn_mac 0) (ends (ip 10 0 0 5) (ip 10 1 0 5)) ttl (EchoAsk 7)

abbrev echo_key : Key
echo_key = record { kind = AskKey; ends = ends (ip 10 0 0 5) (ip 10 1 0 5); sport = 7; dport = 0 }

abbrev routed_echo : ToldVerdict
routed_echo = record {
  outcome = Delivered (id 18) (Ip (drawn_mac 1) (local_mac 6) (ends (ip 10 0 0 5) (ip 10 1 0 5)) 63 (EchoAsk 7));
  path = id 6 ∷ id 32 ∷ id 16 ∷ [];
  fresh = map of_nobody (flow (id 8) Egress echo_key ∷ flow (id 18) Ingress echo_key ∷ []);
  trail = [];
}

routed_between : rows_verdict joined [] (FromPort (id 8) (echo 64)) ≡ routed_echo
unfolding rows_fate port_fate is_live segment rules_allow rule_matches is_member contains is_interface is_gateway device_is ident_text uuid_bytes uuid_number by_index routing_of router_view legs_of ways_of connected_ways extra_ways floats_of best_way ascending put_in floating_holder
routed_between = refl

abbrev joined_hosts : List Host
joined_hosts = host joined c1 (tag (id 6) 1 None ∷ tag (id 16) 2 None ∷ []) ∷ host joined c2 (tag (id 16) 1 None ∷ []) ∷ []

routed_between_by_tables : without_hosts (fabric_verdict joined_hosts (FromPort (id 8) (echo 64))) ≡ routed_echo
unfolding fabric_fate walk steps_for tap_rows filter_rows set_rows members once bridge_rows inward_rows neighbour_rows router_rows route_rows float_rows lease_rows ascending put_in is_live segment floating_holder tables_allow contains is_interface is_gateway is_dhcp device_is ident_text uuid_bytes uuid_number by_index routing_of legs_of ways_of connected_ways extra_ways floats_of best_way
routed_between_by_tables = refl

-- With one step to live nothing passes a router.
abbrev echo_alone : List Made
echo_alone = map of_nobody (flow (id 8) Egress echo_key ∷ [])

expired : rows_verdict joined [] (FromPort (id 8) (echo 1)) ≡ record { outcome = Dropped Expired; path = id 6 ∷ []; fresh = echo_alone; trail = [] }
unfolding rows_fate port_fate is_live segment rules_allow rule_matches is_member contains is_interface is_gateway device_is ident_text uuid_bytes uuid_number by_index routing_of router_view legs_of ways_of connected_ways extra_ways floats_of best_way ascending put_in floating_holder
expired = refl

-- A router that is down passes nothing.
abbrev joined_by : RouterRow → RowLists
joined_by r = record joined { routers = r ∷ [] }

router_down : rows_verdict (joined_by (record (router (id 32) None []) { up = false })) [] (FromPort (id 8) (echo 64)) ≡ record { outcome = Dropped RouterDown; path = id 6 ∷ []; fresh = echo_alone; trail = [] }
unfolding rows_fate port_fate is_live segment rules_allow rule_matches is_member contains is_interface is_gateway device_is ident_text uuid_bytes uuid_number by_index routing_of router_view legs_of ways_of connected_ways extra_ways floats_of best_way ascending put_in floating_holder
router_down = refl

-- A router's own address ends in it.
absorbed : rows_verdict joined [] (FromPort (id 8) (Ip (local_mac 5) (drawn_mac 0) (ends (ip 10 0 0 5) (ip 10 1 0 1)) 64 (EchoAsk 7))) ≡ record {
  outcome = Absorbed (id 32);
  path = id 6 ∷ [];
  fresh = map of_nobody (flow (id 8) Egress (record { kind = AskKey; ends = ends (ip 10 0 0 5) (ip 10 1 0 1); sport = 7; dport = 0 }) ∷ []);
  trail = [];
}
unfolding rows_fate port_fate is_live segment rules_allow rule_matches is_member contains is_interface is_gateway device_is ident_text uuid_bytes uuid_number by_index routing_of router_view legs_of ways_of connected_ways extra_ways floats_of best_way ascending put_in floating_holder
absorbed = refl

-- The outcome of a packet from 10.0.0.5 to an address elsewhere, by a router with these routes.
abbrev sent_elsewhere : List Hop → ℕ → Outcome
sent_elsewhere routes to = (rows_verdict (joined_by (router (id 32) None routes)) [] (FromPort (id 8) (Ip (local_mac 5) (drawn_mac 0) (ends (ip 10 0 0 5) to) 64 (Proto 47)))).outcome

no_route : sent_elsewhere [] (ip 192 0 2 9) ≡ Dropped NoRoute
unfolding rows_fate port_fate is_live segment rules_allow rule_matches is_member contains is_interface is_gateway device_is ident_text uuid_bytes uuid_number by_index routing_of router_view legs_of ways_of connected_ways extra_ways floats_of best_way ascending put_in floating_holder
no_route = refl

-- By the longest prefix, though a shorter one comes first: back into the first network, where nobody has 10.0.0.9, not to 10.1.0.5.
longest_prefix : sent_elsewhere (hop (prefix (ip 192 0 2 0) 24) (ip 10 1 0 5) ∷ hop (prefix (ip 192 0 2 8) 29) (ip 10 0 0 9) ∷ []) (ip 192 0 2 9) ≡ Dropped NoHolder
unfolding rows_fate port_fate is_live segment rules_allow rule_matches is_member contains is_interface is_gateway device_is ident_text uuid_bytes uuid_number by_index routing_of router_view legs_of ways_of connected_ways extra_ways floats_of best_way ascending put_in floating_holder
longest_prefix = refl

-- The next hop gets the packet, though it isn't its destination; of equal routes the first is taken.
by_next_hop : sent_elsewhere (hop (prefix (ip 192 0 2 0) 24) (ip 10 1 0 5) ∷ hop (prefix (ip 192 0 2 0) 24) (ip 10 0 0 9) ∷ []) (ip 192 0 2 9) ≡ Delivered (id 18) (Ip (drawn_mac 1) (local_mac 6) (ends (ip 10 0 0 5) (ip 192 0 2 9)) 63 (Proto 47))
unfolding rows_fate port_fate is_live segment rules_allow rule_matches is_member contains is_interface is_gateway device_is ident_text uuid_bytes uuid_number by_index routing_of router_view legs_of ways_of connected_ways extra_ways floats_of best_way ascending put_in floating_holder
by_next_hop = refl

-- An office: a network behind a router with its gateway on a flat network, and a floating address or none.
abbrev outside_is : Bool → List FloatingRow → List RuleRow → RowLists
outside_is snat floatings more = record no_rows {
  networks = network (id 30) (Flat physnet1) ∷ network (id 6) (Vxlan 1) ∷ [];
  subnets = subnet (id 31) (id 30) (prefix (ip 203 0 113 0) 24) (Some (ip 203 0 113 1)) false ∷ subnet (id 7) (id 6) (prefix (ip 10 0 0 0) 24) (Some (ip 10 0 0 1)) true ∷ [];
  ports =
      leasing (id 50) (id 6) c1 (drawn_mac 2) (held (id 7) (ip 10 0 0 2) ∷ []) ∷
      gateway_on (id 33) (id 30) c1 (drawn_mac 0) (held (id 31) (ip 203 0 113 2) ∷ []) router_text ∷
      interface (id 34) (id 6) c1 (drawn_mac 1) (held (id 7) (ip 10 0 0 1) ∷ []) router_text ∷
      guarded (open_port (id 8) (id 6) c1 (local_mac 5) (held (id 7) (ip 10 0 0 5) ∷ [])) (id 1 ∷ []) ∷
      guarded (open_port (id 9) (id 6) c2 (local_mac 6) (held (id 7) (ip 10 0 0 6) ∷ [])) (id 1 ∷ []) ∷ [];
  groups = group (id 1) ∷ [];
  rules = rule (id 2) (id 1) Egress None None None ∷ rule (id 3) (id 1) Ingress None None (Some (id 1)) ∷ more;
  routers = router (id 32) (Some (record { network = id 30; port = id 33; snat = snat })) [] ∷ [];
  floatings = floatings;
}

abbrev office : RowLists
office = outside_is true [] []

abbrev far : ℕ
far = ip 198 51 100 9

abbrev outer : ℕ
outer = ip 203 0 113 2

abbrev leaves : ℕ → ℕ → ℕ → Event
leaves port mac from = FromPort (id port) (tcp (local_mac mac) (drawn_mac 1) from 40000 far 80 64)

abbrev returns_to : ℕ → Event
returns_to dport = FromWire physnet1 None (tcp (local_mac 77) (drawn_mac 0) far 80 outer dport 64)

abbrev left_as : ℕ → Outcome
left_as sport = Out (id 30) (TowardAddress (V4 (ip 203 0 113 1))) (tcp (drawn_mac 0) 0 outer sport far 80 63)

abbrev returned_to : ℕ → ℕ → ℕ → Outcome
returned_to port mac to = Delivered (id port) (tcp (drawn_mac 1) (local_mac mac) far 80 to 40000 63)

abbrev key_from : ℕ → Key
key_from from = tcp_key from 40000 far 80

abbrev goes_out : List Ident
goes_out = id 6 ∷ id 32 ∷ id 30 ∷ []

abbrev comes_in : List Ident
comes_in = id 30 ∷ id 32 ∷ id 6 ∷ []

abbrev translated : Ident → ℕ → ℕ → List Made
translated port from sport = map of_nobody (flow port Egress (key_from from) ∷ Snat (id 32) (key_from from) outer sport ∷ [])

-- Out with the same port where it is free, else with the least free one from 1,024 on; and back to whom each was given.
abbrev office_events : List Event
office_events = leaves 8 5 (ip 10 0 0 5) ∷ leaves 9 6 (ip 10 0 0 6) ∷ returns_to 1024 ∷ returns_to 40000 ∷ leaves 8 5 (ip 10 0 0 5) ∷ []

abbrev office_verdicts : List ToldVerdict
office_verdicts =
    record { outcome = left_as 40000; path = goes_out; fresh = translated (id 8) (ip 10 0 0 5) 40000; trail = [] } ∷
    record { outcome = left_as 1024; path = goes_out; fresh = translated (id 9) (ip 10 0 0 6) 1024; trail = [] } ∷
    record { outcome = returned_to 9 6 (ip 10 0 0 6); path = comes_in; fresh = []; trail = [] } ∷
    record { outcome = returned_to 8 5 (ip 10 0 0 5); path = comes_in; fresh = []; trail = [] } ∷
    record { outcome = left_as 40000; path = goes_out; fresh = []; trail = [] } ∷ []

translated_out_and_back : rows_verdicts office [] office_events ≡ office_verdicts
unfolding rows_verdicts rows_fate port_fate is_live segment rules_allow rule_matches is_member contains is_interface is_gateway device_is ident_text uuid_bytes uuid_number by_index routing_of router_view legs_of ways_of connected_ways extra_ways floats_of best_way new_port least_untaken ascending put_in floating_holder
translated_out_and_back = refl

abbrev office_wire : Option Wire
office_wire = Some (record { physical = physnet1; tag = None })

abbrev office_hosts : List Host
office_hosts = host office c1 (tag (id 30) 1 office_wire ∷ tag (id 6) 2 None ∷ []) ∷ host office c2 (tag (id 6) 1 None ∷ []) ∷ []

translated_by_tables : map without_hosts (fabric_verdicts office_hosts office_events) ≡ office_verdicts
unfolding fabric_verdicts fabric_fate walk steps_for tap_rows filter_rows set_rows members once bridge_rows inward_rows neighbour_rows router_rows route_rows float_rows lease_rows ascending put_in is_live segment floating_holder tables_allow contains is_interface is_gateway is_dhcp device_is ident_text uuid_bytes uuid_number by_index routing_of legs_of ways_of connected_ways extra_ways floats_of best_way new_port least_untaken
translated_by_tables = refl

-- Where translation is off, an entry isn't valid, and what it would answer ends in the router.
abbrev two_translations : List Entry
two_translations = Snat (id 32) (key_from (ip 10 0 0 5)) outer 40000 ∷ Snat (id 32) (key_from (ip 10 0 0 6)) outer 1024 ∷ []

not_valid : rows_verdict (outside_is false [] []) two_translations (returns_to 1024) ≡ record { outcome = Absorbed (id 32); path = id 30 ∷ []; fresh = []; trail = [] }
unfolding rows_fate port_fate is_live segment rules_allow rule_matches is_member contains is_interface is_gateway device_is ident_text uuid_bytes uuid_number by_index routing_of router_view legs_of ways_of connected_ways extra_ways floats_of best_way new_port least_untaken ascending put_in floating_holder
not_valid = refl

-- A protocol without ports has no second choice.
abbrev proto_key : ℕ → Key
proto_key from = record { kind = ProtoKey 47; ends = ends (from) (far); sport = 0; dport = 0 }

translation_full : (rows_verdict office (Snat (id 32) (proto_key (ip 10 0 0 5)) outer 0 ∷ []) (FromPort (id 9) (Ip (local_mac 6) (drawn_mac 1) (ends (ip 10 0 0 6) far) 64 (Proto 47)))).outcome ≡ Dropped TranslationFull
unfolding rows_fate port_fate is_live segment rules_allow rule_matches is_member contains is_interface is_gateway device_is ident_text uuid_bytes uuid_number by_index routing_of router_view legs_of ways_of connected_ways extra_ways floats_of best_way new_port least_untaken ascending put_in floating_holder
translation_full = refl

-- A floating address of 10.0.0.6, sought from within: the asker's source is translated too, so that the answer comes back by the
-- router.
abbrev floating_at : ℕ → ℕ → FloatingRow
floating_at port fixed = record {
  id = id 40;
  project = codes "a";
  description = [];
  network = id 30;
  own_port = id 41;
  address = ip 203 0 113 3;
  target = Some (record { port = id port; fixed = fixed; router = id 32 });
}

abbrev served : RowLists
served = outside_is true (floating_at 9 (ip 10 0 0 6) ∷ []) (rule (id 4) (id 1) Ingress (Some 6) (Some 80) None ∷ [])

abbrev floating : ℕ
floating = ip 203 0 113 3

abbrev inner_key : Key
inner_key = tcp_key (ip 10 0 0 5) 40000 (ip 10 0 0 6) 80

abbrev hairpin : List Event
hairpin =
    FromPort (id 8) (tcp (local_mac 5) (drawn_mac 1) (ip 10 0 0 5) 40000 floating 80 64) ∷
    FromPort (id 9) (tcp (local_mac 6) (drawn_mac 1) (ip 10 0 0 6) 80 outer 40000 64) ∷ []

abbrev hairpin_verdicts : List ToldVerdict
hairpin_verdicts =
    record {
      outcome = Delivered (id 9) (tcp (drawn_mac 1) (local_mac 6) outer 40000 (ip 10 0 0 6) 80 63);
      path = id 6 ∷ id 32 ∷ id 6 ∷ [];
      fresh = map of_nobody (flow (id 8) Egress (tcp_key (ip 10 0 0 5) 40000 floating 80) ∷ Snat (id 32) inner_key outer 40000 ∷ flow (id 9) Ingress (tcp_key outer 40000 (ip 10 0 0 6) 80) ∷ []);
      trail = [];
    } ∷
    record {
      outcome = Delivered (id 8) (tcp (drawn_mac 1) (local_mac 5) floating 80 (ip 10 0 0 5) 40000 63);
      path = id 6 ∷ id 32 ∷ id 6 ∷ [];
      fresh = map of_nobody (flow (id 9) Egress (tcp_key (ip 10 0 0 6) 80 outer 40000) ∷ []);
      trail = [];
    } ∷ []

sought_from_within : rows_verdicts served [] hairpin ≡ hairpin_verdicts
unfolding rows_verdicts rows_fate port_fate is_live segment rules_allow rule_matches is_member contains is_interface is_gateway device_is ident_text uuid_bytes uuid_number by_index routing_of router_view legs_of ways_of connected_ways extra_ways floats_of best_way new_port least_untaken ascending put_in floating_holder
sought_from_within = refl

abbrev served_hosts : List Host
served_hosts = host served c1 (tag (id 30) 1 office_wire ∷ tag (id 6) 2 None ∷ []) ∷ host served c2 (tag (id 6) 1 None ∷ []) ∷ []

sought_by_tables : map without_hosts (fabric_verdicts served_hosts hairpin) ≡ hairpin_verdicts
unfolding fabric_verdicts fabric_fate walk steps_for tap_rows filter_rows set_rows members once bridge_rows inward_rows neighbour_rows router_rows route_rows float_rows lease_rows ascending put_in is_live segment floating_holder tables_allow contains is_interface is_gateway is_dhcp device_is ident_text uuid_bytes uuid_number by_index routing_of legs_of ways_of connected_ways extra_ways floats_of best_way new_port least_untaken
sought_by_tables = refl

-- An ordinary day: a lease, an ask for the router's address, an echo and its answer, a call from outside to a floating address
-- and its answer.
abbrev day : RowLists
day = outside_is true (floating_at 8 (ip 10 0 0 5) ∷ []) (rule (id 4) (id 1) Ingress (Some 6) (Some 22) None ∷ rule (id 5) (id 1) Ingress (Some 1) None None ∷ [])

abbrev day_events : List Event
day_events =
    FromPort (id 9) (Dhcp (local_mac 6) 0) ∷
    FromPort (id 9) (NeighbourAsk (local_mac 6) (ends (ip 10 0 0 6) (ip 10 0 0 1))) ∷
    FromPort (id 8) (Ip (local_mac 5) (local_mac 6) (ends (ip 10 0 0 5) (ip 10 0 0 6)) 64 (EchoAsk 3)) ∷
    FromPort (id 9) (Ip (local_mac 6) (local_mac 5) (ends (ip 10 0 0 6) (ip 10 0 0 5)) 64 (EchoReply 3)) ∷
    FromWire physnet1 None (tcp (local_mac 77) (drawn_mac 0) far 50000 floating 22 64) ∷
    FromPort (id 8) (tcp (local_mac 5) (drawn_mac 1) (ip 10 0 0 5) 22 far 50000 64) ∷
    FromWire physnet1 None (NeighbourAsk (local_mac 77) (ends (ip 203 0 113 1) floating)) ∷ []

abbrev day_outcomes : List Outcome
day_outcomes =
    Answered (LeaseAnswer (record { address = V4 (ip 10 0 0 6); length = 24; gateway = Some (V4 (ip 10 0 0 1)); name_servers = []; host_routes = [] })) ∷
    Answered (ArpAnswer (V4 (ip 10 0 0 1)) (drawn_mac 1)) ∷
    Delivered (id 9) (Ip (local_mac 5) (local_mac 6) (ends (ip 10 0 0 5) (ip 10 0 0 6)) 64 (EchoAsk 3)) ∷
    Delivered (id 8) (Ip (local_mac 6) (local_mac 5) (ends (ip 10 0 0 6) (ip 10 0 0 5)) 64 (EchoReply 3)) ∷
    Delivered (id 8) (tcp (drawn_mac 1) (local_mac 5) far 50000 (ip 10 0 0 5) 22 63) ∷
    Out (id 30) (TowardAddress (V4 (ip 203 0 113 1))) (tcp (drawn_mac 0) 0 floating 22 far 50000 63) ∷
    Answered (ArpAnswer (V4 floating) (drawn_mac 0)) ∷ []

abbrev outcome_of : ToldVerdict → Outcome
outcome_of v = v.outcome

ordinary_day : map outcome_of (rows_verdicts day [] day_events) ≡ day_outcomes
unfolding rows_verdicts rows_fate port_fate is_live segment rules_allow rule_matches is_member contains is_interface is_gateway is_dhcp device_is ident_text uuid_bytes uuid_number by_index routing_of router_view legs_of ways_of connected_ways extra_ways floats_of best_way new_port least_untaken ascending put_in floating_holder
ordinary_day = refl

abbrev day_hosts : List Host
day_hosts = host day c1 (tag (id 30) 1 office_wire ∷ tag (id 6) 2 None ∷ []) ∷ host day c2 (tag (id 6) 1 None ∷ []) ∷ []

ordinary_day_by_tables : map outcome_of (fabric_verdicts day_hosts day_events) ≡ day_outcomes
unfolding fabric_verdicts fabric_fate walk steps_for tap_rows filter_rows set_rows members once bridge_rows inward_rows neighbour_rows router_rows route_rows float_rows lease_rows ascending put_in is_live segment floating_holder tables_allow contains is_interface is_gateway is_dhcp device_is ident_text uuid_bytes uuid_number by_index routing_of legs_of ways_of connected_ways extra_ways floats_of best_way new_port least_untaken
ordinary_day_by_tables = refl
