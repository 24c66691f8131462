-- Worked frames on single networks: bridges, tags and tunnels, guard and filter, asks.
use Rattle.std.specs.Prelude.{◌≡◌, false, List, [], ◌∷◌, map, Some, None, refl, ◌^◌}
use Rattle.net_addr.specs.Prefixes.{contains}
use Rattle.api_types.specs.Owners.{is_dhcp, is_gateway, is_interface}
use Rattle.api_types.specs.RowLists.{RowLists}
use Rattle.api_types.specs.declared.group.Direction.TheVariants.{Egress, Ingress}
use Rattle.api_types.specs.declared.group.RuleRow.{RuleRow}
use Rattle.api_types.specs.declared.network.Segment.{Segment}
use Rattle.api_types.specs.declared.network.Segment.TheVariants.{Local, Vlan, Vxlan}
use Rattle.plane_types.proofs.WorkedRows.{ends, c1, c2, flow, group, guarded, held, host, id, ip, local_mac, network, no_rows, open_port, physnet1, prefix, rule, subnet, tables_of, tag, tcp, tcp_key}
use Rattle.api_types.specs.Ascending.{ascending, put_in}
use Rattle.plane_types.specs.Fabric.{fabric_fate, steps_for, walk}
use Rattle.plane_types.specs.Filter.{rule_matches, rules_allow}
use Rattle.api_types.specs.Members.{is_member, members, once}
use Rattle.api_types.specs.Holders.{floating_holder}
use Rattle.plane_types.specs.Hosts.{Host}
use Rattle.api_types.specs.Live.{is_live, segment}
use Rattle.plane_types.specs.Meaning.{port_fate, rows_fate}
use Rattle.plane_types.specs.Places.{TunnelIn}
use Rattle.plane_types.specs.TableRows.{bridge_rows, filter_rows, float_rows, inward_rows, lease_rows, neighbour_rows, route_rows, router_rows, set_rows, tap_rows}
use Rattle.plane_types.specs.TableStep.{drops, plain, table_step, tables_allow}
use Rattle.plane_types.specs.Verdicts.{fabric_verdict, fabric_verdicts, of_nobody, rows_verdict, rows_verdicts, without_hosts}
use Rattle.plane_types.specs.declared.event.Event.{Event}
use Rattle.plane_types.specs.declared.event.Event.TheVariants.{FromPort}
use Rattle.plane_types.specs.declared.frame.Frame.{Frame}
use Rattle.plane_types.specs.declared.frame.Frame.TheVariants.{Dhcp, NeighbourAsk}
use Rattle.plane_types.specs.declared.frame.Key.{Key}
use Rattle.plane_types.specs.declared.table.BridgeKey.TheVariants.{Mac as AtMac}
use Rattle.plane_types.specs.declared.table.BridgeTo.TheVariants.{Tunnel as ToHost, Tap as ToTap}
use Rattle.plane_types.specs.declared.verdict.DropCause.TheVariants.{Dead, Egress as EgressFilter, Ingress as IngressFilter, NoHolder, NoLease, Spoof, Unknown, Unsupported}
use Rattle.plane_types.specs.declared.verdict.Outcome.TheVariants.{Delivered, Dropped, Out}
use Rattle.plane_types.specs.declared.verdict.Toward.TheVariants.{Mac as TowardMac}
use Rattle.plane_types.specs.declared.verdict.Verdict.{Verdict as ToldVerdict}

-- Two projects use the same addresses and MACs, each on a network of its own: frames stay on theirs.
abbrev twin : RowLists
twin = record no_rows {
  networks = network (id 6) (Vxlan 1) ∷ network (id 16) (Vxlan 2) ∷ [];
  subnets = subnet (id 7) (id 6) (prefix (ip 10 0 0 0) 24) None false ∷ subnet (id 17) (id 16) (prefix (ip 10 0 0 0) 24) None false ∷ [];
  ports =
      guarded (open_port (id 8) (id 6) c1 (local_mac 5) (held (id 7) (ip 10 0 0 5) ∷ [])) (id 1 ∷ []) ∷
      guarded (open_port (id 9) (id 6) c1 (local_mac 6) (held (id 7) (ip 10 0 0 6) ∷ [])) (id 1 ∷ []) ∷
      guarded (open_port (id 18) (id 16) c1 (local_mac 5) (held (id 17) (ip 10 0 0 5) ∷ [])) (id 11 ∷ []) ∷
      guarded (open_port (id 19) (id 16) c1 (local_mac 6) (held (id 17) (ip 10 0 0 6) ∷ [])) (id 11 ∷ []) ∷ [];
  groups = group (id 1) ∷ group (id 11) ∷ [];
  rules =
      rule (id 2) (id 1) Egress None None None ∷ rule (id 3) (id 1) Ingress None None (Some (id 1)) ∷
      rule (id 12) (id 11) Egress None None None ∷ rule (id 13) (id 11) Ingress None None (Some (id 11)) ∷ [];
}

abbrev twin_hosts : List Host
twin_hosts = host twin c1 (tag (id 6) 1 None ∷ tag (id 16) 2 None ∷ []) ∷ []

abbrev to_six : Frame
to_six = tcp (local_mac 5) (local_mac 6) (ip 10 0 0 5) 40000 (ip 10 0 0 6) 22 64

abbrev six_key : Key
six_key = tcp_key (ip 10 0 0 5) 40000 (ip 10 0 0 6) 22

own_network : rows_verdict twin [] (FromPort (id 8) to_six) ≡ record {
  outcome = Delivered (id 9) to_six;
  path = id 6 ∷ [];
  fresh = map of_nobody (flow (id 8) Egress six_key ∷ flow (id 9) Ingress six_key ∷ []);
  trail = [];
}
unfolding rows_fate port_fate is_live segment rules_allow rule_matches is_member contains is_interface is_gateway
own_network = refl

own_network_by_tables : fabric_verdict twin_hosts (FromPort (id 18) to_six) ≡ record {
  outcome = Delivered (id 19) to_six;
  path = id 16 ∷ [];
  fresh = record { entry = flow (id 18) Egress six_key; host = Some 0 } ∷ record { entry = flow (id 19) Ingress six_key; host = Some 0 } ∷ [];
  trail = record { host = c1; tag = 2 } ∷ [];
}
unfolding fabric_fate walk steps_for tap_rows filter_rows set_rows members once bridge_rows inward_rows neighbour_rows router_rows route_rows float_rows lease_rows ascending put_in is_live segment floating_holder tables_allow contains is_interface is_gateway is_dhcp
own_network_by_tables = refl

-- Groups name groups: a client may reach a server's port 22, and is answered as long as the rule that let it out stands.
abbrev server : List RuleRow
server = rule (id 24) (id 22) Ingress (Some 6) (Some 22) (Some (id 21)) ∷ rule (id 25) (id 22) Egress None None None ∷ []

abbrev pair_with : List RuleRow → RowLists
pair_with rules = record no_rows {
  networks = network (id 6) (Vxlan 1) ∷ [];
  subnets = subnet (id 7) (id 6) (prefix (ip 10 0 0 0) 24) None false ∷ [];
  ports =
      guarded (open_port (id 8) (id 6) c1 (local_mac 5) (held (id 7) (ip 10 0 0 5) ∷ [])) (id 21 ∷ []) ∷
      guarded (open_port (id 9) (id 6) c2 (local_mac 6) (held (id 7) (ip 10 0 0 6) ∷ [])) (id 22 ∷ []) ∷ [];
  groups = group (id 21) ∷ group (id 22) ∷ [];
  rules = rules;
}

abbrev both_rules : RowLists
both_rules = pair_with (rule (id 23) (id 21) Egress (Some 6) (Some 22) (Some (id 22)) ∷ server)

abbrev asks_22 : Event
asks_22 = FromPort (id 8) to_six

abbrev answer : Frame
answer = tcp (local_mac 6) (local_mac 5) (ip 10 0 0 6) 22 (ip 10 0 0 5) 40000 64

abbrev answer_key : Key
answer_key = tcp_key (ip 10 0 0 6) 22 (ip 10 0 0 5) 40000

abbrev answers_22 : Event
answers_22 = FromPort (id 9) answer

abbrev by_both : List ToldVerdict
by_both =
    record { outcome = Delivered (id 9) to_six; path = id 6 ∷ []; fresh = map of_nobody (flow (id 8) Egress six_key ∷ flow (id 9) Ingress six_key ∷ []); trail = [] } ∷
    record { outcome = Delivered (id 8) answer; path = id 6 ∷ []; fresh = map of_nobody (flow (id 9) Egress answer_key ∷ []); trail = [] } ∷ []

answered : rows_verdicts both_rules [] (asks_22 ∷ answers_22 ∷ []) ≡ by_both
unfolding rows_verdicts rows_fate port_fate is_live segment rules_allow rule_matches is_member contains is_interface is_gateway
answered = refl

abbrev pair_hosts : List Host
pair_hosts = host both_rules c1 (tag (id 6) 4 None ∷ []) ∷ host both_rules c2 (tag (id 6) 9 None ∷ []) ∷ []

answered_by_tables : map without_hosts (fabric_verdicts pair_hosts (asks_22 ∷ answers_22 ∷ [])) ≡ by_both
unfolding fabric_verdicts fabric_fate walk steps_for tap_rows filter_rows set_rows members once bridge_rows inward_rows neighbour_rows router_rows route_rows float_rows lease_rows ascending put_in is_live segment floating_holder tables_allow contains is_interface is_gateway is_dhcp
answered_by_tables = refl

-- an equal flow that is there isn't made again
asked_again : rows_verdict both_rules (flow (id 8) Egress six_key ∷ flow (id 9) Ingress six_key ∷ []) asks_22 ≡ record {
  outcome = Delivered (id 9) to_six;
  path = id 6 ∷ [];
  fresh = [];
  trail = [];
}
unfolding rows_fate port_fate is_live segment rules_allow rule_matches is_member contains is_interface is_gateway
asked_again = refl

-- the rule of the client goes, and with it its answers, though its flow is there
answer_refused : rows_verdict (pair_with server) (flow (id 8) Egress six_key ∷ flow (id 9) Ingress six_key ∷ []) answers_22 ≡ record {
  outcome = Dropped IngressFilter;
  path = id 6 ∷ [];
  fresh = map of_nobody (flow (id 9) Egress answer_key ∷ []);
  trail = [];
}
unfolding rows_fate port_fate is_live segment rules_allow rule_matches is_member contains is_interface is_gateway
answer_refused = refl

-- an answer without a flow is refused by a client that lets nothing in
unasked_refused : (rows_verdict both_rules [] answers_22).outcome ≡ Dropped IngressFilter
unfolding rows_fate port_fate is_live segment rules_allow rule_matches is_member contains is_interface is_gateway
unasked_refused = refl

-- what no rule lets out
not_let_out : (rows_verdict both_rules [] (FromPort (id 8) (tcp (local_mac 5) (local_mac 6) (ip 10 0 0 5) 40000 (ip 10 0 0 6) 23 64))).outcome ≡ Dropped EgressFilter
unfolding rows_fate port_fate is_live segment rules_allow rule_matches is_member contains is_interface is_gateway
not_let_out = refl

-- Two hosts with ports without port security: the bridge leads to a tap here and to a tunnel there.
abbrev tunnelled : RowLists
tunnelled = record no_rows {
  networks = network (id 6) (Vxlan 1) ∷ [];
  ports = open_port (id 8) (id 6) c1 (local_mac 7) [] ∷ open_port (id 9) (id 6) c2 (local_mac 8) [] ∷ [];
}

tunnel_rows : bridge_rows tunnelled c1 (tag (id 6) 1 None ∷ []) ≡
    record { tag = 1; key = AtMac (local_mac 7); to = ToTap (id 8) } ∷ record { tag = 1; key = AtMac (local_mac 8); to = ToHost c2 1 } ∷ []
unfolding bridge_rows ascending put_in is_live segment is_interface is_gateway is_dhcp
tunnel_rows = refl

abbrev to_eight : Frame
to_eight = tcp (local_mac 7) (local_mac 8) 0 1 0 2 9

abbrev tunnel_hosts : List Host
tunnel_hosts = host tunnelled c1 (tag (id 6) 1 None ∷ []) ∷ host tunnelled c2 (tag (id 6) 3 None ∷ []) ∷ []

by_tunnel : fabric_verdict tunnel_hosts (FromPort (id 8) to_eight) ≡ record {
  outcome = Delivered (id 9) to_eight;
  path = id 6 ∷ [];
  fresh = [];
  trail = record { host = c1; tag = 1 } ∷ record { host = c2; tag = 3 } ∷ [];
}
unfolding fabric_fate walk steps_for tap_rows filter_rows set_rows members once bridge_rows inward_rows neighbour_rows router_rows route_rows float_rows lease_rows ascending put_in is_live segment floating_holder tables_allow is_interface is_gateway is_dhcp
by_tunnel = refl

by_rows : rows_verdict tunnelled [] (FromPort (id 8) to_eight) ≡ record { outcome = Delivered (id 9) to_eight; path = id 6 ∷ []; fresh = []; trail = [] }
unfolding rows_fate port_fate is_live segment is_interface is_gateway
by_rows = refl

-- A group's members are the addresses and pair prefixes of all ports that name it, each once.
abbrev grouped : RowLists
grouped = record no_rows {
  ports =
      guarded (record (open_port (id 8) (id 6) c1 (local_mac 5) (held (id 7) (ip 10 0 0 5) ∷ [])) { pairs = record { mac = local_mac 5; prefix = prefix (ip 10 0 0 0) 30 } ∷ [] }) (id 1 ∷ []) ∷
      guarded (open_port (id 9) (id 16) c1 (local_mac 5) (held (id 17) (ip 10 0 0 5) ∷ held (id 17) (ip 10 0 0 6) ∷ [])) (id 1 ∷ []) ∷ [];
}

group_members : members grouped (id 1) ≡ prefix (ip 10 0 0 0) 30 ∷ prefix (ip 10 0 0 5) 32 ∷ prefix (ip 10 0 0 6) 32 ∷ []
unfolding members once ascending put_in
group_members = refl

-- What nobody has goes to the wire where a physical network carries the network, else nowhere.
abbrev alone_on : Segment → RowLists
alone_on s = record no_rows { networks = network (id 6) s ∷ []; ports = open_port (id 8) (id 6) c1 (local_mac 7) [] ∷ [] }

abbrev to_99 : Frame
to_99 = tcp (local_mac 7) (local_mac 99) (ip 10 0 0 5) 1 (ip 10 0 0 6) 2 64

on_vlan : rows_verdict (alone_on (Vlan physnet1 100)) [] (FromPort (id 8) to_99) ≡ record { outcome = Out (id 6) (TowardMac (local_mac 99)) to_99; path = id 6 ∷ []; fresh = []; trail = [] }
unfolding rows_fate port_fate is_live segment is_interface is_gateway
on_vlan = refl

on_vxlan : rows_verdict (alone_on (Vxlan 1)) [] (FromPort (id 8) to_99) ≡ record { outcome = Dropped Unknown; path = id 6 ∷ []; fresh = []; trail = [] }
unfolding rows_fate port_fate is_live segment is_interface is_gateway
on_vxlan = refl

-- A local network's frames stay on their host.
on_local : (rows_verdict (record tunnelled { networks = network (id 6) Local ∷ [] }) [] (FromPort (id 8) to_eight)).outcome ≡ Dropped Unknown
unfolding rows_fate port_fate is_live segment is_interface is_gateway
on_local = refl

-- A frame to many is carried nowhere.
to_many : (rows_verdict tunnelled [] (FromPort (id 8) (tcp (local_mac 7) (2 ^ 40) 0 1 0 2 9))).outcome ≡ Dropped Unsupported
unfolding rows_fate port_fate is_live segment is_interface is_gateway
to_many = refl

-- The guard: another's address, and a port that is down.
spoofed : rows_verdict both_rules [] (FromPort (id 8) (tcp (local_mac 5) (local_mac 6) (ip 10 0 0 99) 40000 (ip 10 0 0 6) 22 64)) ≡ record { outcome = Dropped Spoof; path = id 6 ∷ []; fresh = []; trail = [] }
unfolding rows_fate port_fate is_live segment contains is_interface is_gateway
spoofed = refl

down : rows_verdict (record both_rules { ports = record (open_port (id 8) (id 6) c1 (local_mac 5) []) { up = false } ∷ [] }) [] asks_22 ≡ record { outcome = Dropped Dead; path = []; fresh = []; trail = [] }
unfolding rows_fate port_fate is_live segment is_interface is_gateway
down = refl

-- Asks that nobody answers.
abbrev lone : RowLists
lone = record no_rows {
  networks = network (id 6) (Vxlan 1) ∷ [];
  subnets = subnet (id 7) (id 6) (prefix (ip 10 0 0 0) 24) None false ∷ [];
  ports = open_port (id 8) (id 6) c1 (local_mac 5) (held (id 7) (ip 10 0 0 5) ∷ []) ∷ [];
}

no_lease : (rows_verdict lone [] (FromPort (id 8) (Dhcp (local_mac 5) 0))).outcome ≡ Dropped NoLease
unfolding rows_fate port_fate is_live segment is_interface is_gateway is_dhcp
no_lease = refl

no_holder : (rows_verdict lone [] (FromPort (id 8) (NeighbourAsk (local_mac 5) (ends (ip 10 0 0 5) (ip 10 0 0 77))))).outcome ≡ Dropped NoHolder
unfolding rows_fate port_fate is_live segment floating_holder is_interface is_gateway
no_holder = refl

-- A frame that came by a tunnel doesn't leave by one, though the bridge knows its port elsewhere.
came_by_tunnel : table_step (tables_of tunnelled c1 (tag (id 6) 1 None ∷ [])) [] (TunnelIn 1 to_eight) ≡ plain (drops Unknown)
unfolding bridge_rows inward_rows ascending put_in is_live segment is_interface is_gateway is_dhcp
came_by_tunnel = refl
