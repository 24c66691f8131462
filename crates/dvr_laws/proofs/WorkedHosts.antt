-- Worked frames through copies of routers.
use Rattle.api_types.specs.Ascending.{ascending, put_in}
use Rattle.api_types.specs.Holders.{floating_holder}
use Rattle.api_types.specs.Ident.{ident_text, uuid_bytes, uuid_number}
use Rattle.api_types.specs.Live.{is_live, segment}
use Rattle.api_types.specs.Members.{is_member, members, once}
use Rattle.api_types.specs.Owners.{device_is, is_dhcp, is_gateway, is_interface}
use Rattle.api_types.specs.RouterRows.{connected_ways, extra_ways, floats_of, legs_of, router_view, ways_of}
use Rattle.api_types.specs.RowLists.{RowLists}
use Rattle.api_types.specs.declared.network.Segment.TheVariants.{Flat, Vxlan}
use Rattle.dvr_types.specs.Copies.{copies_for, floats_of_copies, near_rows, router_copies, routes_of_copies}
use Rattle.dvr_types.specs.CopySteps.{handled_here}
use Rattle.dvr_types.specs.DvrFabric.{DvrHost, dvr_fate, dvr_walk}
use Rattle.dvr_types.specs.DvrVerdicts.{DvrMeaning, dvr_meaning, dvr_meant}
use Rattle.dvr_types.specs.Handlers.{handlers, hosts_from}
use Rattle.dvr_types.specs.Near.{is_near}
use Rattle.net_addr.specs.Prefixes.{contains}
use Rattle.net_addr.specs.declared.address.Addr.TheVariants.{V4}
use Rattle.plane_types.proofs.WorkedRows.{c1, c2, drawn_mac, ends, gateway_on, held, host, id, interface, ip, local_mac, network, no_rows, open_port, physnet1, prefix, router, subnet, tag, tcp, tcp_key}
use Rattle.plane_types.specs.Fabric.{steps_for}
use Rattle.plane_types.specs.Filter.{rule_matches, rules_allow}
use Rattle.plane_types.specs.Meaning.{port_fate, rows_fate}
use Rattle.plane_types.specs.Routing.{best_way, new_port, routing_of}
use Rattle.plane_types.specs.TableRows.{bridge_rows, filter_rows, float_rows, inward_rows, lease_rows, neighbour_rows, route_rows, router_rows, set_rows, tap_rows}
use Rattle.plane_types.specs.TableStep.{tables_allow}
use Rattle.plane_types.specs.declared.entry.Entry.TheVariants.{Snat}
use Rattle.plane_types.specs.declared.event.Event.TheVariants.{FromPort}
use Rattle.plane_types.specs.declared.frame.Frame.{Frame}
use Rattle.plane_types.specs.declared.frame.Frame.TheVariants.{Ip}
use Rattle.plane_types.specs.declared.frame.KeyPart.TheVariants.{EchoAsk}
use Rattle.plane_types.specs.declared.table.TagRow.{TagRow}
use Rattle.plane_types.specs.declared.verdict.Outcome.TheVariants.{Delivered, Out}
use Rattle.plane_types.specs.declared.verdict.Toward.TheVariants.{Address as TowardAddress}
use Rattle.std.proofs.Common.{List, None, Some, [], false, true, ℕ, ◌∷◌, ◌≡◌}
use Rattle.std.specs.Prelude.{codes, refl}
use Rattle.uuid.specs.Text.{by_index}

abbrev router_text : List ℕ
router_text = codes "00000001-0000-8000-8000-000000000020"

-- Two networks on one router of c1, with both ports on c2.
abbrev joined : RowLists
joined = record no_rows {
  networks = network (id 6) (Vxlan 1) ∷ network (id 16) (Vxlan 2) ∷ [];
  subnets = subnet (id 7) (id 6) (prefix (ip 10 0 0 0) 24) (Some (ip 10 0 0 1)) false ∷ subnet (id 17) (id 16) (prefix (ip 10 1 0 0) 24) (Some (ip 10 1 0 1)) false ∷ [];
  ports =
      interface (id 33) (id 6) c1 (drawn_mac 0) (held (id 7) (ip 10 0 0 1) ∷ []) router_text ∷
      interface (id 34) (id 16) c1 (drawn_mac 1) (held (id 17) (ip 10 1 0 1) ∷ []) router_text ∷
      open_port (id 8) (id 6) c2 (local_mac 5) (held (id 7) (ip 10 0 0 5) ∷ []) ∷
      open_port (id 18) (id 16) c2 (local_mac 6) (held (id 17) (ip 10 1 0 5) ∷ []) ∷ [];
  routers = router (id 32) None [] ∷ [];
}

abbrev echo : ℕ → Frame
echo ttl = Ip (local_mac 5) (drawn_mac 0) (ends (ip 10 0 0 5) (ip 10 1 0 5)) ttl (EchoAsk 7)

abbrev wide : RowLists → List ℕ → List TagRow → DvrHost
wide rows name tags = record { host = host rows name tags; copies = copies_for rows name }

abbrev joined_hosts : List DvrHost
joined_hosts = wide joined c1 (tag (id 6) 1 None ∷ tag (id 16) 2 None ∷ []) ∷ wide joined c2 (tag (id 6) 7 None ∷ tag (id 16) 3 None ∷ []) ∷ []

abbrev echo_told : DvrMeaning
echo_told = record {
  fate = record { outcome = Delivered (id 18) (Ip (drawn_mac 1) (local_mac 6) (ends (ip 10 0 0 5) (ip 10 1 0 5)) 63 (EchoAsk 7)); path = id 6 ∷ id 32 ∷ id 16 ∷ []; fresh = [] };
  hosts = c2 ∷ [];
}

-- the router's host sees nothing of it
same_host : dvr_meaning joined [] (c1 ∷ c2 ∷ []) (FromPort (id 8) (echo 64)) ≡ echo_told
unfolding rows_fate port_fate is_live segment rules_allow rule_matches is_member contains is_interface is_gateway device_is ident_text uuid_bytes uuid_number by_index routing_of router_view legs_of ways_of connected_ways extra_ways floats_of best_way ascending put_in floating_holder handlers hosts_from is_near
same_host = refl

same_host_by_copies : dvr_meant (dvr_fate joined_hosts (FromPort (id 8) (echo 64))) ≡ echo_told
unfolding dvr_fate dvr_walk handled_here router_copies routes_of_copies floats_of_copies near_rows steps_for tap_rows filter_rows set_rows members once bridge_rows inward_rows neighbour_rows router_rows route_rows float_rows lease_rows ascending put_in is_live segment floating_holder tables_allow contains is_interface is_gateway is_dhcp device_is ident_text uuid_bytes uuid_number by_index routing_of legs_of ways_of connected_ways extra_ways floats_of best_way
same_host_by_copies = refl

-- An office: a network behind a router with its gateway on a flat network; the port is on c2.
abbrev outside_is : RowLists
outside_is = record no_rows {
  networks = network (id 30) (Flat physnet1) ∷ network (id 6) (Vxlan 1) ∷ [];
  subnets = subnet (id 31) (id 30) (prefix (ip 203 0 113 0) 24) (Some (ip 203 0 113 1)) false ∷ subnet (id 7) (id 6) (prefix (ip 10 0 0 0) 24) (Some (ip 10 0 0 1)) false ∷ [];
  ports =
      gateway_on (id 35) (id 30) c1 (drawn_mac 0) (held (id 31) (ip 203 0 113 2) ∷ []) router_text ∷
      interface (id 33) (id 6) c1 (drawn_mac 0) (held (id 7) (ip 10 0 0 1) ∷ []) router_text ∷
      open_port (id 8) (id 6) c2 (local_mac 6) (held (id 7) (ip 10 0 0 6) ∷ []) ∷ [];
  routers = router (id 32) (Some (record { network = id 30; port = id 35; snat = true })) [] ∷ [];
}

abbrev out_told : DvrMeaning
out_told = record {
  fate = record {
    outcome = Out (id 30) (TowardAddress (V4 (ip 203 0 113 1))) (tcp (drawn_mac 0) 0 (ip 203 0 113 2) 40000 (ip 198 51 100 9) 80 63);
    path = id 6 ∷ id 32 ∷ id 30 ∷ [];
    fresh = Snat (id 32) (tcp_key (ip 10 0 0 6) 40000 (ip 198 51 100 9) 80) (ip 203 0 113 2) 40000 ∷ [];
  };
  hosts = c2 ∷ c1 ∷ [];
}

abbrev out_frame : Frame
out_frame = tcp (local_mac 6) (drawn_mac 0) (ip 10 0 0 6) 40000 (ip 198 51 100 9) 80 64

-- translation stays on the router's host
translated : dvr_meaning outside_is [] (c1 ∷ c2 ∷ []) (FromPort (id 8) out_frame) ≡ out_told
unfolding rows_fate port_fate is_live segment rules_allow rule_matches is_member contains is_interface is_gateway device_is ident_text uuid_bytes uuid_number by_index routing_of router_view legs_of ways_of connected_ways extra_ways floats_of best_way ascending put_in floating_holder handlers hosts_from is_near new_port
translated = refl

abbrev outside_hosts : List DvrHost
outside_hosts = wide outside_is c1 (tag (id 30) 1 (Some (record { physical = physnet1; tag = None })) ∷ tag (id 6) 2 None ∷ []) ∷ wide outside_is c2 (tag (id 6) 9 None ∷ []) ∷ []

translated_by_copies : dvr_meant (dvr_fate outside_hosts (FromPort (id 8) out_frame)) ≡ out_told
unfolding dvr_fate dvr_walk handled_here router_copies routes_of_copies floats_of_copies near_rows steps_for tap_rows filter_rows set_rows members once bridge_rows inward_rows neighbour_rows router_rows route_rows float_rows lease_rows ascending put_in is_live segment floating_holder tables_allow contains is_interface is_gateway is_dhcp device_is ident_text uuid_bytes uuid_number by_index routing_of legs_of ways_of connected_ways extra_ways floats_of best_way new_port
translated_by_copies = refl
