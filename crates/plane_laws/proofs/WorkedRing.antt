-- A packet that routers send to each other until its time to live ends: 254 of them, and 509 ids.
use Rattle.std.specs.Prelude.{◌≡◌, ℕ, false, [], ◌∷◌, Option, Some, None, codes, refl, length, slice_get}
use Rattle.uuid.specs.Text.{by_index}
use Rattle.net_addr.specs.Prefixes.{contains}
use Rattle.api_types.specs.Ident.{Ident, ident_text, uuid_bytes, uuid_number}
use Rattle.api_types.specs.Owners.{device_is, is_gateway, is_interface}
use Rattle.api_types.specs.RowLists.{RowLists}
use Rattle.api_types.specs.declared.network.Segment.TheVariants.{Vxlan}
use Rattle.api_types.specs.declared.router.RouterRow.{RouterRow}
use Rattle.plane_types.proofs.WorkedRows.{c1, drawn_mac, held, hop, id, interface, ip, local_mac, network, no_rows, open_port, prefix, router, subnet, tcp}
use Rattle.api_types.specs.Ascending.{ascending, put_in}
use Rattle.api_types.specs.Holders.{floating_holder}
use Rattle.api_types.specs.Live.{is_live, segment}
use Rattle.plane_types.specs.Meaning.{port_fate, rows_fate}
use Rattle.api_types.specs.RouterRows.{connected_ways, extra_ways, floats_of, legs_of, router_view, ways_of}
use Rattle.plane_types.specs.Routing.{best_way, routing_of}
use Rattle.plane_types.specs.Verdicts.{rows_verdict}
use Rattle.plane_types.specs.declared.event.Event.{Event}
use Rattle.plane_types.specs.declared.event.Event.TheVariants.{FromPort}
use Rattle.plane_types.specs.declared.verdict.DropCause.TheVariants.{Expired}
use Rattle.plane_types.specs.declared.verdict.Outcome.{Outcome}
use Rattle.plane_types.specs.declared.verdict.Outcome.TheVariants.{Dropped}
use Rattle.plane_types.specs.declared.verdict.Verdict.{Verdict as ToldVerdict}

abbrev ring_router : ℕ → ℕ → RouterRow
ring_router n next = router (id n) None (hop (prefix (ip 192 0 2 0) 24) next ∷ [])

-- three routers on one network, of which each has the next one as its next hop
abbrev ring : RowLists
ring = record no_rows {
  networks = network (id 6) (Vxlan 1) ∷ network (id 96) (Vxlan 2) ∷ [];
  subnets = subnet (id 7) (id 6) (prefix (ip 10 0 0 0) 24) None false ∷ subnet (id 97) (id 96) (prefix (ip 10 9 0 0) 24) None false ∷ [];
  ports =
      open_port (id 8) (id 6) c1 (local_mac 5) (held (id 7) (ip 10 0 0 5) ∷ []) ∷
      interface (id 33) (id 6) c1 (drawn_mac 0) (held (id 7) (ip 10 0 0 1) ∷ []) (codes "00000001-0000-8000-8000-000000000020") ∷
      interface (id 34) (id 96) c1 (drawn_mac 1) (held (id 97) (ip 10 9 0 11) ∷ []) (codes "00000001-0000-8000-8000-000000000020") ∷
      interface (id 35) (id 96) c1 (drawn_mac 2) (held (id 97) (ip 10 9 0 12) ∷ []) (codes "00000001-0000-8000-8000-000000000030") ∷
      interface (id 36) (id 96) c1 (drawn_mac 3) (held (id 97) (ip 10 9 0 13) ∷ []) (codes "00000001-0000-8000-8000-000000000040") ∷ [];
  routers = ring_router 32 (ip 10 9 0 12) ∷ ring_router 48 (ip 10 9 0 13) ∷ ring_router 64 (ip 10 9 0 11) ∷ [];
}

-- what becomes of it, the length of its path, and the last router in it
abbrev ends : ToldVerdict → Outcome × ℕ × Option Ident
ends v = (v.outcome, length v.path, slice_get v.path 507)

abbrev around : ℕ → Event
around ttl = FromPort (id 8) (tcp (local_mac 5) (drawn_mac 0) (ip 10 0 0 5) 1 (ip 192 0 2 9) 2 ttl)

a_few_rounds : (rows_verdict ring [] (around 5)).path ≡ id 6 ∷ id 32 ∷ id 96 ∷ id 48 ∷ id 96 ∷ id 64 ∷ id 96 ∷ id 32 ∷ id 96 ∷ []
unfolding rows_fate port_fate is_live segment contains is_interface is_gateway device_is ident_text uuid_bytes uuid_number by_index routing_of router_view legs_of ways_of connected_ways extra_ways floats_of best_way ascending put_in floating_holder
a_few_rounds = refl

all_rounds : ends (rows_verdict ring [] (around 255)) ≡ (Dropped Expired, 509, Some (id 48))
unfolding rows_fate port_fate is_live segment contains is_interface is_gateway device_is ident_text uuid_bytes uuid_number by_index routing_of router_view legs_of ways_of connected_ways extra_ways floats_of best_way ascending put_in floating_holder
all_rounds = refl
