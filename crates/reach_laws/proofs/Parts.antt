-- Routers that keep no entries don't look at a packet's ports.
use Rattle.std.proofs.Common.{◌≡◌, ℕ, zero, suc, ◌-◌, [], Bool, true, false, not, Option, Some, None, refl, ap, sym, ◌∙◌}
use Rattle.std.specs.Prelude.{find, option_map, ◌&&◌, ◌||◌, nat_le, if◌then◌else◌}
use Rattle.std.specs.Option.{unwrap_or}
use Rattle.net_addr.specs.Addresses.{addr_eq}
use Rattle.net_addr.specs.declared.address.Addr.{Addr}
use Rattle.net_addr.specs.declared.address.Addr.TheVariants.{V4}
use Rattle.api_types.specs.Holders.{router_of}
use Rattle.api_types.specs.Owners.{is_router_port}
use Rattle.api_types.specs.RouterRows.{leg_of, router_view}
use Rattle.api_types.specs.RouterViews.{Float, Leg, RouterView, Way}
use Rattle.api_types.specs.RowLists.{RowLists}
use Rattle.api_types.specs.Table.{ident_eq}
use Rattle.api_types.specs.declared.port.PortRow.{PortRow}
use Rattle.api_types.specs.declared.router.RouterRow.{RouterRow}
use Rattle.plane_types.specs.Ends.{are_four, destination, source, with_source}
use Rattle.plane_types.specs.Packets.{Packet, key_of}
use Rattle.plane_types.specs.Routing.{Changed, Destined, RouteEnds, RouteSends, Routed, Sourced, best_way, by_any, by_float, new_destination, destined_float, is_gateway_live, is_own, kept_source, new_port, routed_out, routed_to, routed_way, sending_of, new_source, sourced_float, sourced_gateway, sourced_new}
use Rattle.plane_types.specs.declared.frame.KeyPart.{KeyPart}
use Rattle.plane_types.specs.declared.verdict.DropCause.TheVariants.{Expired, RouterDown}
use Rattle.plane_types.specs.declared.verdict.Outcome.TheVariants.{Absorbed, Dropped}
use Rattle.reach_laws.proofs.Alone.{Alone, Landing, alone, alone_at, alone_by, alone_to}
use Rattle.reach_laws.proofs.RouterSays.{keeps, new-alone, routed_alone}
use Rattle.reach_laws.proofs.Walk.{landing}

pub record Sending : Type 0 where
  pub out : Leg
  pub hop : Addr
  pub packet : Packet

-- what is sent on, whatever is made
abbrev pub sending : Routed → Option Sending
sending (RouteEnds o) = None
sending (RouteSends made out hop p) = Some (record { out = out; hop = hop; packet = p })

abbrev pub with_part : KeyPart → Packet → Packet
with_part x p = record p { part = x }

abbrev pub repart : KeyPart → Sending → Sending
repart x z = record { out = z.out; hop = z.hop; packet = with_part x z.packet }

abbrev pub relanded : KeyPart → Landing → Landing
relanded x l = record { port = l.port; packet = with_part x l.packet }

abbrev packets : Option Sourced → Option Packet
packets None = None
packets (Some s) = Some s.packet

module _ (v : RouterView) (x : KeyPart) where
  new-sent : (outer : ℕ) (p : Packet) → packets (sourced_new v.id p outer (new_port [] (key_of p))) ≡ Some (record p { ends = with_source p.ends outer })
  new-sent outer p = ap (λ o. packets (sourced_new v.id p outer o)) (new-alone (key_of p)) ∙ ap (λ (y : KeyPart). Some (record { src = p.src; dst = p.dst; ends = with_source p.ends outer; ttl = p.ttl; part = y })) (keeps p.part p.ends)

  sourced-part : (way_in out : Leg) (by : Changed) (p : Packet) → packets (new_source v [] way_in out by (with_part x p)) ≡ option_map (with_part x) (packets (new_source v [] way_in out by p))
  sourced-part way_in out by p = start (are_four p.ends && way_in.inside && (not out.inside || by_any by))
    where
      gateway : (o : Option ℕ) → packets (sourced_gateway v [] (with_part x p) o) ≡ option_map (with_part x) (packets (sourced_gateway v [] p o))
      gateway None = refl
      gateway (Some outer) = new-sent outer (with_part x p) ∙ sym (ap (option_map (with_part x)) (new-sent outer p))

      float : (b : Bool) → packets (if b then sourced_gateway v [] (with_part x p) v.gateway else kept_source (with_part x p)) ≡ option_map (with_part x) (packets (if b then sourced_gateway v [] p v.gateway else kept_source p))
      float true = gateway v.gateway
      float false = refl

      floated : (o : Option Float) → packets (sourced_float v [] out by (with_part x p) o) ≡ option_map (with_part x) (packets (sourced_float v [] out by p o))
      floated (Some f) = refl
      floated None = float ((not out.inside || by_float by) && v.snat && is_gateway_live v)

      start : (b : Bool) → packets (if b then sourced_float v [] out by (with_part x p) (find (λ (f : Float). addr_eq (V4 f.fixed) (source p.ends)) v.floats) else kept_source (with_part x p))
          ≡ option_map (with_part x) (packets (if b then sourced_float v [] out by p (find (λ (f : Float). addr_eq (V4 f.fixed) (source p.ends)) v.floats) else kept_source p))
      start false = refl
      start true = floated (find (λ (f : Float). addr_eq (V4 f.fixed) (source p.ends)) v.floats)

  sent-part : (l : Leg) (hop : Addr) (o n : Option Sourced) → packets n ≡ option_map (with_part x) (packets o) → sending (sending_of l hop n) ≡ option_map (repart x) (sending (sending_of l hop o))
  sent-part l hop None None h = refl
  sent-part l hop None (Some n) h = cc
  sent-part l hop (Some o) None h = cc
  sent-part l hop (Some o) (Some n) h = let same : n.packet ≡ with_part x o.packet = cc in ap (λ (y : Packet). Some (record { out = l; hop = hop; packet = record y { src = l.mac } })) same

  to-part : (way_in : Leg) (d : Destined) → sending (routed_to v [] way_in (record { packet = with_part x d.packet; by = d.by })) ≡ option_map (repart x) (sending (routed_to v [] way_in d))
  to-part way_in d = go (is_own v (destination d.packet.ends)) (nat_le d.packet.ttl 1)
    where
      lower : Packet
      lower = record (d.packet) { ttl = d.packet.ttl - 1 }

      out : (hop : Addr) (o : Option Leg) → sending (routed_out v [] way_in d.by (with_part x lower) hop o) ≡ option_map (repart x) (sending (routed_out v [] way_in d.by lower hop o))
      out hop None = refl
      out hop (Some l) = sent-part l hop (new_source v [] way_in l d.by lower) (new_source v [] way_in l d.by (with_part x lower)) (sourced-part way_in l d.by lower)

      way : (o : Option Way) → sending (routed_way v [] way_in d.by (with_part x lower) o) ≡ option_map (repart x) (sending (routed_way v [] way_in d.by lower o))
      way None = refl
      way (Some w) = out (unwrap_or w.next (destination d.packet.ends)) (find (λ (l : Leg). ident_eq w.port l.port) v.legs)

      go : (own low : Bool) → sending (if own then RouteEnds (Absorbed v.id) else if low then RouteEnds (Dropped Expired) else routed_way v [] way_in d.by (with_part x lower) (best_way (destination d.packet.ends) v.ways))
          ≡ option_map (repart x) (sending (if own then RouteEnds (Absorbed v.id) else if low then RouteEnds (Dropped Expired) else routed_way v [] way_in d.by lower (best_way (destination d.packet.ends) v.ways)))
      go true low = refl
      go false true = refl
      go false false = way (best_way (destination d.packet.ends) v.ways)

  destined-part : (p : Packet) → new_destination v [] (with_part x p) ≡ record { packet = with_part x (new_destination v [] p).packet; by = (new_destination v [] p).by }
  destined-part p = go (find (λ (f : Float). addr_eq (V4 f.floating) (destination p.ends)) v.floats)
    where
      go : (o : Option Float) → destined_float v [] (with_part x p) o ≡ record { packet = with_part x (destined_float v [] p o).packet; by = (destined_float v [] p o).by }
      go None = refl
      go (Some f) = refl

  pub routed-part : (way_in : Leg) (p : Packet) → sending (routed_alone v way_in (with_part x p)) ≡ option_map (repart x) (sending (routed_alone v way_in p))
  routed-part way_in p = go v.up
    where
      go : (b : Bool) → sending (if not b then RouteEnds (Dropped RouterDown) else routed_to v [] way_in (new_destination v [] (with_part x p))) ≡ option_map (repart x) (sending (if not b then RouteEnds (Dropped RouterDown) else routed_to v [] way_in (new_destination v [] p)))
      go true = ap (λ d. sending (routed_to v [] way_in d)) (destined-part p) ∙ to-part way_in (new_destination v [] p)
      go false = refl

abbrev by_sending : RowLists → Alone → RouterRow → Option Sending → Option Landing
by_sending rows on r None = None
by_sending rows on r (Some z) = alone_to on z.packet (landing rows r (z.out, z.hop))

by-sending : (rows : RowLists) (on : Alone) (r : RouterRow) (w : Routed) → alone_by rows on r w ≡ by_sending rows on r (sending w)
by-sending rows on r (RouteEnds o) = refl
by-sending rows on r (RouteSends made out hop p) = refl

module _ (rows : RowLists) (x : KeyPart) where
  abbrev Rest : ℕ → Type 0
  Rest many = (q : PortRow) (p : Packet) → alone rows many q (with_part x p) ≡ option_map (relanded x) (alone rows many q p)

  sent-alone : (many : ℕ) → Rest many → (r : RouterRow) (o : Option Sending) → by_sending rows (alone rows many) r (option_map (repart x) o) ≡ option_map (relanded x) (by_sending rows (alone rows many) r o)
  sent-alone many rest r None = refl
  sent-alone many rest r (Some z) = go (landing rows r (z.out, z.hop))
    where
      go : (o : Option PortRow) → alone_to (alone rows many) (with_part x z.packet) o ≡ option_map (relanded x) (alone_to (alone rows many) z.packet o)
      go None = refl
      go (Some q) = rest q (record (z.packet) { dst = q.mac })

  at-alone : (many : ℕ) → Rest many → (q : PortRow) (p : Packet) (o : Option RouterRow) → alone_at rows (alone rows many) q (with_part x p) o ≡ option_map (relanded x) (alone_at rows (alone rows many) q p o)
  at-alone many rest q p None = refl
  at-alone many rest q p (Some r) =
      by-sending rows (alone rows many) r (routed_alone (router_view rows r) (leg_of q) (with_part x p))
      ∙ ap (by_sending rows (alone rows many) r) (routed-part (router_view rows r) x (leg_of q) p)
      ∙ sent-alone many rest r (sending (routed_alone (router_view rows r) (leg_of q) p))
      ∙ ap (option_map (relanded x)) (sym (by-sending rows (alone rows many) r (routed_alone (router_view rows r) (leg_of q) p)))

  -- who has it in the end is the same, whatever its ports are
  pub alone-with : (many : ℕ) → Rest many
  unfolding alone
  alone-with zero q p = refl
  alone-with (suc many) q p = go (is_router_port q.owner) (at-alone many (alone-with many) q p (router_of rows q))
    where
      go : (b : Bool) → alone_at rows (alone rows many) q (with_part x p) (router_of rows q) ≡ option_map (relanded x) (alone_at rows (alone rows many) q p (router_of rows q))
          → (if b then alone_at rows (alone rows many) q (with_part x p) (router_of rows q) else Some (record { port = q; packet = with_part x p })) ≡ option_map (relanded x) (if b then alone_at rows (alone rows many) q p (router_of rows q) else Some (record { port = q; packet = p }))
      go true h = h
      go false h = refl
