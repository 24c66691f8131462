-- What a router does with a packet, in seven steps (RFC 1812, section 5; RFC 8200 for hop limits;
-- RFC 3022 for translation; RFC 2663, section 4.1.2). Floating addresses and the gateway address
-- are of version 4, so nothing of version 6 is translated.
use Rattle.std.specs.Prelude.{ℕ, ◌+◌, ◌-◌, Bool, true, false, not, ◌&&◌, ◌||◌, ◌==◌, nat_lt, nat_le, List, [], ◌∷◌, Option, Some, None, if◌then◌else◌, find, zero, suc}
use Rattle.std.specs.List.{list_any}
use Rattle.std.specs.Option.{unwrap_or}
use Rattle.net_addr.specs.Addresses.{addr_eq}
use Rattle.net_addr.specs.declared.address.Addr.{Addr}
use Rattle.net_addr.specs.declared.address.Addr.TheVariants.{V4}
use Rattle.net_addr.specs.Prefixes.{contains}
use Rattle.api_types.specs.Ident.{Ident}
use Rattle.api_types.specs.Table.{ident_eq}
use Rattle.plane_types.specs.Ends.{are_four, destination, source, turned_round, with_destination, with_source}
use Rattle.plane_types.specs.Keys.{key_eq, kind_eq, answer_key}
use Rattle.plane_types.specs.Packets.{Packet, key_of, part_from, part_to}
use Rattle.plane_types.specs.declared.entry.Entry.{Entry}
use Rattle.plane_types.specs.declared.entry.Entry.TheVariants.{Flow, Snat}
use Rattle.plane_types.specs.declared.frame.Key.{Key}
use Rattle.plane_types.specs.declared.frame.KeyKind.{KeyKind}
use Rattle.plane_types.specs.declared.frame.KeyKind.TheVariants.{EchoAsk as AskKey, Proto as ProtoKey, EchoReply as ReplyKey, Tcp as TcpKey, Udp as UdpKey}
use Rattle.api_types.specs.declared.route.RouteRank.{RouteRank}
use Rattle.api_types.specs.declared.route.RouteRank.TheVariants.{Connected, Default, Extra}
use Rattle.plane_types.specs.declared.verdict.DropCause.TheVariants.{Expired, NoRoute, RouterDown, TranslationFull, Unknown}
use Rattle.plane_types.specs.declared.verdict.Outcome.{Outcome}
use Rattle.plane_types.specs.declared.verdict.Outcome.TheVariants.{Absorbed, Dropped}
use Rattle.api_types.specs.RouterViews.{Leg, Way, Float, RouterView}

-- by what a packet's destination was changed
pub data Changed : Type 0 where
  ByNothing : Changed
  ByFloating : Changed
  ByEntry : Changed

pub record Destined : Type 0 where
  pub packet : Packet
  pub by : Changed

pub record Sourced : Type 0 where
  pub packet : Packet
  pub made : List Entry

-- a packet ends in the router, or is sent on by a port toward a next hop, with the entries that
-- this made
pub data Routed : Type 0 where
  RouteEnds : Outcome → Routed
  RouteSends : List Entry → Leg → Addr → Packet → Routed

-- a translation entry is valid where its outer address is the gateway address now and sources are
-- translated now; of a valid one the key and the outer port are left to say
pub record Use : Type 0 where
  pub key : Key
  pub port : ℕ

abbrev pub uses_at : Ident → ℕ → List Entry → List Use
uses_at r outer [] = []
uses_at r outer (Flow p d k ∷ entries) = uses_at r outer entries
uses_at r outer (Snat s k o p ∷ entries) =
    if ident_eq r s && (outer == o) then record { key = k; port = p } ∷ uses_at r outer entries
    else uses_at r outer entries

abbrev pub uses_by : Bool → Option ℕ → Ident → List Entry → List Use
uses_by false outer r entries = []
uses_by true None r entries = []
uses_by true (Some outer) r entries = uses_at r outer entries

-- First the destination. A floating address of this router becomes the fixed address. Otherwise,
-- where a valid entry answers to the packet (the kind is that of the reversed key, the outer
-- address and port are the packet's destination, and the entry's far end is the packet's source),
-- the destination becomes the source that the entry keeps: the packet's ends are those of an answer
-- to the key.
abbrev pub answers : Option ℕ → Packet → Use → Bool
answers None p u = false
answers (Some outer) p u =
    addr_eq (V4 outer) (destination p.ends) && kind_eq u.key.kind (answer_key (key_of p)).kind
    && (u.port == (key_of p).dport)
    && addr_eq (destination u.key.ends) (source p.ends) && (u.key.dport == (key_of p).sport)

abbrev pub destined_entry : Packet → Option Use → Destined
destined_entry p None = record { packet = p; by = ByNothing }
destined_entry p (Some u) = record {
  packet = record p { ends = turned_round u.key.ends; part = part_to p.part u.key.sport };
  by = ByEntry;
}

abbrev pub destined_float : RouterView → List Use → Packet → Option Float → Destined
destined_float v uses p (Some f) = record {
  packet = record p { ends = with_destination p.ends f.fixed };
  by = ByFloating;
}
destined_float v uses p None = destined_entry p (find (answers v.gateway p) uses)

abbrev pub new_destination : RouterView → List Use → Packet → Destined
new_destination v uses p =
    destined_float v uses p
    (find (λ (f : Float). addr_eq (V4 f.floating) (destination p.ends)) v.floats)

-- The longest prefix that contains the destination is taken; of equal lengths a connected route
-- goes before an extra one, that before the default, and the first of equal ones.
abbrev pub rank_number : RouteRank → ℕ
rank_number Connected = 0
rank_number Extra = 1
rank_number Default = 2

abbrev pub beats : Way → Way → Bool
beats a b =
    nat_lt b.prefix.len a.prefix.len
    || ((a.prefix.len == b.prefix.len) && nat_le (rank_number a.rank) (rank_number b.rank))

abbrev pub better : Way → Option Way → Way
better w None = w
better w (Some v) = if beats w v then w else v

unfoldable pub best_way : Addr → List Way → Option Way
best_way x [] = None
best_way x (w ∷ ways) =
    if contains w.prefix x then Some (better w (best_way x ways)) else best_way x ways

-- Last the source. A port is taken where a valid entry has it with the same kind and far end. The
-- outer port of a new entry is the same port where free, otherwise, for TCP, UDP and echoes, the
-- least free one of 1,024 to 65,535.
abbrev pub is_taken : List Use → Key → ℕ → Bool
is_taken uses k port =
    list_any
    (λ (u : Use). (u.port == port) && kind_eq u.key.kind k.kind
    && addr_eq (destination u.key.ends) (destination k.ends) && (u.key.dport == k.dport)) uses

unfoldable pub least_untaken : List Use → Key → ℕ → ℕ → Option ℕ
least_untaken uses k zero first = None
least_untaken uses k (suc many) first =
    if is_taken uses k first then least_untaken uses k many (first + 1) else Some first

abbrev pub has_choice : KeyKind → Bool
has_choice TcpKey = true
has_choice UdpKey = true
has_choice AskKey = true
has_choice ReplyKey = false
has_choice (ProtoKey n) = false

unfoldable pub new_port : List Use → Key → Option ℕ
new_port uses k =
    if is_taken uses k k.sport
    then (if has_choice k.kind then least_untaken uses k 64512 1024 else None)
    else Some k.sport

-- the source becomes the gateway address with the port of the valid entry that has the same key,
-- else with a new one
abbrev pub sourced_at : Packet → ℕ → ℕ → Packet
sourced_at p outer port =
    record p { ends = with_source p.ends outer; part = part_from p.part port }

abbrev pub sourced_new : Ident → Packet → ℕ → Option ℕ → Option Sourced
sourced_new r p outer None = None
sourced_new r p outer (Some port) =
    Some (record { packet = sourced_at p outer port; made = Snat r (key_of p) outer port ∷ [] })

abbrev pub sourced_use : Ident → List Use → Packet → ℕ → Option Use → Option Sourced
sourced_use r uses p outer (Some u) =
    Some (record { packet = sourced_at p outer u.port; made = [] })
sourced_use r uses p outer None = sourced_new r p outer (new_port uses (key_of p))

abbrev pub kept_source : Packet → Option Sourced
kept_source p = Some (record { packet = p; made = [] })

abbrev pub sourced_gateway : RouterView → List Use → Packet → Option ℕ → Option Sourced
sourced_gateway v uses p None = kept_source p
sourced_gateway v uses p (Some outer) =
    sourced_use v.id uses p outer (find (λ (u : Use). key_eq u.key (key_of p)) uses)

abbrev pub by_float : Changed → Bool
by_float ByFloating = true
by_float ByNothing = false
by_float ByEntry = false

abbrev pub by_any : Changed → Bool
by_any ByFloating = true
by_any ByNothing = false
by_any ByEntry = true

abbrev pub is_gateway_live : RouterView → Bool
is_gateway_live v = list_any (λ (l : Leg). not l.inside) v.legs

-- a floating address of this router for the source replaces it; otherwise the source is translated
-- where the packet leaves by the gateway port, or a floating address changed its destination, and
-- the router translates and its gateway port is live
abbrev pub sourced_float : RouterView → List Use → Leg → Changed → Packet → Option Float
    → Option Sourced
sourced_float v uses out by p (Some f) =
    Some (record { packet = record p { ends = with_source p.ends f.floating }; made = [] })
sourced_float v uses out by p None =
    if (not out.inside || by_float by) && v.snat && is_gateway_live v
    then sourced_gateway v uses p v.gateway
    else kept_source p

-- only a packet of version 4 that came in by an interface, and leaves by the gateway port or had
-- its destination changed
abbrev pub new_source : RouterView → List Use → Leg → Leg → Changed → Packet → Option Sourced
new_source v uses way_in out by p =
    if are_four p.ends && way_in.inside && (not out.inside || by_any by)
    then sourced_float v uses out by p
    (find (λ (f : Float). addr_eq (V4 f.fixed) (source p.ends)) v.floats)
    else kept_source p

-- the packet's source MAC is that of the way out
abbrev pub sending_of : Leg → Addr → Option Sourced → Routed
sending_of out hop None = RouteEnds (Dropped TranslationFull)
sending_of out hop (Some s) = RouteSends s.made out hop (record s.packet { src = out.mac })

-- the next hop is the route's, or the destination where it has none
abbrev pub routed_out : RouterView → List Use → Leg → Changed → Packet → Addr → Option Leg → Routed
routed_out v uses way_in by p hop None = RouteEnds (Dropped Unknown)
routed_out v uses way_in by p hop (Some out) =
    sending_of out hop (new_source v uses way_in out by p)

abbrev pub routed_way : RouterView → List Use → Leg → Changed → Packet → Option Way → Routed
routed_way v uses way_in by p None = RouteEnds (Dropped NoRoute)
routed_way v uses way_in by p (Some w) =
    routed_out v uses way_in by p (unwrap_or w.next (destination p.ends))
    (find (λ (l : Leg). ident_eq w.port l.port) v.legs)

-- an address of a live port of this router is the router's own
abbrev pub is_own : RouterView → Addr → Bool
is_own v x = list_any (λ (l : Leg). list_any (λ a. addr_eq a x) l.addresses) v.legs

-- then what is the router's own ends, and what has lived; what goes on has one step less to live
abbrev pub routed_to : RouterView → List Use → Leg → Destined → Routed
routed_to v uses way_in d =
    if is_own v (destination d.packet.ends) then RouteEnds (Absorbed v.id)
    else if nat_le d.packet.ttl 1 then RouteEnds (Dropped Expired)
    else routed_way v uses way_in d.by (record (d.packet) { ttl = d.packet.ttl - 1 })
    (best_way (destination d.packet.ends) v.ways)

-- the whole rule, which a router that is down doesn't begin
unfoldable pub routing_of : RouterView → List Entry → Leg → Packet → Routed
routing_of v entries way_in p =
    if not v.up then RouteEnds (Dropped RouterDown)
    else routed_to v (uses_by v.snat v.gateway v.id entries) way_in
    (new_destination v (uses_by v.snat v.gateway v.id entries) p)
