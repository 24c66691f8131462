-- Packets, passages and valid translations, as code has them.
use Rattle.std.specs.Prelude.{ℕ, ◌&&◌, ◌==◌, Option, Some, None, option_to_list, if◌then◌else◌}
use Rattle.api_types.specs.Ident.{Ident}
use Rattle.api_types.specs.Table.{ident_eq}
use Rattle.plane_types.specs.Packets.{Packet as ThePacket, packet}
use Rattle.plane_types.specs.Passage.{Passage as ThePassage}
use Rattle.plane_types.specs.Routing.{ByEntry, ByFloating, ByNothing, Changed as TheChanged, Destined as TheDestined, Sourced as TheSourced, Use as TheUse}
use Rattle.plane_types.specs.declared.entry.Entry.{Entry}
use Rattle.plane_types.specs.declared.entry.Entry.TheVariants.{Flow, Snat}
use Rattle.plane_types.specs.declared.packet.Packet.{Packet}
use Rattle.plane_types.specs.declared.flow.Passage.{Passage}
use Rattle.plane_types.specs.declared.routing.Changed.{Changed}
use Rattle.plane_types.specs.declared.routing.Changed.TheVariants.{Nothing, Floating, Entry as OfEntry}
use Rattle.plane_types.specs.declared.routing.Destined.{Destined}
use Rattle.plane_types.specs.declared.routing.Sourced.{Sourced}
use Rattle.plane_types.specs.declared.translation.Use.{Use}

abbrev pub packet_of : Packet → ThePacket
packet_of p = packet p.src p.dst p.ends p.ttl p.part

abbrev pub passage_of : Passage → ThePassage
passage_of x = record { passes = x.passes; made = option_to_list x.made }

abbrev pub use_of : Use → TheUse
use_of u = record { key = u.key; port = u.port }

-- what an entry says, where it is a translation of this router with this outer address
abbrev pub use_if : Ident → ℕ → Entry → Option TheUse
use_if r outer (Flow p d k) = None
use_if r outer (Snat s k o p) =
    if ident_eq r s && (outer == o) then Some (record { key = k; port = p }) else None

abbrev pub changed_of : Changed → TheChanged
changed_of Nothing = ByNothing
changed_of Floating = ByFloating
changed_of OfEntry = ByEntry

abbrev pub destined_of : Destined → TheDestined
destined_of d = record { packet = packet_of d.packet; by = changed_of d.by }

abbrev pub sourced_of : Sourced → TheSourced
sourced_of s = record { packet = packet_of s.packet; made = option_to_list s.made }
