-- What consistency asks of MACs, addresses and segments: nobody else holds them (Networking API
-- reference v2.0, the refusals of each call). Where two rows break a clause together, both fail.
use Rattle.std.specs.Prelude.{◌&&◌, nat_le, Bool, List, count_by, sum_by}
use Rattle.std.specs.List.{list_all}
use Rattle.api_types.specs.Ident.{Ident}
use Rattle.api_types.specs.Consistent.HeldOnce.{has_mac, holds_times}
use Rattle.api_types.specs.Consistent.Segments.{same_segment}
use Rattle.api_types.specs.declared.network.NetworkRow.{NetworkRow}
use Rattle.api_types.specs.declared.port.PortRow.{PortRow}
use Rattle.api_types.specs.declared.port.Fixed.{Fixed}

abbrev pub is_held_once : List PortRow → Ident → Fixed → Bool
is_held_once ports network f = nat_le (sum_by (holds_times network f.address) ports) 1

abbrev pub port_alone : List PortRow → PortRow → Bool
port_alone ports p =
    nat_le (count_by (has_mac p.network p.mac) ports) 1
    && list_all (is_held_once ports p.network) p.fixed

abbrev pub segment_alone : List NetworkRow → NetworkRow → Bool
segment_alone networks n = nat_le (count_by (λ m. same_segment n.segment m.segment) networks) 1
