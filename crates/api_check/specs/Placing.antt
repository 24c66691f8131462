-- What consistency asks of a bound port: its host can carry its network's segment, and is that of
-- its router (Neutron ML2 guide, port binding).
use Rattle.std.specs.Prelude.{◌&&◌, ◌||◌, not, Bool}
use Rattle.std.specs.List.{list_all}
use Rattle.std.specs.Str.{bytes_eq}
use Rattle.net_addr.specs.Words.{Text}
use Rattle.api_types.specs.Lists.{stands_so, is_some_so}
use Rattle.api_types.specs.Owners.{is_port_of}
use Rattle.api_types.specs.RowLists.{RowLists}
use Rattle.api_types.specs.Consistent.Carried.{is_bound}
use Rattle.api_types.specs.declared.network.Segment.{Segment}
use Rattle.api_types.specs.declared.port.PortRow.{PortRow}

abbrev pub port_placed : (Text → Segment → Bool) → RowLists → PortRow → Bool
port_placed carries rows p = not (is_bound p.vif)
    || (stands_so (λ n. n.id) p.network (λ n. carries p.host n.segment) rows.networks
    && list_all (λ r. not (is_port_of r p) || is_some_so (bytes_eq p.host) r.host) rows.routers)
