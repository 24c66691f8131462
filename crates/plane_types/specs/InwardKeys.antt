-- Whether what comes inward has a key: the number of a tunnel, or the tag of a wire.
use Rattle.std.specs.Prelude.{Bool, false, ◌==◌}
use Rattle.api_types.specs.Wires.{tag_eq}
use Rattle.plane_types.specs.declared.keys.InwardKey.{InwardKey}
use Rattle.plane_types.specs.declared.keys.InwardKey.TheVariants.{Tag, Tunnel}
use Rattle.plane_types.specs.declared.table.Carrier.{Carrier}
use Rattle.plane_types.specs.declared.table.Carrier.TheVariants.{Tunnel as ByTunnel, Wire as ByWire}
use Rattle.plane_types.specs.declared.table.InwardRow.{InwardRow}

abbrev pub is_by : InwardKey → Carrier → Bool
is_by (Tunnel n) (ByTunnel m) = n == m
is_by (Tunnel n) (ByWire w) = false
is_by (Tag t) (ByTunnel m) = false
is_by (Tag t) (ByWire w) = tag_eq t w.tag

abbrev pub is_inward_at : InwardKey → InwardRow → Bool
is_inward_at key r = is_by key r.carrier
