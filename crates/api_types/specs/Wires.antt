-- The wires of physical networks: which one carries a network, and which network is on one
-- (Neutron guide, provider networks).
use Rattle.std.specs.Prelude.{ℕ, ◌&&◌, ◌==◌, Bool, true, false, Option, Some, None, find}
use Rattle.std.specs.Str.{bytes_eq}
use Rattle.api_types.specs.declared.network.Segment.{Segment}
use Rattle.api_types.specs.declared.network.Segment.TheVariants.{Flat, Local, Vlan, Vxlan}
use Rattle.api_types.specs.declared.wire.Wire.{Wire}
use Rattle.api_types.specs.RowLists.{RowLists}
use Rattle.api_types.specs.declared.network.NetworkRow.{NetworkRow}
use Rattle.api_types.specs.Live.{segment}

-- the wire of a physical network that carries a flat or vlan network
abbrev pub wire_of : Segment → Option Wire
wire_of Local = None
wire_of (Flat p) = Some (record { physical = p; tag = None })
wire_of (Vlan p t) = Some (record { physical = p; tag = Some t })
wire_of (Vxlan n) = None

abbrev pub tag_eq : Option ℕ → Option ℕ → Bool
tag_eq None None = true
tag_eq (Some a) (Some b) = a == b
tag_eq None (Some b) = false
tag_eq (Some a) None = false

abbrev pub wire_eq : Wire → Wire → Bool
wire_eq v w = bytes_eq v.physical w.physical && tag_eq v.tag w.tag

-- the network that is on a wire
abbrev pub is_wire : Wire → Option Wire → Bool
is_wire w None = false
is_wire w (Some v) = wire_eq w v

abbrev pub network_on : RowLists → Wire → Option NetworkRow
network_on rows w = find (λ (n : NetworkRow). is_wire w (wire_of n.segment)) rows.networks
