-- The parts of rows: their members, in byte order of the names.
use Rattle.std.specs.Prelude.{[], ◌∷◌, codes}
use Rattle.net_addr.specs.Words.{Text}
use Rattle.net_addr.specs.Prefixes.{Span}
use Rattle.api_types.specs.Printed.{Tree, null, number, truth, word}
use Rattle.api_types.specs.declared.network.Segment.{Segment}
use Rattle.api_types.specs.declared.network.Segment.TheVariants.{Local, Flat, Vlan, Vxlan}
use Rattle.api_types.specs.declared.subnet.Hop.{Hop}
use Rattle.api_types.specs.declared.subnet.Ipv6Mode.{Ipv6Mode}
use Rattle.api_types.specs.declared.port.Fixed.{Fixed}
use Rattle.api_types.specs.declared.port.Pair.{Pair}
use Rattle.api_types.specs.declared.router.Gateway.{Gateway}
use Rattle.api_types.specs.declared.floating.Target.{Target}
use Rattle.json_trees.specs.Words.{address_tree, four_tree, id_tree, mac_tree, prefix_tree}
use Rattle.json_trees.specs.Printed.{fields}
use Rattle.wire_text.specs.VariantNames.{mode_name}

abbrev pub span_tree : Span → Tree
span_tree s = fields (
    (codes "end", address_tree s.last) ∷ (codes "start", address_tree s.first) ∷ [])

abbrev pub hop_tree : Hop → Tree
hop_tree h = fields (
    (codes "destination", prefix_tree h.destination) ∷ (codes "nexthop", address_tree h.next)
    ∷ [])

abbrev pub fixed_tree : Fixed → Tree
fixed_tree f = fields (
    (codes "address", address_tree f.address) ∷ (codes "subnet", id_tree f.subnet) ∷ [])

abbrev pub pair_tree : Pair → Tree
pair_tree p = fields ((codes "mac", mac_tree p.mac) ∷ (codes "prefix", prefix_tree p.prefix) ∷ [])

abbrev pub gateway_tree : Gateway → Tree
gateway_tree g = fields (
    (codes "network", id_tree g.network) ∷ (codes "port", id_tree g.port)
    ∷ (codes "snat", truth g.snat) ∷ [])

abbrev pub target_tree : Target → Tree
target_tree t = fields (
    (codes "fixed", four_tree t.fixed) ∷ (codes "port", id_tree t.port)
    ∷ (codes "router", id_tree t.router) ∷ [])

abbrev pub mode_tree : Ipv6Mode → Tree
mode_tree mode = word (mode_name mode)

-- what a segment hasn't is null
abbrev pub segment_parts : Tree → Tree → Text → Tree
segment_parts n physical type = fields (
    (codes "number", n) ∷ (codes "physical", physical) ∷ (codes "type", word type) ∷ [])

abbrev pub segment_tree : Segment → Tree
segment_tree Local = segment_parts null null (codes "Local")
segment_tree (Flat physical) = segment_parts null (word physical) (codes "Flat")
segment_tree (Vlan physical tag) = segment_parts (number tag) (word physical) (codes "Vlan")
segment_tree (Vxlan n) = segment_parts (number n) null (codes "Vxlan")
