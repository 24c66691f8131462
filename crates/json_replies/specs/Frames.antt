-- Frames, keys and tracked entries as they are printed.
use Rattle.std.specs.Prelude.{List, [], ◌∷◌, codes}
use Rattle.net_addr.specs.Words.{Text}
use Rattle.api_types.specs.Printed.{Tree, number, word, NamedTree}
use Rattle.api_types.specs.declared.group.Direction.{Direction}
use Rattle.api_types.specs.declared.group.Direction.TheVariants.{Ingress, Egress}
use Rattle.api_types.specs.declared.group.Ethertype.{Ethertype}
use Rattle.api_types.specs.declared.group.Ethertype.TheVariants.{Ipv4, Ipv6}
use Rattle.plane_types.specs.Ends.{Ends, Ends4, Ends6, destination, source}
use Rattle.plane_types.specs.declared.entry.Entry.{Entry}
use Rattle.plane_types.specs.declared.entry.Entry.TheVariants.{Flow, Snat}
use Rattle.plane_types.specs.declared.frame.Frame.{Frame}
use Rattle.plane_types.specs.declared.frame.Frame.TheVariants.{Dhcp, Ip, NeighbourAsk, Other}
use Rattle.plane_types.specs.declared.frame.KeyPart.{KeyPart}
use Rattle.plane_types.specs.declared.frame.KeyPart.TheVariants as part
use Rattle.plane_types.specs.declared.frame.KeyKind.{KeyKind}
use Rattle.plane_types.specs.declared.frame.KeyKind.TheVariants.{Tcp, Udp, EchoAsk, EchoReply, Proto}
use Rattle.plane_types.specs.declared.frame.Key.{Key}
use Rattle.json_trees.specs.Printed.{fields}
use Rattle.json_trees.specs.Words.{address_tree, four_tree, id_tree, mac_tree}

abbrev pub direction_tree : Direction → Tree
direction_tree Ingress = word (codes "ingress")
direction_tree Egress = word (codes "egress")

abbrev pub ethertype_tree : Ethertype → Tree
ethertype_tree Ipv4 = word (codes "IPv4")
ethertype_tree Ipv6 = word (codes "IPv6")

-- what a packet carries
abbrev pub part_members : KeyPart → List NamedTree
part_members (part.Tcp sport dport) =
    (codes "dport", number dport) ∷ (codes "proto", word (codes "tcp"))
    ∷ (codes "sport", number sport) ∷ []
part_members (part.Udp sport dport) =
    (codes "dport", number dport) ∷ (codes "proto", word (codes "udp"))
    ∷ (codes "sport", number sport) ∷ []
part_members (part.EchoAsk id) =
    (codes "id", number id) ∷ (codes "proto", word (codes "echo_ask")) ∷ []
part_members (part.EchoReply id) =
    (codes "id", number id) ∷ (codes "proto", word (codes "echo_reply")) ∷ []
part_members (part.Proto n) =
    (codes "number", number n) ∷ (codes "proto", word (codes "other")) ∷ []

-- the kinds of packets, and of asks for addresses, by the version
abbrev pub packet_word : Ends → Text
packet_word (Ends4 from to) = codes "ip4"
packet_word (Ends6 from to) = codes "ip6"

abbrev pub ask_word : Ends → Text
ask_word (Ends4 from to) = codes "arp_ask"
ask_word (Ends6 from to) = codes "neigh_ask"

abbrev pub frame_members : Frame → List NamedTree
frame_members (Ip src dst ends ttl part) =
    (codes "dst", mac_tree dst) ∷ (codes "from", address_tree (source ends))
    ∷ (codes "kind", word (packet_word ends))
    ∷ (codes "src", mac_tree src) ∷ (codes "to", address_tree (destination ends))
    ∷ (codes "ttl", number ttl) ∷ part_members part
frame_members (NeighbourAsk src ends) =
    (codes "from", address_tree (source ends)) ∷ (codes "kind", word (ask_word ends))
    ∷ (codes "src", mac_tree src) ∷ (codes "to", address_tree (destination ends)) ∷ []
frame_members (Dhcp src from) =
    (codes "from", four_tree from) ∷ (codes "kind", word (codes "dhcp_ask"))
    ∷ (codes "src", mac_tree src) ∷ []
frame_members (Other src dst ethertype) =
    (codes "dst", mac_tree dst) ∷ (codes "ethertype", number ethertype)
    ∷ (codes "kind", word (codes "other"))
    ∷ (codes "src", mac_tree src) ∷ []

abbrev pub frame_tree : Frame → Tree
frame_tree frame = fields (frame_members frame)

-- a packet's protocol
abbrev pub kind_members : KeyKind → List NamedTree
kind_members Tcp = (codes "proto", word (codes "tcp")) ∷ []
kind_members Udp = (codes "proto", word (codes "udp")) ∷ []
kind_members EchoAsk = (codes "proto", word (codes "echo_ask")) ∷ []
kind_members EchoReply = (codes "proto", word (codes "echo_reply")) ∷ []
kind_members (Proto n) = (codes "number", number n) ∷ (codes "proto", word (codes "other")) ∷ []

abbrev pub key_members : Key → List NamedTree
key_members key =
    (codes "dport", number key.dport) ∷ (codes "from", address_tree (source key.ends))
    ∷ (codes "sport", number key.sport)
    ∷ (codes "to", address_tree (destination key.ends)) ∷ kind_members key.kind

abbrev pub key_tree : Key → Tree
key_tree key = fields (key_members key)

abbrev pub entry_tree : Entry → Tree
entry_tree (Flow port direction key) = fields (
    (codes "direction", direction_tree direction) ∷ (codes "key", key_tree key)
    ∷ (codes "kind", word (codes "flow"))
    ∷ (codes "port", id_tree port) ∷ [])
entry_tree (Snat router key outer outer_port) = fields (
    (codes "key", key_tree key) ∷ (codes "kind", word (codes "snat"))
    ∷ (codes "outer", four_tree outer)
    ∷ (codes "outer_port", number outer_port) ∷ (codes "router", id_tree router) ∷ [])
