-- What is printed of a security group and of a rule (Networking API reference, Show security
-- group; Show security group rule).
use Rattle.std.specs.Prelude.{ℕ, List, [], ◌∷◌, ◌==◌, Option, Some, None, codes, decimal, if◌then◌else◌}
use Rattle.std.specs.List.{filter}
use Rattle.std.specs.Option.{unwrap_or}
use Rattle.net_addr.specs.Words.{Text}
use Rattle.api_types.specs.Printed.{NamedTree, Tree, branches_of, number, object, word}
use Rattle.api_types.specs.RowLists.{RowLists}
use Rattle.api_types.specs.Table.{ident_eq}
use Rattle.api_types.specs.declared.group.Direction.{Direction}
use Rattle.api_types.specs.declared.group.Direction.TheVariants.{Egress, Ingress}
use Rattle.api_types.specs.declared.group.Ethertype.{Ethertype}
use Rattle.api_types.specs.declared.group.Ethertype.TheVariants.{Ipv4, Ipv6}
use Rattle.api_types.specs.declared.group.GroupRow.{GroupRow}
use Rattle.api_types.specs.declared.group.RuleRow.{RuleRow}
use Rattle.api_policy.specs.Trees.{id_word, list_of, null_or, prefix_word}

abbrev pub direction_word : Direction → Text
direction_word Ingress = codes "ingress"
direction_word Egress = codes "egress"

abbrev pub ethertype_word : Ethertype → Text
ethertype_word Ipv4 = codes "IPv4"
ethertype_word Ipv6 = codes "IPv6"

-- protocols with names (IANA, protocol numbers)
abbrev pub named_protocol : ℕ → Option Text
named_protocol n =
    if n == 1 then Some (codes "icmp")
    else if n == 2 then Some (codes "igmp") else if n == 6 then Some (codes "tcp")
    else if n == 17 then Some (codes "udp")
    else if n == 47 then Some (codes "gre") else if n == 50 then Some (codes "esp")
    else if n == 51 then Some (codes "ah")
    else if n == 58 then Some (codes "ipv6-icmp")
    else if n == 89 then Some (codes "ospf") else if n == 112 then Some (codes "vrrp")
    else if n == 132 then Some (codes "sctp") else None

-- a protocol is printed as its name, and otherwise as its number
unfoldable pub protocol_word : ℕ → Tree
protocol_word n = word (unwrap_or (named_protocol n) (decimal n))

-- in byte order of the names
abbrev pub rule_members : RuleRow → List NamedTree
rule_members r =
    (codes "description", word r.description)
    ∷ (codes "direction", word (direction_word r.direction))
    ∷ (codes "ethertype", word (ethertype_word r.ethertype))
    ∷ (codes "id", id_word r.id)
    ∷ (codes "port_range_max", null_or number r.high)
    ∷ (codes "port_range_min", null_or number r.low)
    ∷ (codes "project_id", word r.project)
    ∷ (codes "protocol", null_or protocol_word r.protocol)
    ∷ (codes "remote_group_id", null_or id_word r.remote_group)
    ∷ (codes "remote_ip_prefix", null_or prefix_word r.remote_prefix)
    ∷ (codes "security_group_id", id_word r.group)
    ∷ (codes "tenant_id", word r.project)
    ∷ []

abbrev pub rule_object : RuleRow → Tree
rule_object r = object (branches_of (rule_members r))

abbrev pub rules_of : List RuleRow → GroupRow → List RuleRow
rules_of rules g = filter (λ (r : RuleRow). ident_eq g.id r.group) rules

abbrev pub group_members : RowLists → GroupRow → List NamedTree
group_members rows g =
    (codes "description", word g.description)
    ∷ (codes "id", id_word g.id)
    ∷ (codes "name", word g.name)
    ∷ (codes "project_id", word g.project)
    ∷ (codes "security_group_rules", list_of rule_object (rules_of rows.rules g))
    ∷ (codes "tenant_id", word g.project)
    ∷ []
