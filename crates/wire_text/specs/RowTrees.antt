-- The members of each row: its fields, in byte order of their names.
use Rattle.std.specs.Prelude.{[], ◌∷◌, map, codes}
use Rattle.api_types.specs.Printed.{Tree, number, truth, word}
use Rattle.api_types.specs.declared.kind.Row.{Row}
use Rattle.api_types.specs.declared.kind.Row.TheVariants.{Project, Network, Subnet, Port, Group, Rule, Router, Floating, Policy}
use Rattle.api_types.specs.declared.project.ProjectRow.{ProjectRow}
use Rattle.api_types.specs.declared.network.NetworkRow.{NetworkRow}
use Rattle.api_types.specs.declared.subnet.SubnetRow.{SubnetRow}
use Rattle.api_types.specs.declared.port.PortRow.{PortRow}
use Rattle.api_types.specs.declared.group.GroupRow.{GroupRow}
use Rattle.api_types.specs.declared.group.RuleRow.{RuleRow}
use Rattle.api_types.specs.declared.router.RouterRow.{RouterRow}
use Rattle.api_types.specs.declared.floating.FloatingRow.{FloatingRow}
use Rattle.api_types.specs.declared.policy.PolicyRow.{PolicyRow}
use Rattle.json_trees.specs.Words.{address_tree, four_tree, id_tree, mac_tree, prefix_tree}
use Rattle.json_trees.specs.Printed.{fields, list, or_null}
use Rattle.wire_text.specs.Parts.{fixed_tree, gateway_tree, hop_tree, mode_tree, pair_tree, segment_tree, span_tree, target_tree}
use Rattle.wire_text.specs.VariantNames.{action_name, direction_name, ethertype_name, vif_name}

abbrev pub project_tree : ProjectRow → Tree
project_tree r = fields (
    (codes "count", number r.count) ∷ (codes "name", word r.name)
    ∷ (codes "ordinal", number r.ordinal) ∷ [])

abbrev pub network_tree : NetworkRow → Tree
network_tree r = fields (
    (codes "description", word r.description) ∷ (codes "id", id_tree r.id)
    ∷ (codes "name", word r.name) ∷ (codes "project", word r.project)
    ∷ (codes "segment", segment_tree r.segment) ∷ (codes "up", truth r.up) ∷ [])

abbrev pub subnet_tree : SubnetRow → Tree
subnet_tree r = fields (
    (codes "address_mode", or_null mode_tree r.address_mode)
    ∷ (codes "description", word r.description) ∷ (codes "dhcp", truth r.dhcp)
    ∷ (codes "dns", list (map address_tree r.dns))
    ∷ (codes "gateway", or_null address_tree r.gateway)
    ∷ (codes "host_routes", list (map hop_tree r.host_routes)) ∷ (codes "id", id_tree r.id)
    ∷ (codes "name", word r.name) ∷ (codes "network", id_tree r.network)
    ∷ (codes "pools", list (map span_tree r.pools)) ∷ (codes "prefix", prefix_tree r.prefix)
    ∷ (codes "project", word r.project) ∷ (codes "ra_mode", or_null mode_tree r.ra_mode) ∷ [])

abbrev pub port_tree : PortRow → Tree
port_tree r = fields (
    (codes "by_admin", truth r.by_admin) ∷ (codes "description", word r.description)
    ∷ (codes "device", word r.device) ∷ (codes "fixed", list (map fixed_tree r.fixed))
    ∷ (codes "groups", list (map id_tree r.groups)) ∷ (codes "host", word r.host)
    ∷ (codes "id", id_tree r.id) ∷ (codes "mac", mac_tree r.mac) ∷ (codes "name", word r.name)
    ∷ (codes "network", id_tree r.network) ∷ (codes "owner", word r.owner)
    ∷ (codes "pairs", list (map pair_tree r.pairs)) ∷ (codes "project", word r.project)
    ∷ (codes "secured", truth r.secured) ∷ (codes "up", truth r.up)
    ∷ (codes "vif", word (vif_name r.vif)) ∷ [])

abbrev pub group_tree : GroupRow → Tree
group_tree r = fields (
    (codes "description", word r.description) ∷ (codes "id", id_tree r.id)
    ∷ (codes "is_default", truth r.is_default) ∷ (codes "name", word r.name)
    ∷ (codes "project", word r.project) ∷ [])

abbrev pub rule_tree : RuleRow → Tree
rule_tree r = fields (
    (codes "description", word r.description)
    ∷ (codes "direction", word (direction_name r.direction))
    ∷ (codes "ethertype", word (ethertype_name r.ethertype)) ∷ (codes "group", id_tree r.group)
    ∷ (codes "high", or_null number r.high) ∷ (codes "id", id_tree r.id)
    ∷ (codes "low", or_null number r.low) ∷ (codes "project", word r.project)
    ∷ (codes "protocol", or_null number r.protocol)
    ∷ (codes "remote_group", or_null id_tree r.remote_group)
    ∷ (codes "remote_prefix", or_null prefix_tree r.remote_prefix) ∷ [])

abbrev pub router_tree : RouterRow → Tree
router_tree r = fields (
    (codes "description", word r.description) ∷ (codes "gateway", or_null gateway_tree r.gateway)
    ∷ (codes "host", or_null word r.host) ∷ (codes "id", id_tree r.id)
    ∷ (codes "name", word r.name) ∷ (codes "project", word r.project)
    ∷ (codes "routes", list (map hop_tree r.routes)) ∷ (codes "up", truth r.up) ∷ [])

abbrev pub floating_tree : FloatingRow → Tree
floating_tree r = fields (
    (codes "address", four_tree r.address) ∷ (codes "description", word r.description)
    ∷ (codes "id", id_tree r.id) ∷ (codes "network", id_tree r.network)
    ∷ (codes "own_port", id_tree r.own_port) ∷ (codes "project", word r.project)
    ∷ (codes "target", or_null target_tree r.target) ∷ [])

abbrev pub policy_tree : PolicyRow → Tree
policy_tree r = fields (
    (codes "action", word (action_name r.action)) ∷ (codes "id", id_tree r.id)
    ∷ (codes "object", id_tree r.object) ∷ (codes "project", word r.project)
    ∷ (codes "target", word r.target) ∷ [])

abbrev pub row_tree : Row → Tree
row_tree (Project r) = project_tree r
row_tree (Network r) = network_tree r
row_tree (Subnet r) = subnet_tree r
row_tree (Port r) = port_tree r
row_tree (Group r) = group_tree r
row_tree (Rule r) = rule_tree r
row_tree (Router r) = router_tree r
row_tree (Floating r) = floating_tree r
row_tree (Policy r) = policy_tree r
