-- What is printed of a port (Networking API reference, Show port details; extended attributes of
-- bindings and port security).
use Rattle.std.specs.Prelude.{List, [], ◌∷◌, Bool, codes, if◌then◌else◌}
use Rattle.net_addr.specs.Words.{Text}
use Rattle.api_types.specs.Printed.{NamedTree, truth, word}
use Rattle.api_types.specs.RowLists.{RowLists}
use Rattle.api_types.specs.declared.port.PortRow.{PortRow}
use Rattle.api_types.specs.declared.port.Vif.{Vif}
use Rattle.api_types.specs.declared.port.Vif.TheVariants.{Failed, Ovs, Unbound}
use Rattle.api_types.specs.Live.{is_live}
use Rattle.api_policy.specs.Trees.{fixed_object, id_word, list_of, mac_word, pair_object}

abbrev pub vif_word : Vif → Text
vif_word Unbound = codes "unbound"
vif_word Failed = codes "binding_failed"
vif_word Ovs = codes "ovs"

abbrev pub status_word : Bool → Text
status_word active = if active then codes "ACTIVE" else codes "DOWN"

-- in byte order of the names
abbrev pub port_members : RowLists → PortRow → List NamedTree
port_members rows p =
    (codes "admin_state_up", truth p.up)
    ∷ (codes "allowed_address_pairs", list_of pair_object p.pairs)
    ∷ (codes "binding:host_id", word p.host)
    ∷ (codes "binding:vif_type", word (vif_word p.vif))
    ∷ (codes "binding:vnic_type", word (codes "normal"))
    ∷ (codes "description", word p.description)
    ∷ (codes "device_id", word p.device)
    ∷ (codes "device_owner", word p.owner)
    ∷ (codes "fixed_ips", list_of fixed_object p.fixed)
    ∷ (codes "id", id_word p.id)
    ∷ (codes "mac_address", mac_word p.mac)
    ∷ (codes "name", word p.name)
    ∷ (codes "network_id", id_word p.network)
    ∷ (codes "port_security_enabled", truth p.secured)
    ∷ (codes "project_id", word p.project)
    ∷ (codes "security_groups", list_of id_word p.groups)
    ∷ (codes "status", word (status_word (is_live rows p)))
    ∷ (codes "tenant_id", word p.project)
    ∷ []
