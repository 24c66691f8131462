-- What a tenant is shown of a network doesn't tell its segment; what it is shown of a port tells its network's state alone, and of its
-- host and binding whether it is bound.
use Rattle.std.proofs.Common.{◌≡◌, List, ◌∷◌, Bool, false, Option, Some, None, refl, ap, sym, ◌∙◌, ℕ, []}
use Rattle.std.specs.Prelude.{◌&&◌, codes, option_map}
use Rattle.api_types.specs.Consistent.Carried.{is_bound}
use Rattle.api_types.specs.Ident.{Ident}
use Rattle.api_types.specs.Printed.{NamedTree, truth, word}
use Rattle.api_types.specs.RowLists.{RowLists}
use Rattle.api_types.specs.Table.{row_of}
use Rattle.api_types.specs.declared.call.Caller.{Caller}
use Rattle.api_types.specs.declared.kind.Kind.TheVariants.{Network as NetworkKind, Port as PortKind}
use Rattle.api_types.specs.declared.network.NetworkRow.{NetworkRow}
use Rattle.api_types.specs.declared.policy.Action.TheVariants.{External, Shared}
use Rattle.api_types.specs.declared.port.PortRow.{PortRow}
use Rattle.api_types.specs.Live.{is_live, network_up}
use Rattle.api_policy.specs.Networks.{is_open, network_members, number_of, physical_of, subnets_of, type_word}
use Rattle.api_policy.specs.Ports.{port_members, status_word, vif_word}
use Rattle.api_policy.specs.Shown.{shown_as}
use Rattle.api_policy.specs.Trees.{fixed_object, id_word, list_of, mac_word, pair_object}
use Rattle.apart_laws.specs.Footing.{blank, blank_port}
use Rattle.apart_laws.proofs.FootingLemmas.{network_id}

-- networks

-- the printed members follow from the row and three facts
abbrev pub network_printed : NetworkRow → Bool → Bool → List Ident → List NamedTree
network_printed n external shared subnets =
    (codes "admin_state_up", truth n.up)
    ∷ (codes "description", word n.description)
    ∷ (codes "id", id_word n.id)
    ∷ (codes "name", word n.name)
    ∷ (codes "project_id", word n.project)
    ∷ (codes "provider:network_type", word (type_word n.segment))
    ∷ (codes "provider:physical_network", physical_of n.segment)
    ∷ (codes "provider:segmentation_id", number_of n.segment)
    ∷ (codes "router:external", truth external)
    ∷ (codes "shared", truth shared)
    ∷ (codes "status", word (codes "ACTIVE"))
    ∷ (codes "subnets", list_of id_word subnets)
    ∷ (codes "tenant_id", word n.project)
    ∷ []

-- tenants are told none of the provider members
pub shown_blank : (fields : List (List ℕ)) (n : NetworkRow) (external shared : Bool) (subnets : List Ident)
    → shown_as NetworkKind false fields (network_printed n external shared subnets) ≡ shown_as NetworkKind false fields (network_printed (blank n) external shared subnets)
shown_blank fields n external shared subnets = refl

pub network_shown_alike : (rows other : RowLists) (caller : Caller) (n m : NetworkRow) (fields : List (List ℕ)) → caller.admin ≡ false → blank n ≡ blank m
    → is_open rows.policies n.id External ≡ is_open other.policies m.id External → is_open rows.policies n.id Shared ≡ is_open other.policies m.id Shared
    → subnets_of rows caller n.id ≡ subnets_of other caller m.id → shown_as NetworkKind caller.admin fields (network_members rows caller n) ≡ shown_as NetworkKind caller.admin fields (network_members other caller m)
network_shown_alike rows other caller n m fields tenant alike external shared subnets =
    ap (λ b. shown_as NetworkKind b fields (network_members rows caller n)) tenant
    ∙ (shown_blank fields n (is_open rows.policies n.id External) (is_open rows.policies n.id Shared) (subnets_of rows caller n.id)
    ∙ ((λ j. shown_as NetworkKind false fields (network_printed (alike j) (external j) (shared j) (subnets j)))
    ∙ (sym (shown_blank fields m (is_open other.policies m.id External) (is_open other.policies m.id Shared) (subnets_of other caller m.id))
    ∙ ap (λ b. shown_as NetworkKind b fields (network_members other caller m)) (sym tenant))))

-- ports

abbrev pub port_printed : PortRow → Bool → List NamedTree
port_printed p live =
    (codes "admin_state_up", truth p.up)
    ∷ (codes "allowed_address_pairs", list_of pair_object p.pairs)
    ∷ (codes "binding:host_id", word p.host)
    ∷ (codes "binding:vif_type", word (vif_word p.vif))
    ∷ (codes "binding:vnic_type", word (codes "normal"))
    ∷ (codes "description", word p.description)
    ∷ (codes "device_id", word p.device)
    ∷ (codes "device_owner", word p.owner)
    ∷ (codes "fixed_ips", list_of fixed_object p.fixed)
    ∷ (codes "id", id_word p.id)
    ∷ (codes "mac_address", mac_word p.mac)
    ∷ (codes "name", word p.name)
    ∷ (codes "network_id", id_word p.network)
    ∷ (codes "port_security_enabled", truth p.secured)
    ∷ (codes "project_id", word p.project)
    ∷ (codes "security_groups", list_of id_word p.groups)
    ∷ (codes "status", word (status_word live))
    ∷ (codes "tenant_id", word p.project)
    ∷ []

abbrev pub is_up : Option Bool → Bool
is_up None = false
is_up (Some up) = up

-- whether a network is up, where it is there
abbrev pub up_at : Ident → List NetworkRow → Option Bool
up_at i networks = option_map (λ (n : NetworkRow). n.up) (row_of network_id i networks)

pub up_of : (o : Option NetworkRow) → network_up o ≡ is_up (option_map (λ (n : NetworkRow). n.up) o)
up_of None = refl
up_of (Some n) = refl

pub live_by : (rows : RowLists) (p : PortRow)
    → is_live rows p ≡ p.up && is_bound p.vif && is_up (up_at p.network rows.networks)
unfolding is_live
live_by rows p = ap (λ b. p.up && is_bound p.vif && b) (up_of (row_of network_id p.network rows.networks))

-- tenants are told neither the host nor the binding
pub shown_blank_port : (fields : List (List ℕ)) (p : PortRow) (live : Bool)
    → shown_as PortKind false fields (port_printed p live) ≡ shown_as PortKind false fields (port_printed (blank_port p) live)
shown_blank_port fields p live = refl

pub port_shown_alike : (rows other : RowLists) (caller : Caller) (p q : PortRow) (fields : List (List ℕ)) → caller.admin ≡ false → blank_port p ≡ blank_port q
    → is_bound p.vif ≡ is_bound q.vif → up_at p.network rows.networks ≡ up_at q.network other.networks
    → shown_as PortKind caller.admin fields (port_members rows p) ≡ shown_as PortKind caller.admin fields (port_members other q)
port_shown_alike rows other caller p q fields tenant alike bound up =
    ap (λ b. shown_as PortKind b fields (port_members rows p)) tenant
    ∙ (ap (λ live. shown_as PortKind false fields (port_printed p live)) (live_by rows p)
    ∙ (shown_blank_port fields p (p.up && is_bound p.vif && is_up (up_at p.network rows.networks))
    ∙ ((λ j. shown_as PortKind false fields (port_printed (alike j) ((alike j).up && bound j && is_up (up j))))
    ∙ (sym (shown_blank_port fields q (q.up && is_bound q.vif && is_up (up_at q.network other.networks)))
    ∙ (ap (λ live. shown_as PortKind false fields (port_printed q live)) (sym (live_by other q))
    ∙ ap (λ b. shown_as PortKind b fields (port_members other q)) (sym tenant))))))
