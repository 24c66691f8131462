-- What is refused of calls on ports, part by part, and by what a port's addresses are chosen.
use Rattle.api_ipam.specs.Euis.{fits_eui}
use Rattle.api_ipam.specs.FixedChoice.{first_addresses, first_known, is_in, named_subnets, next_addresses, next_known, old_renewed}
use Rattle.api_policy.specs.Permits.{admin_only, network_access, network_owner, owner_only}
use Rattle.api_policy.specs.Quotas.{over_quota}
use Rattle.api_policy.specs.Uses.{service_in_use}
use Rattle.api_types.specs.Given.{value_or}
use Rattle.api_types.specs.HeldAddresses.{is_address_held, is_held_by_other, is_mac_held, is_mac_of_other, subnets_on}
use Rattle.api_types.specs.Ident.{Ident}
use Rattle.api_types.specs.Lists.{Pass}
use Rattle.api_types.specs.Outcome.{Outcome}
use Rattle.api_types.specs.Refusing.{first_refusal, needing, when}
use Rattle.api_types.specs.Registration.{drawn_id}
use Rattle.api_types.specs.RowLists.{RowLists}
use Rattle.api_types.specs.declared.call.Caller.{Caller}
use Rattle.api_types.specs.declared.form.PortForm.{PortForm}
use Rattle.api_types.specs.declared.kind.Kind.TheVariants.{Group as GroupKind, Port as PortKind, Subnet as SubnetKind}
use Rattle.api_types.specs.declared.network.NetworkRow.{NetworkRow}
use Rattle.api_types.specs.declared.port.Fixed.{Fixed}
use Rattle.api_types.specs.declared.port.PortRow.{PortRow}
use Rattle.api_types.specs.declared.refusal.Refusal.TheVariants.{CountersSpent, Invalid}
use Rattle.api_types.specs.declared.refusal.Refusal.{Refusal}
use Rattle.api_types.specs.declared.subnet.SubnetRow.{SubnetRow}
use Rattle.call_parts.specs.BodyNames.{unless_all}
use Rattle.call_parts.specs.State.{State, drawing_at}
use Rattle.net_addr.specs.declared.address.Addr.{Addr}
use Rattle.net_settings.specs.Settings.{SettingsParts}
use Rattle.plan_ports.specs.PortCalls.{bad_bare_after, changes_service, is_group_for, items_of, mac_after, new_port, port_added, values_taken}
use Rattle.plan_ports.specs.PortRules.{bad_fixed, is_subnet_seen}
use Rattle.plan_ports.specs.declared.supply.Supply.{Supply}
use Rattle.std.specs.Prelude.{Bool, List, Option, [], codes, not, ◌&&◌, ◌∷◌, ◌≡◌}
use Rattle.net_addr.specs.Words.{MacAddress, Text}
use Rattle.api_policy.specs.Reserved.{port_for_admin, port_for_owner}

-- groups and pairs of a port without port security, by whether there are none
abbrev pub bare_refusal : Bool → Bool → Bool → Option Refusal
bare_refusal secured no_groups no_pairs = first_refusal (
    when (not secured && not no_groups) (Invalid (codes "security_groups"))
    ∷ when (not secured && not no_pairs) (Invalid (codes "allowed_address_pairs"))
    ∷ [])

-- making a port

-- the groups that it names, and what the rules of policy forbid on the network
abbrev pub standing_refusal : RowLists → Caller → PortForm → NetworkRow → Text → Option Refusal
standing_refusal rows caller form n owner = first_refusal (
    unless_all GroupKind (is_group_for rows caller owner) (value_or [] form.security_groups)
    ∷ admin_only caller (port_for_admin caller form)
    ∷ network_owner rows caller (port_for_owner form) n.id
    ∷ network_access rows caller n.id
    ∷ [])

-- a value of it that is held, by what its addresses are chosen
abbrev pub first_taken : RowLists → PortForm → Ident → Supply → Option Refusal
first_taken rows form network s =
    values_taken (is_in s.held) (is_mac_held rows.ports network) network
    (first_known s.subnets s.mac form.fixed_ips) form

abbrev pub first_refused : SettingsParts → RowLists → Caller → PortForm → NetworkRow → Text
    → Supply → Option Refusal
first_refused settings rows caller form n owner s = first_refusal (
    standing_refusal rows caller form n owner
    ∷ first_taken rows form n.id s
    ∷ over_quota settings rows owner PortKind
    ∷ [])

abbrev pub first_fixed : PortForm → Supply → Option (List Fixed)
first_fixed form s = first_addresses (λ x. not (is_in s.held x)) s.subnets s.mac form.fixed_ips

-- where it goes on once its MAC address and its addresses are chosen
abbrev pub ids_drawn : SettingsParts → State → Caller → PortForm → NetworkRow → Text → MacAddress
    → List Fixed → Outcome
ids_drawn settings state caller form n owner mac fixed =
    needing CountersSpent (drawing_at state owner 1) (λ d.
    port_added caller d.rows
    (new_port settings d.rows caller form n owner (drawn_id d 0) mac fixed))

-- changing a port

-- the rules of its attributes, and the rows that it names
abbrev pub next_bad : RowLists → Caller → PortForm → PortRow → Supply → Option Refusal
next_bad rows caller form p s =
    bad_fixed rows caller s.subnets s.mac (old_renewed s.subnets p s.mac) (items_of form)

abbrev pub change_refusal : RowLists → Caller → PortForm → PortRow → Supply → Option Refusal
change_refusal rows caller form p s = first_refusal (
    next_bad rows caller form p s
    ∷ bad_bare_after form p
    ∷ unless_all SubnetKind (is_subnet_seen rows caller) (named_subnets (items_of form))
    ∷ unless_all GroupKind (is_group_for rows caller p.project) (value_or [] form.security_groups)
    ∷ [])

-- what the rules of policy forbid, and a service's port
abbrev pub holder_refusal : RowLists → Caller → PortForm → PortRow → Option Refusal
holder_refusal rows caller form p = first_refusal (
    admin_only caller (port_for_admin caller form)
    ∷ owner_only caller p.project
    ∷ network_owner rows caller (port_for_owner form) p.network
    ∷ service_in_use rows caller (changes_service form) p
    ∷ [])

-- a value of it that another port holds
abbrev pub next_taken : RowLists → PortForm → PortRow → Supply → Option Refusal
next_taken rows form p s =
    values_taken (is_in s.held) (is_mac_of_other rows.ports p) p.network
    (next_known s.subnets p s.mac form.fixed_ips) form

abbrev pub next_refused : RowLists → Caller → PortForm → PortRow → Supply → Option Refusal
next_refused rows caller form p s = first_refusal (
    change_refusal rows caller form p s
    ∷ holder_refusal rows caller form p
    ∷ next_taken rows form p s
    ∷ [])

abbrev pub next_fixed : PortForm → PortRow → Supply → Option (List Fixed)
next_fixed form p s = next_addresses (λ x. not (is_in s.held x)) s.subnets p s.mac form.fixed_ips

-- by what addresses are chosen: these subnets, in which addresses of MAC addresses fit, the
-- addresses that others hold, and the MAC address
pub record IsSupply (subnets : List SubnetRow) (is_held : Addr → Bool) (mac : MacAddress)
    (s : Supply) : Type 0 where
  pub on_network : s.subnets ≡ subnets
  pub holds : (x : Addr) → is_in s.held x ≡ is_held x
  pub has : s.mac ≡ mac
  pub fit : Pass fits_eui s.subnets

-- of a new port with this MAC address
abbrev pub IsFirstSupply : RowLists → Ident → MacAddress → Supply → Type 0
IsFirstSupply rows network mac s =
    IsSupply (subnets_on rows.subnets network) (is_address_held rows.ports network) mac s

-- of a port that is changed
abbrev pub IsNextSupply : RowLists → PortForm → PortRow → Supply → Type 0
IsNextSupply rows form p s =
    IsSupply (subnets_on rows.subnets p.network) (is_held_by_other rows.ports p) (mac_after form p)
    s
