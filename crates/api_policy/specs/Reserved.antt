-- What bodies ask for that is for administrators alone, or for the owner of a network (Neutron's
-- default policies of attributes).
use Rattle.api_types.specs.Given.{is_for_other, is_given, value_of, value_or}
use Rattle.api_types.specs.Lists.{is_empty}
use Rattle.api_types.specs.Sharing.{everyone, is_action}
use Rattle.api_types.specs.declared.call.Caller.{Caller}
use Rattle.api_types.specs.declared.form.FixedAsked.{FixedAsked}
use Rattle.api_types.specs.declared.form.FloatingForm.{FloatingForm}
use Rattle.api_types.specs.declared.form.GatewayAsked.{GatewayAsked}
use Rattle.api_types.specs.declared.form.NetworkForm.{NetworkForm}
use Rattle.api_types.specs.declared.form.PolicyForm.{PolicyForm}
use Rattle.api_types.specs.declared.form.PortForm.{PortForm}
use Rattle.api_types.specs.declared.form.RouterForm.{RouterForm}
use Rattle.api_types.specs.declared.policy.Action.TheVariants.{External, Shared}
use Rattle.std.specs.List.{filter_map}
use Rattle.std.specs.Prelude.{Bool, Option, [], bytes_eq, is_some, not, option_and_then, ◌||◌}

-- sharing, and how the network is carried
abbrev pub network_for_admin : Caller → NetworkForm → Bool
network_for_admin caller form =
    is_given form.shared || is_given form.router_external || is_given form.provider_network_type
    || is_given form.provider_physical_network
    || is_given form.provider_segmentation_id || is_for_other caller form.project_id form.tenant_id

-- the host
abbrev pub port_for_admin : Caller → PortForm → Bool
port_for_admin caller form =
    is_given form.binding_host_id || is_for_other caller form.project_id form.tenant_id

-- a MAC address, pairs, port security or an address of one's choice
abbrev pub port_for_owner : PortForm → Bool
port_for_owner form =
    is_given form.mac_address || is_given form.allowed_address_pairs
    || is_given form.port_security_enabled
    || not
    (is_empty (filter_map (λ (item : FixedAsked). item.address) (value_or [] form.fixed_ips)))

-- whether sources are translated
abbrev pub snat_asked : RouterForm → Option Bool
snat_asked form =
    option_and_then (λ (a : GatewayAsked). a.snat) (value_of form.external_gateway_info)

abbrev pub router_for_admin : Caller → RouterForm → Bool
router_for_admin caller form =
    is_some (snat_asked form) || is_for_other caller form.project_id form.tenant_id

-- an address of one's choice
abbrev pub floating_for_admin : Caller → FloatingForm → Bool
floating_for_admin caller form =
    is_given form.floating_ip_address || is_for_other caller form.project_id form.tenant_id

-- the target `*`, and external networks
abbrev pub is_for_all : PolicyForm → Bool
is_for_all form = bytes_eq (value_or [] form.target_tenant) everyone

abbrev pub policy_for_admin : Caller → PolicyForm → Bool
policy_for_admin caller form =
    is_for_all form || is_action External (value_or Shared form.action)
    || is_for_other caller form.project_id form.tenant_id
