-- What the reading of heads and bodies has made sure of, attribute by attribute, before a call is
-- looked at by what it asks: tests, and what the types of values say.
use Rattle.api_types.specs.Given.{value_or}
use Rattle.api_types.specs.Consistent.InForm.{all_apart, longest_of}
use Rattle.api_types.specs.Lists.{if_some, is_empty}
use Rattle.api_types.specs.declared.call.Call.TheVariants.{List as ListCall, Show, Create, Update, Delete, AddInterface, RemoveInterface}
use Rattle.api_types.specs.declared.call.Call.{Call}
use Rattle.api_types.specs.declared.call.Caller.{Caller}
use Rattle.api_types.specs.declared.form.FixedAsked.{FixedAsked}
use Rattle.api_types.specs.declared.form.Form.TheVariants.{Network as NetworkOf, Subnet as SubnetOf, Port as PortOf, Group as GroupOf, Rule as RuleOf, Router as RouterOf, Floating as FloatingOf, Policy as PolicyOf}
use Rattle.api_types.specs.declared.form.Form.{Form}
use Rattle.api_types.specs.declared.form.Given.TheVariants.{Absent, Is, Null}
use Rattle.api_types.specs.declared.form.Given.{Given}
use Rattle.api_types.specs.declared.form.NetworkForm.{NetworkForm}
use Rattle.api_types.specs.declared.form.PairAsked.{PairAsked}
use Rattle.api_types.specs.declared.form.PortForm.{PortForm}
use Rattle.api_types.specs.declared.form.RouterForm.{RouterForm}
use Rattle.api_types.specs.declared.form.SubnetForm.{SubnetForm}
use Rattle.api_types.specs.declared.subnet.Hop.{Hop}
use Rattle.net_addr.specs.Addresses.{same_version}
use Rattle.net_addr.specs.Macs.{is_unicast}
use Rattle.net_addr.specs.Prefixes.{IsPrefix, Prefix}
use Rattle.call_parts.specs.Typed.{IfGiven}
use Rattle.std.specs.List.{list_all}
use Rattle.std.specs.Prelude.{Bool, List, [], bytes_eq, codes, false, is_some, length, nat_le, not, take, true, ℕ, ⊤, ◌&&◌, ◌<◌, ◌^◌, ◌||◌, ◌≡◌}
use Rattle.net_addr.specs.Words.{Text}

-- whether a value that is given passes a test
abbrev pub if_value : {T : Type 0} → (T → Bool) → Given T → Bool
if_value test Absent = true
if_value test Null = true
if_value test (Is x) = test x

-- a value is there, and isn't null
abbrev pub is_there : {T : Type 0} → Given T → Bool
is_there Absent = false
is_there Null = false
is_there (Is x) = true

-- null isn't given
abbrev pub not_null : {T : Type 0} → Given T → Bool
not_null Absent = true
not_null Null = false
not_null (Is x) = true

-- no project's name is empty
abbrev pub is_owner : Given Text → Bool
is_owner owner = not_null owner && if_value (λ name. not (is_empty name)) owner

abbrev pub are_owners : Given Text → Given Text → Bool
are_owners project tenant = is_owner project && is_owner tenant

abbrev pub is_few : {T : Type 0} → ℕ → Given (List T) → Bool
is_few most list = not_null list && if_value (λ xs. nat_le (length xs) most) list

-- a route's destination and next hop are of one version
abbrev pub is_hop : Hop → Bool
is_hop h = same_version h.destination.base h.next

abbrev pub are_hops : Given (List Hop) → Bool
are_hops hops = if_value (list_all is_hop) hops

-- a subnet's prefix has 1 to 30 bits, or 1 to 126 of version 6
abbrev pub is_cidr : Prefix → Bool
is_cidr p = nat_le 1 p.len && nat_le p.len (longest_of p.base)

-- a port's address is named or is of a named subnet
abbrev pub is_item : FixedAsked → Bool
is_item item = is_some item.address || is_some item.subnet

abbrev pub is_pair : PairAsked → Bool
is_pair pair = if_some is_unicast pair.mac

abbrev pub is_no_service : Text → Bool
is_no_service owner = not (bytes_eq (take 8 owner) (codes "network:"))

abbrev pub is_network_body : NetworkForm → Bool
is_network_body form =
    are_owners form.project_id form.tenant_id
    && if_value (λ n. nat_le 1 n && nat_le n 16777215) form.provider_segmentation_id

abbrev pub is_subnet_body : SubnetForm → Bool
is_subnet_body form =
    if_value is_cidr form.cidr && all_apart (value_or [] form.allocation_pools)
    && is_few 20 form.allocation_pools
    && is_few 5 form.dns_nameservers && is_few 20 form.host_routes && are_hops form.host_routes
    && not_null form.enable_dhcp

abbrev pub is_port_body : PortForm → Bool
is_port_body form =
    are_owners form.project_id form.tenant_id && not_null form.mac_address
    && if_value is_unicast form.mac_address
    && is_few 5 form.fixed_ips && if_value (list_all is_item) form.fixed_ips
    && is_few 10 form.allowed_address_pairs
    && if_value (list_all is_pair) form.allowed_address_pairs
    && is_few 20 form.security_groups && if_value is_no_service form.device_owner

abbrev pub is_router_body : RouterForm → Bool
is_router_body form =
    are_owners form.project_id form.tenant_id && is_few 30 form.routes && are_hops form.routes

-- what a new row has to have
abbrev pub has_needed : Form → Bool
has_needed (NetworkOf form) = true
has_needed (SubnetOf form) =
    is_there form.network_id && is_there form.ip_version && is_there form.cidr
has_needed (PortOf form) = is_there form.network_id
has_needed (GroupOf form) = true
has_needed (RuleOf form) = is_there form.security_group_id && is_there form.direction
has_needed (RouterOf form) = true
has_needed (FloatingOf form) = is_there form.floating_network_id
has_needed (PolicyOf form) =
    is_there form.object_type && is_there form.object_id && is_there form.action
    && is_there form.target_tenant

abbrev pub is_form : Form → Bool
is_form (NetworkOf form) = is_network_body form
is_form (SubnetOf form) = is_subnet_body form
is_form (PortOf form) = is_port_body form
is_form (GroupOf form) = are_owners form.project_id form.tenant_id
is_form (RuleOf form) = true
is_form (RouterOf form) = is_router_body form
is_form (FloatingOf form) = are_owners form.project_id form.tenant_id
is_form (PolicyOf form) = are_owners form.project_id form.tenant_id

abbrev pub is_call : Call → Bool
is_call (ListCall kind query) = true
is_call (Show kind name fields) = true
is_call (Create form) = has_needed form && is_form form
is_call (Update name form) = is_form form
is_call (Delete kind name) = true
is_call (AddInterface router by) = true
is_call (RemoveInterface router by) = true

-- the caller's project has a name too
abbrev pub IsFormed : Caller → Call → Type 0
IsFormed caller call = not (is_empty caller.project) && is_call call ≡ true

-- what types say of a body: a prefix has no bits after its length, a MAC address has 48 bits
abbrev pub IsTypedForm : Form → Type 0
IsTypedForm (SubnetOf form) = IfGiven IsPrefix form.cidr
IsTypedForm (PortOf form) = IfGiven (λ mac. mac < 2 ^ 48) form.mac_address
IsTypedForm (NetworkOf form) = ⊤
IsTypedForm (GroupOf form) = ⊤
IsTypedForm (RuleOf form) = ⊤
IsTypedForm (RouterOf form) = ⊤
IsTypedForm (FloatingOf form) = ⊤
IsTypedForm (PolicyOf form) = ⊤

abbrev pub IsTypedCall : Call → Type 0
IsTypedCall (ListCall kind query) = ⊤
IsTypedCall (Show kind name fields) = ⊤
IsTypedCall (Create form) = IsTypedForm form
IsTypedCall (Update name form) = IsTypedForm form
IsTypedCall (Delete kind name) = ⊤
IsTypedCall (AddInterface router by) = ⊤
IsTypedCall (RemoveInterface router by) = ⊤

pub record IsInForm (caller : Caller) (call : Call) : Type 0 where
  pub formed : IsFormed caller call
  pub typed : IsTypedCall call
