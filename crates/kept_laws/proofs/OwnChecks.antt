-- What the checks that calls share refuse, the machine refuses of itself.
use Rattle.std.proofs.Common.{◌≡◌, List, Bool, true, Option, arith, ℕ}
use Rattle.api_ml2.specs.Segments.{segment_in_use}
use Rattle.api_policy.specs.Permits.{admin_only, network_access, network_owner, owner_only, port_delete}
use Rattle.api_policy.specs.Quotas.{over_limit, over_quota}
use Rattle.api_policy.specs.Uses.{aim_in_use, default_in_use, floating_in_use, gateway_in_use, gateway_use, group_in_use, needed_by, network_in_use, old_gateway_in_use, open_in_use, policy_in_use, port_in_use, route_in_use, router_in_use, service_in_use, subnet_in_use}
use Rattle.api_types.specs.Association.{Aim}
use Rattle.api_types.specs.HeldAddresses.{address_taken}
use Rattle.api_types.specs.Ident.{Ident}
use Rattle.api_types.specs.RowLists.{RowLists}
use Rattle.api_types.specs.declared.call.Caller.{Caller}
use Rattle.api_types.specs.declared.floating.FloatingRow.{FloatingRow}
use Rattle.api_types.specs.declared.group.GroupRow.{GroupRow}
use Rattle.api_types.specs.declared.kind.Kind.{Kind}
use Rattle.api_types.specs.declared.network.NetworkRow.{NetworkRow}
use Rattle.api_types.specs.declared.network.Segment.{Segment}
use Rattle.api_types.specs.declared.policy.PolicyRow.{PolicyRow}
use Rattle.api_types.specs.declared.port.PortRow.{PortRow}
use Rattle.api_types.specs.declared.router.Gateway.{Gateway}
use Rattle.api_types.specs.declared.router.RouterRow.{RouterRow}
use Rattle.api_types.specs.declared.subnet.Hop.{Hop}
use Rattle.api_types.specs.declared.subnet.SubnetRow.{SubnetRow}
use Rattle.call_parts.specs.BodyNames.{unless_all, unless_found}
use Rattle.kept_laws.proofs.Own.{owns}
use Rattle.net_addr.specs.declared.address.Addr.{Addr}
use Rattle.net_settings.specs.Settings.{SettingsParts}
use Rattle.net_settings.specs.declared.settings.Limit.{Limit}

-- Permits

pub own_admin_only : (caller : Caller) (needed : Bool) → owns (admin_only caller needed) ≡ true
own_admin_only caller needed = grind arith

pub own_owner_only : (caller : Caller) (project : List ℕ) → owns (owner_only caller project) ≡ true
own_owner_only caller project = grind arith

pub own_network_owner : (rows : RowLists) (caller : Caller) (needed : Bool) (network : Ident) → owns (network_owner rows caller needed network) ≡ true
own_network_owner rows caller needed network = grind arith

pub own_network_access : (rows : RowLists) (caller : Caller) (network : Ident) → owns (network_access rows caller network) ≡ true
own_network_access rows caller network = grind arith

pub own_port_delete : (rows : RowLists) (caller : Caller) (p : PortRow) → owns (port_delete rows caller p) ≡ true
own_port_delete rows caller p = grind arith

-- Quotas

pub own_over_limit : (a0 : Kind) (a1 : Limit) (a2 : ℕ) → owns (over_limit a0 a1 a2) ≡ true
own_over_limit a0 a1 a2 = grind arith

pub own_over_quota : (settings : SettingsParts) (rows : RowLists) (project : List ℕ) (kind : Kind) → owns (over_quota settings rows project kind) ≡ true
own_over_quota settings rows project kind = grind arith

-- Uses

pub own_network_in_use : (rows : RowLists) (caller : Caller) (i : Ident) → owns (network_in_use rows caller i) ≡ true
own_network_in_use rows caller i = grind arith

pub own_subnet_in_use : (rows : RowLists) (caller : Caller) (i : Ident) → owns (subnet_in_use rows caller i) ≡ true
own_subnet_in_use rows caller i = grind arith

pub own_old_gateway_in_use : (rows : RowLists) (caller : Caller) (old : SubnetRow) (new : SubnetRow) → owns (old_gateway_in_use rows caller old new) ≡ true
own_old_gateway_in_use rows caller old new = grind arith

pub own_service_in_use : (rows : RowLists) (caller : Caller) (touched : Bool) (p : PortRow) → owns (service_in_use rows caller touched p) ≡ true
own_service_in_use rows caller touched p = grind arith

pub own_port_in_use : (rows : RowLists) (caller : Caller) (r : RouterRow) (p : PortRow) → owns (port_in_use rows caller r p) ≡ true
own_port_in_use rows caller r p = grind arith

pub own_default_in_use : (g : GroupRow) → owns (default_in_use g) ≡ true
own_default_in_use g = grind arith

pub own_group_in_use : (rows : RowLists) (caller : Caller) (i : Ident) → owns (group_in_use rows caller i) ≡ true
own_group_in_use rows caller i = grind arith

pub own_router_in_use : (rows : RowLists) (caller : Caller) (r : RouterRow) → owns (router_in_use rows caller r) ≡ true
own_router_in_use rows caller r = grind arith

pub own_policy_in_use : (rows : RowLists) (caller : Caller) (policies : List PolicyRow) (l : PolicyRow) → owns (policy_in_use rows caller policies l) ≡ true
own_policy_in_use rows caller policies l = grind arith

pub own_needed_by : (rows : RowLists) (caller : Caller) (kept : List PolicyRow) (n : NetworkRow) (p : PortRow) → owns (needed_by rows caller kept n p) ≡ true
own_needed_by rows caller kept n p = grind arith

pub own_open_in_use : (rows : RowLists) (caller : Caller) (kept : List PolicyRow) (n : NetworkRow) → owns (open_in_use rows caller kept n) ≡ true
own_open_in_use rows caller kept n = grind arith

pub own_route_in_use : (rows : RowLists) (caller : Caller) (r : RouterRow) (routes : List Hop) (p : PortRow) → owns (route_in_use rows caller r routes p) ≡ true
own_route_in_use rows caller r routes p = grind arith

pub own_floating_in_use : (rows : RowLists) (caller : Caller) (r : RouterRow) (p : PortRow) → owns (floating_in_use rows caller r p) ≡ true
own_floating_in_use rows caller r p = grind arith

pub own_gateway_in_use : (rows : RowLists) (caller : Caller) (r : RouterRow) → owns (gateway_in_use rows caller r) ≡ true
own_gateway_in_use rows caller r = grind arith

pub own_gateway_use : (a0 : RowLists) (a1 : Caller) (a2 : RouterRow) (a3 : List Hop) (a4 : Option Gateway) → owns (gateway_use a0 a1 a2 a3 a4) ≡ true
own_gateway_use a0 a1 a2 a3 a4 = grind arith

pub own_aim_in_use : (rows : RowLists) (caller : Caller) (floatings : List FloatingRow) (network : Ident) (aim : Aim) → owns (aim_in_use rows caller floatings network aim) ≡ true
own_aim_in_use rows caller floatings network aim = grind arith

-- Segments

pub own_segment_in_use : (a0 : List NetworkRow) (a1 : Option Segment) → owns (segment_in_use a0 a1) ≡ true
own_segment_in_use a0 a1 = grind arith

-- HeldAddresses

pub own_address_taken : (held : (Addr → Bool)) (network : Ident) (known : List Addr) → owns (address_taken held network known) ≡ true
own_address_taken held network known = grind arith

-- BodyNames

pub own_unless_found : {R : Type 0} (a0 : Kind) (a1 : Option Ident) (a2 : Option R) → owns (unless_found a0 a1 a2) ≡ true
own_unless_found a0 a1 a2 = grind arith

pub own_unless_all : (kind : Kind) (found : (Ident → Bool)) (names : List Ident) → owns (unless_all kind found names) ≡ true
own_unless_all kind found names = grind arith
