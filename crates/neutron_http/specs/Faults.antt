-- The status, the type and the message of each refusal (OpenStack API reference, Networking API
-- v2.0: faults).
use Rattle.std.specs.Prelude.{ℕ, [], ◌∷◌, ◌++◌, Option, Some, None, codes, decimal}
use Rattle.net_addr.specs.Words.{Text}
use Rattle.net_addr.specs.Spelling.{addr_text, mac_text}
use Rattle.api_types.specs.Ident.{Ident, ident_text}
use Rattle.api_types.specs.Titles.{resource_of, title_of}
use Rattle.api_types.specs.declared.kind.Kind.{Kind}
use Rattle.api_types.specs.declared.kind.Kind.TheVariants.{Rule}
use Rattle.api_types.specs.declared.network.Segment.{Segment}
use Rattle.api_types.specs.declared.network.Segment.TheVariants.{Local, Flat, Vlan, Vxlan}
use Rattle.api_types.specs.declared.refusal.PolicyRule.{PolicyRule}
use Rattle.api_types.specs.declared.refusal.PolicyRule.TheVariants.{AdminOnly, OwnerOnly, NetworkOwner, NetworkAccess, PortDelete}
use Rattle.api_types.specs.declared.refusal.UseRule.{UseRule}
use Rattle.api_types.specs.declared.refusal.UseRule.TheVariants.{NetworkInUse, SubnetInUse, GatewayIpInUse, ServicePortInUse, PortInUse, SecurityGroupCannotRemoveDefault, SecurityGroupInUse, RouterInUse, RbacPolicyInUse, RouterInterfaceInUseByRoute, RouterInterfaceInUseByFloatingIp, RouterExternalGatewayInUseByFloatingIp, FloatingIpPortAlreadyAssociated}
use Rattle.api_types.specs.declared.refusal.Value.{Value}
use Rattle.api_types.specs.declared.refusal.Value.TheVariants.{Address, Mac}
use Rattle.api_types.specs.declared.refusal.Refusal.{Refusal}
use Rattle.api_types.specs.declared.refusal.Refusal.TheVariants.{Malformed, HeadLarge, BodyLarge, NoLength, NoCaller, NoRoute, NoMethod, BadBody, Invalid, NotFound, Forbidden, InUse, Taken, Exists, SegmentInUse, NoGateway, OverQuota, PoolsSpent, NoNetwork, CountersSpent, StoreFault, OutOfMemory, NoHost, NoMessage, VersionMoved, NoPage}

-- the status code
abbrev pub code_of : Refusal → ℕ
code_of Malformed = 400
code_of HeadLarge = 431
code_of BodyLarge = 413
code_of NoLength = 411
code_of NoCaller = 401
code_of NoRoute = 404
code_of (NoMethod allowed) = 405
code_of (BadBody member) = 400
code_of (Invalid name) = 400
code_of (NotFound kind text) = 404
code_of (Forbidden rule) = 403
code_of (InUse rule kind id by) = 409
code_of (Taken value network) = 409
code_of (Exists kind id) = 409
code_of (SegmentInUse segment network) = 409
code_of (NoGateway network subnet) = 404
code_of (OverQuota resource limit used) = 409
code_of (PoolsSpent network) = 409
code_of NoNetwork = 503
code_of CountersSpent = 503
code_of StoreFault = 503
code_of OutOfMemory = 507
code_of (NoHost name) = 404
code_of (NoMessage asked first last) = 404
code_of (VersionMoved asked now) = 409
code_of (NoPage number) = 404

-- the types of a row in use
abbrev pub use_type : UseRule → Text
use_type NetworkInUse = codes "NetworkInUse"
use_type SubnetInUse = codes "SubnetInUse"
use_type GatewayIpInUse = codes "GatewayIpInUse"
use_type ServicePortInUse = codes "ServicePortInUse"
use_type PortInUse = codes "PortInUse"
use_type SecurityGroupCannotRemoveDefault = codes "SecurityGroupCannotRemoveDefault"
use_type SecurityGroupInUse = codes "SecurityGroupInUse"
use_type RouterInUse = codes "RouterInUse"
use_type RbacPolicyInUse = codes "RbacPolicyInUse"
use_type RouterInterfaceInUseByRoute = codes "RouterInterfaceInUseByRoute"
use_type RouterInterfaceInUseByFloatingIp = codes "RouterInterfaceInUseByFloatingIP"
use_type RouterExternalGatewayInUseByFloatingIp = codes "RouterExternalGatewayInUseByFloatingIp"
use_type FloatingIpPortAlreadyAssociated = codes "FloatingIPPortAlreadyAssociated"

-- the types of a value that is held
abbrev pub taken_type : Value → Text
taken_type (Address address) = codes "IpAddressInUse"
taken_type (Mac mac) = codes "MacAddressInUse"

-- the types of a row that is there already: a rule, or else a policy
abbrev pub exists_type : Kind → Text
exists_type Rule = codes "SecurityGroupRuleExists"
exists_type kind = codes "DuplicateRbacPolicy"

-- the types of a segment in use, which is never a local one
abbrev pub segment_type : Segment → Text
segment_type Local = codes "FlatNetworkInUse"
segment_type (Flat physical) = codes "FlatNetworkInUse"
segment_type (Vlan physical tag) = codes "VlanIdInUse"
segment_type (Vxlan number) = codes "TunnelIdInUse"

-- the type; that of a row that isn't found begins with its kind
abbrev pub type_of : Refusal → Text
type_of Malformed = codes "MalformedRequest"
type_of HeadLarge = codes "HeadTooLarge"
type_of BodyLarge = codes "BodyTooLarge"
type_of NoLength = codes "LengthRequired"
type_of NoCaller = codes "NotAuthenticated"
type_of NoRoute = codes "HTTPNotFound"
type_of (NoMethod allowed) = codes "MethodNotAllowed"
type_of (BadBody member) = codes "BadBody"
type_of (Invalid name) = codes "InvalidInput"
type_of (NotFound kind text) = kind ++ codes "NotFound"
type_of (Forbidden rule) = codes "PolicyNotAuthorized"
type_of (InUse rule kind id by) = use_type rule
type_of (Taken value network) = taken_type value
type_of (Exists kind id) = exists_type kind
type_of (SegmentInUse segment network) = segment_type segment
type_of (NoGateway network subnet) = codes "ExternalGatewayForFloatingIPNotFound"
type_of (OverQuota resource limit used) = codes "OverQuota"
type_of (PoolsSpent network) = codes "IpAddressGenerationFailure"
type_of NoNetwork = codes "NoNetworkAvailable"
type_of CountersSpent = codes "CountersSpent"
type_of StoreFault = codes "StoreFault"
type_of OutOfMemory = codes "OutOfMemory"
type_of (NoHost name) = codes "HostNotFound"
type_of (NoMessage asked first last) = codes "MessageGone"
type_of (VersionMoved asked now) = codes "VersionMoved"
type_of (NoPage number) = codes "PageNotFound"

-- the name of a rule of policy
abbrev pub rule_name : PolicyRule → Text
rule_name AdminOnly = codes "admin_only"
rule_name OwnerOnly = codes "owner_only"
rule_name NetworkOwner = codes "network_owner"
rule_name NetworkAccess = codes "network_access"
rule_name PortDelete = codes "port_delete"

abbrev pub body_message : Option Text → Text
body_message None = codes "The body is not an object."
body_message (Some member) =
    codes "The body is not an object with the one member " ++ member ++ codes "."

-- what is told of the row that uses another
abbrev pub user_text : Option (Kind × Ident) → Text
user_text None = codes "."
user_text (Some by) = codes " by " ++ resource_of by.0 ++ codes " " ++ ident_text by.1 ++ codes "."

abbrev pub value_text : Value → Text
value_text (Address address) = codes "IP address " ++ addr_text address
value_text (Mac mac) = codes "MAC address " ++ mac_text mac

-- the message
abbrev pub message_of : Refusal → Text
message_of Malformed = codes "The request could not be read."
message_of HeadLarge = codes "The request head is larger than 16384 bytes or 64 fields."
message_of BodyLarge = codes "The request body is larger than 65536 bytes."
message_of NoLength = codes "The request needs a Content-Length and no transfer coding."
message_of NoCaller = codes "The request names no caller."
message_of NoRoute = codes "The resource could not be found."
message_of (NoMethod allowed) = codes "The method is not allowed for this resource."
message_of (BadBody member) = body_message member
message_of (Invalid name) = codes "Invalid input for " ++ name ++ codes "."
message_of (NotFound kind text) = kind ++ codes " " ++ text ++ codes " could not be found."
message_of (Forbidden rule) =
    codes "(rule:" ++ rule_name rule ++ codes ") is disallowed by policy."
message_of (InUse rule kind id by) =
    title_of kind ++ codes " " ++ ident_text id ++ codes " is in use" ++ user_text by
message_of (Taken value network) =
    value_text value ++ codes " is in use in network " ++ ident_text network ++ codes "."
message_of (Exists kind id) = codes "An equal row exists: " ++ ident_text id ++ codes "."
message_of (SegmentInUse segment network) =
    codes "The segment is in use by network " ++ ident_text network ++ codes "."
message_of (NoGateway network subnet) =
    codes "External network " ++ ident_text network ++ codes " is not reachable from subnet "
    ++ ident_text subnet ++ codes "."
message_of (OverQuota resource limit used) =
    codes "Quota exceeded for " ++ resource_of resource ++ codes ": limit " ++ decimal limit
    ++ codes ", used " ++ decimal used ++ codes "."
message_of (PoolsSpent network) =
    codes "No more IP addresses available on network " ++ ident_text network ++ codes "."
message_of NoNetwork = codes "No tenant network is available for allocation."
message_of CountersSpent = codes "A counter is at its last value."
message_of StoreFault = codes "The store failed in this request."
message_of OutOfMemory = codes "Memory could not be had."
message_of (NoHost name) = codes "Host " ++ name ++ codes " could not be found."
message_of (NoMessage asked first last) =
    codes "Message " ++ decimal asked ++ codes " is not kept: first " ++ decimal first
    ++ codes ", last " ++ decimal last ++ codes "."
message_of (VersionMoved asked now) =
    codes "Version " ++ decimal asked ++ codes " is not the version of now: " ++ decimal now
    ++ codes "."
message_of (NoPage number) = codes "Page " ++ decimal number ++ codes " could not be found."
