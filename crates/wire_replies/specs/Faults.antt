-- The statuses and types of a server's refusals (OpenStack API reference, Networking API v2.0:
-- faults; those of the lab are this server's own).
use Rattle.std.specs.Prelude.{ℕ, ◌==◌, ◌&&◌, Bool, List, [], ◌∷◌, codes, if◌then◌else◌}
use Rattle.std.specs.List.{list_any}
use Rattle.std.specs.Str.{bytes_eq}
use Rattle.net_addr.specs.Words.{Text}
use Rattle.wire_types.specs.declared.reply.WireReply.{WireReply}
use Rattle.wire_types.specs.declared.reply.WireReply.TheVariants as reply

-- a status and a type that has it
abbrev pub Fault : Type 0
Fault = ℕ × Text

abbrev pub faults : List Fault
faults =
    (400, codes "MalformedRequest") ∷ (431, codes "HeadTooLarge") ∷ (413, codes "BodyTooLarge")
    ∷ (411, codes "LengthRequired") ∷ (401, codes "NotAuthenticated")
    ∷ (404, codes "HTTPNotFound") ∷ (405, codes "MethodNotAllowed") ∷ (400, codes "BadBody")
    ∷ (400, codes "InvalidInput") ∷ (404, codes "NetworkNotFound") ∷ (404, codes "SubnetNotFound")
    ∷ (404, codes "PortNotFound") ∷ (404, codes "SecurityGroupNotFound")
    ∷ (404, codes "SecurityGroupRuleNotFound") ∷ (404, codes "RouterNotFound")
    ∷ (404, codes "FloatingIPNotFound") ∷ (404, codes "RbacPolicyNotFound")
    ∷ (404, codes "RouterInterfaceNotFound") ∷ (403, codes "PolicyNotAuthorized")
    ∷ (409, codes "NetworkInUse") ∷ (409, codes "SubnetInUse") ∷ (409, codes "GatewayIpInUse")
    ∷ (409, codes "ServicePortInUse") ∷ (409, codes "PortInUse")
    ∷ (409, codes "SecurityGroupCannotRemoveDefault") ∷ (409, codes "SecurityGroupInUse")
    ∷ (409, codes "RouterInUse") ∷ (409, codes "RbacPolicyInUse")
    ∷ (409, codes "RouterInterfaceInUseByRoute") ∷ (409, codes "RouterInterfaceInUseByFloatingIP")
    ∷ (409, codes "RouterExternalGatewayInUseByFloatingIp")
    ∷ (409, codes "FloatingIPPortAlreadyAssociated") ∷ (409, codes "IpAddressInUse")
    ∷ (409, codes "MacAddressInUse") ∷ (409, codes "SecurityGroupRuleExists")
    ∷ (409, codes "DuplicateRbacPolicy") ∷ (409, codes "FlatNetworkInUse")
    ∷ (409, codes "VlanIdInUse") ∷ (409, codes "TunnelIdInUse")
    ∷ (404, codes "ExternalGatewayForFloatingIPNotFound") ∷ (409, codes "OverQuota")
    ∷ (409, codes "IpAddressGenerationFailure") ∷ (503, codes "NoNetworkAvailable")
    ∷ (503, codes "CountersSpent") ∷ (503, codes "StoreFault") ∷ (507, codes "OutOfMemory")
    ∷ (404, codes "HostNotFound") ∷ (404, codes "MessageGone") ∷ (409, codes "VersionMoved")
    ∷ (404, codes "PageNotFound") ∷ []

abbrev pub is_fault : ℕ → Text → Bool
is_fault code type = list_any (λ (f : Fault). (f.0 == code) && bytes_eq f.1 type) faults

-- what a refusal of a type says to an agent
abbrev pub fault_reply : Text → WireReply
fault_reply type =
    if bytes_eq type (codes "MessageGone") then reply.NoMessage
    else (if bytes_eq type (codes "VersionMoved") then reply.VersionMoved
    else (if bytes_eq type (codes "PageNotFound") then reply.NoPage else reply.Refused))
