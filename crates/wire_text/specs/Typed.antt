-- Rows with values that their types can hold.
use Rattle.std.specs.Prelude.{◌^◌, ◌<◌, IfSome, IsUtf8, ⊤}
use Rattle.net_addr.specs.Addresses.{IsAddr}
use Rattle.net_addr.specs.Prefixes.{IsPrefix, IsSpan, Prefix, Span}
use Rattle.api_types.specs.Ident.{Ident}
use Rattle.api_types.specs.Lists.{Each}
use Rattle.api_types.specs.declared.kind.Row.{Row}
use Rattle.api_types.specs.declared.kind.Row.TheVariants.{Project, Network, Subnet, Port, Group, Rule, Router, Floating, Policy}
use Rattle.api_types.specs.declared.project.ProjectRow.{ProjectRow}
use Rattle.api_types.specs.declared.network.NetworkRow.{NetworkRow}
use Rattle.api_types.specs.declared.network.Segment.{Segment}
use Rattle.api_types.specs.declared.network.Segment.TheVariants.{Local, Flat, Vlan, Vxlan}
use Rattle.api_types.specs.declared.subnet.Hop.{Hop}
use Rattle.api_types.specs.declared.subnet.SubnetRow.{SubnetRow}
use Rattle.api_types.specs.declared.port.Fixed.{Fixed}
use Rattle.api_types.specs.declared.port.Pair.{Pair}
use Rattle.api_types.specs.declared.port.PortRow.{PortRow}
use Rattle.api_types.specs.declared.group.GroupRow.{GroupRow}
use Rattle.api_types.specs.declared.group.RuleRow.{RuleRow}
use Rattle.api_types.specs.declared.router.Gateway.{Gateway}
use Rattle.api_types.specs.declared.router.RouterRow.{RouterRow}
use Rattle.api_types.specs.declared.floating.FloatingRow.{FloatingRow}
use Rattle.api_types.specs.declared.floating.Target.{Target}
use Rattle.api_types.specs.declared.policy.PolicyRow.{PolicyRow}

-- an id as its type has it: 32 bits of an ordinal, 62 of a count
pub record IsIdent (i : Ident) : Type 0 where
  pub ordinal : i.ordinal < 2 ^ 32
  pub count : i.count < 2 ^ 62

-- a prefix of an address that its version has, without bits after its length
abbrev pub IsNet : Prefix → Type 0
IsNet p = IsAddr p.base × IsPrefix p

abbrev pub IsPool : Span → Type 0
IsPool s = IsAddr s.first × IsAddr s.last × IsSpan s

abbrev pub IsHop : Hop → Type 0
IsHop h = IsNet h.destination × IsAddr h.next

abbrev pub IsFixed : Fixed → Type 0
IsFixed f = IsIdent f.subnet × IsAddr f.address

abbrev pub IsPair : Pair → Type 0
IsPair p = (p.mac < 2 ^ 48) × IsNet p.prefix

abbrev pub IsGateway : Gateway → Type 0
IsGateway g = IsIdent g.network × IsIdent g.port

abbrev pub IsTarget : Target → Type 0
IsTarget t = IsIdent t.port × (t.fixed < 2 ^ 32) × IsIdent t.router

abbrev pub IsSegment : Segment → Type 0
IsSegment Local = ⊤
IsSegment (Flat physical) = IsUtf8 physical
IsSegment (Vlan physical tag) = IsUtf8 physical × (tag < 2 ^ 16)
IsSegment (Vxlan n) = n < 2 ^ 32

pub record IsProject (r : ProjectRow) : Type 0 where
  pub name : IsUtf8 r.name
  pub ordinal : r.ordinal < 2 ^ 32
  pub count : r.count < 2 ^ 64

pub record IsNetwork (r : NetworkRow) : Type 0 where
  pub id : IsIdent r.id
  pub project : IsUtf8 r.project
  pub name : IsUtf8 r.name
  pub description : IsUtf8 r.description
  pub segment : IsSegment r.segment

pub record IsSubnet (r : SubnetRow) : Type 0 where
  pub id : IsIdent r.id
  pub project : IsUtf8 r.project
  pub network : IsIdent r.network
  pub name : IsUtf8 r.name
  pub description : IsUtf8 r.description
  pub prefix : IsNet r.prefix
  pub gateway : IfSome r.gateway IsAddr
  pub pools : Each IsPool r.pools
  pub dns : Each IsAddr r.dns
  pub host_routes : Each IsHop r.host_routes

pub record IsPort (r : PortRow) : Type 0 where
  pub id : IsIdent r.id
  pub project : IsUtf8 r.project
  pub network : IsIdent r.network
  pub name : IsUtf8 r.name
  pub description : IsUtf8 r.description
  pub mac : r.mac < 2 ^ 48
  pub fixed : Each IsFixed r.fixed
  pub pairs : Each IsPair r.pairs
  pub groups : Each IsIdent r.groups
  pub device : IsUtf8 r.device
  pub owner : IsUtf8 r.owner
  pub host : IsUtf8 r.host

pub record IsGroup (r : GroupRow) : Type 0 where
  pub id : IsIdent r.id
  pub project : IsUtf8 r.project
  pub name : IsUtf8 r.name
  pub description : IsUtf8 r.description

pub record IsRule (r : RuleRow) : Type 0 where
  pub id : IsIdent r.id
  pub project : IsUtf8 r.project
  pub group : IsIdent r.group
  pub description : IsUtf8 r.description
  pub protocol : IfSome r.protocol (λ n. n < 2 ^ 8)
  pub low : IfSome r.low (λ n. n < 2 ^ 16)
  pub high : IfSome r.high (λ n. n < 2 ^ 16)
  pub remote_prefix : IfSome r.remote_prefix IsNet
  pub remote_group : IfSome r.remote_group IsIdent

pub record IsRouter (r : RouterRow) : Type 0 where
  pub id : IsIdent r.id
  pub project : IsUtf8 r.project
  pub name : IsUtf8 r.name
  pub description : IsUtf8 r.description
  pub host : IfSome r.host IsUtf8
  pub gateway : IfSome r.gateway IsGateway
  pub routes : Each IsHop r.routes

pub record IsFloating (r : FloatingRow) : Type 0 where
  pub id : IsIdent r.id
  pub project : IsUtf8 r.project
  pub description : IsUtf8 r.description
  pub network : IsIdent r.network
  pub own_port : IsIdent r.own_port
  pub address : r.address < 2 ^ 32
  pub target : IfSome r.target IsTarget

pub record IsPolicy (r : PolicyRow) : Type 0 where
  pub id : IsIdent r.id
  pub project : IsUtf8 r.project
  pub object : IsIdent r.object
  pub target : IsUtf8 r.target

abbrev pub IsTyped : Row → Type 0
IsTyped (Project r) = IsProject r
IsTyped (Network r) = IsNetwork r
IsTyped (Subnet r) = IsSubnet r
IsTyped (Port r) = IsPort r
IsTyped (Group r) = IsGroup r
IsTyped (Rule r) = IsRule r
IsTyped (Router r) = IsRouter r
IsTyped (Floating r) = IsFloating r
IsTyped (Policy r) = IsPolicy r
