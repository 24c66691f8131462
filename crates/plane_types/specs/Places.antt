-- Where a frame is at a host, and where a look-up leads.
use Rattle.std.specs.Prelude.{ℕ, Option}
use Rattle.net_addr.specs.Words.{Text}
use Rattle.api_types.specs.Ident.{Ident}
use Rattle.plane_types.specs.declared.event.Place.{Place as TheirPlace}
use Rattle.plane_types.specs.declared.event.Place.TheVariants.{Bridge as TheirBridge, DhcpIn as TheirDhcpIn, RouterIn as TheirRouterIn, TapIn as TheirTapIn, TapOut as TheirTapOut, TunnelIn as TheirTunnelIn, WireIn as TheirWireIn}
use Rattle.plane_types.specs.declared.frame.Frame.{Frame}
use Rattle.api_types.specs.declared.wire.Wire.{Wire}
use Rattle.plane_types.specs.declared.verdict.Outcome.{Outcome}
use Rattle.plane_types.specs.declared.verdict.Toward.{Toward}

-- the places of a frame at a host
pub data Place : Type 0 where
  TapIn : Ident → Frame → Place
  Bridge : ℕ → Frame → Place
  TunnelIn : ℕ → Frame → Place
  WireIn : Wire → Frame → Place
  RouterIn : Ident → Ident → Frame → Place
  DhcpIn : ℕ → Frame → Place
  TapOut : Ident → Frame → Place

-- it goes on at the host, to another host by a tunnel, or to the wire; or it ends, and where a
-- router sent it on in this look-up, on this network
pub data Step : Type 0 where
  Next : Place → Step
  ToTunnel : Text → ℕ → Frame → Step
  ToWire : Wire → Ident → Toward → Frame → Step
  End : Outcome → Option Ident → Step

-- a place that borrows a name, without the borrowing
abbrev pub view_of_place : TheirPlace → Place
view_of_place (TheirTapIn port frame) = TapIn port frame
view_of_place (TheirBridge tag frame) = Bridge tag frame
view_of_place (TheirTunnelIn number frame) = TunnelIn number frame
view_of_place (TheirWireIn physical tag frame) =
    WireIn (record { physical = physical.now; tag = tag }) frame
view_of_place (TheirRouterIn port router frame) = RouterIn port router frame
view_of_place (TheirDhcpIn tag frame) = DhcpIn tag frame
view_of_place (TheirTapOut port frame) = TapOut port frame
