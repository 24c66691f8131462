-- A router as rows and tables give it: its live ports, its routes and its floating addresses.
use Rattle.std.specs.Prelude.{ℕ, Bool, List, Option}
use Rattle.net_addr.specs.declared.address.Addr.{Addr}
use Rattle.net_addr.specs.Prefixes.{Prefix}
use Rattle.api_types.specs.Ident.{Ident}
use Rattle.api_types.specs.declared.route.RouteRank.{RouteRank}

-- a live port of a router; inside is an interface, outside the gateway port
pub record Leg : Type 0 where
  pub port : Ident
  pub mac : ℕ
  pub addresses : List Addr
  pub inside : Bool

-- a route: packets for its prefix go to the next hop, or where there is none to their destination,
-- by the port
pub record Way : Type 0 where
  pub prefix : Prefix
  pub rank : RouteRank
  pub next : Option Addr
  pub port : Ident

-- an associated floating address, and the fixed address that it stands for
pub record Float : Type 0 where
  pub floating : ℕ
  pub fixed : ℕ

-- all that is asked of a router; its gateway address stands also while the gateway port isn't live
pub record RouterView : Type 0 where
  pub id : Ident
  pub up : Bool
  pub snat : Bool
  pub gateway : Option ℕ
  pub legs : List Leg
  pub ways : List Way
  pub floats : List Float
