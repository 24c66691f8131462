-- Routers and their live ports, by the text that names one.
use Rattle.std.specs.Prelude.{◌&&◌, Bool}
use Rattle.std.specs.Str.{bytes_eq}
use Rattle.net_addr.specs.Words.{Text}
use Rattle.api_types.specs.Live.{is_live}
use Rattle.api_types.specs.Owners.{device_is, is_router_port}
use Rattle.api_types.specs.RowLists.{RowLists}
use Rattle.api_types.specs.declared.port.PortRow.{PortRow}
use Rattle.api_types.specs.declared.router.RouterRow.{RouterRow}

-- a router whose id is printed so
abbrev pub is_named : Text → RouterRow → Bool
is_named text r = device_is text r.id

-- a live port of the router whose id is printed so
abbrev pub is_leg_at : RowLists → Text → PortRow → Bool
is_leg_at rows text p = is_router_port p.owner && bytes_eq p.device text && is_live rows p
