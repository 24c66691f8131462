-- Whom a port serves: the project of its router or of its floating address, and what is told of it
-- to those who hold its network.
use Rattle.std.specs.Prelude.{Bool, Option, find, option_map}
use Rattle.std.specs.Option.{option_or}
use Rattle.net_addr.specs.Words.{Text}
use Rattle.api_types.specs.Owners.{is_port_of}
use Rattle.api_types.specs.RowLists.{RowLists}
use Rattle.api_types.specs.Table.{ident_eq}
use Rattle.api_types.specs.declared.floating.FloatingRow.{FloatingRow}
use Rattle.api_types.specs.declared.port.PortRow.{PortRow}
use Rattle.api_types.specs.declared.router.RouterRow.{RouterRow}

-- the project of the router or of the floating address that a port serves
abbrev pub served : RowLists → PortRow → Option Text
served rows p =
    option_or (option_map (λ (r : RouterRow). r.project) (find (λ r. is_port_of r p) rows.routers))
    (option_map (λ (f : FloatingRow). f.project)
    (find (λ f. ident_eq f.own_port p.id) rows.floatings))

-- what may be told of a port on a network that the project holds
pub record HeldPort : Type 0 where
  pub project : Text
  pub by_admin : Bool
  pub served : Option Text

abbrev pub held_port : RowLists → PortRow → HeldPort
held_port rows p = record { project = p.project; by_admin = p.by_admin; served = served rows p }
