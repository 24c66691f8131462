-- What is shown of a port says nothing of other ports.
use Rattle.std.proofs.Common.{◌≡◌, false, refl, true}
use Rattle.api_policy.specs.Ports.{port_members}
use Rattle.api_types.specs.Live.{is_live}
use Rattle.api_types.specs.RowLists.{RowLists}
use Rattle.api_types.specs.Rows.{after_of_kind}
use Rattle.api_types.specs.declared.change.Item.{Item}
use Rattle.api_types.specs.declared.kind.Kind.TheVariants.{Port}
use Rattle.api_types.specs.declared.port.PortRow.{PortRow}

pub port_apart : (rows : RowLists) (item : Item) (p : PortRow) → port_members (after_of_kind Port rows item) p ≡ port_members rows p
unfolding is_live
port_apart rows item p = refl

-- nothing is promised of networks
pub never : {P : Type 0} → false ≡ true → P
never h = cc
