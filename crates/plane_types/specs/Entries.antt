-- Tracked entries: flows that a port let pass, and translations that a router made.
use Rattle.std.specs.Prelude.{◌&&◌, Bool, false, List}
use Rattle.std.specs.List.{list_any}
use Rattle.api_types.specs.Consistent.Groups.{is_direction}
use Rattle.api_types.specs.Ident.{Ident}
use Rattle.api_types.specs.Table.{ident_eq}
use Rattle.api_types.specs.declared.group.Direction.{Direction}
use Rattle.api_types.specs.declared.group.Direction.TheVariants.{Egress, Ingress}
use Rattle.plane_types.specs.Keys.{key_eq}
use Rattle.plane_types.specs.declared.entry.Entry.{Entry}
use Rattle.plane_types.specs.declared.entry.Entry.TheVariants.{Flow, Snat}
use Rattle.plane_types.specs.declared.frame.Key.{Key}

abbrev pub opposite : Direction → Direction
opposite Ingress = Egress
opposite Egress = Ingress

abbrev pub is_flow : Ident → Direction → Key → Entry → Bool
is_flow port direction key (Flow p d k) =
    ident_eq port p && is_direction direction d && key_eq key k
is_flow port direction key (Snat r k o s) = false

abbrev pub has_flow : List Entry → Ident → Direction → Key → Bool
has_flow entries port direction key = list_any (is_flow port direction key) entries
