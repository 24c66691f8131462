use Rattle.std.proofs.Common.{◌≡◌, ◌≤◌, drop, length}
use Rattle.std.specs.HashMap.{get}
use Rattle.api_types.specs.Ident.{Ident}
use Rattle.api_types.specs.Table.{ident_eq}
use Rattle.plane_types.specs.TableRows.{tag_of as tag_given}
use Rattle.plane_types.proofs.tag_map.by_network.Given as goal

-- the map has the tags from a place on
abbrev pub invariant-loop-left : goal.invariant-loop-left
invariant-loop-left l = record { within : l.left ≤ length l.tags; found : (n : Ident) → get ident_eq l.by_network n ≡ tag_given (drop l.left l.tags) n }

abbrev pub decreases-loop-left : goal.decreases-loop-left
decreases-loop-left l = l.left
