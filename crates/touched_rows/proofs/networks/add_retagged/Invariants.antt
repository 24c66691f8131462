use Rattle.std.proofs.Common.{◌≡◌, drop}
use Rattle.std.specs.Prelude.{◌||◌}
use Rattle.std.specs.HashSet.{contains}
use Rattle.std.specs.List.{list_any}
use Rattle.api_types.specs.Ident.{Ident}
use Rattle.api_types.specs.Table.{ident_eq}
use Rattle.touched_rows.specs.Retagged.{is_retagged}
use Rattle.touched_rows.proofs.networks.add_retagged.Given as goal

-- those so far, and those of the tags that are left, are all
abbrev pub invariant-loop-row : goal.invariant-loop-row
invariant-loop-row l =
    (n : Ident) → (contains ident_eq l.networks n || list_any (is_retagged l.change.old l.change.new n) (drop l.row-index l.tags))
    ≡ (contains ident_eq l.fn.networks n || list_any (is_retagged l.change.old l.change.new n) l.tags)
