use Rattle.std.proofs.Common.{◌≡◌, ◌++◌, drop, option_copied}
use Rattle.std.specs.Prelude.{option_to_list}
use Rattle.api_types.specs.TableItems.{of_kind}
use Rattle.api_types.proofs.rows.only_of.Given as goal

-- the one so far, and those that are left, are all
abbrev pub invariant-loop-item : goal.invariant-loop-item
invariant-loop-item l = option_to_list (option_copied l.only) ++ of_kind l.kind (drop l.item-index l.items) ≡ of_kind l.kind l.items
