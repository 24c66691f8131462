use Rattle.std.proofs.Common.{◌≡◌, map, take}
use Rattle.api_types.specs.Printed.{tree_of}
use Rattle.api_shown.proofs.printable.printed_items.Given as goal

-- the values so far are printed
abbrev pub invariant-loop-value : goal.invariant-loop-value
invariant-loop-value g l = map tree_of l.items.items ≡ map g.T.Printable.tree (take l.value-index l.values)
