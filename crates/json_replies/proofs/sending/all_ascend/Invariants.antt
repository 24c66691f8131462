use Rattle.std.proofs.Common.{◌≡◌, drop, map}
use Rattle.api_types.specs.Printed.{trees_of}
use Rattle.json_replies.specs.Straight.{trees_ascend}
use Rattle.json_replies.proofs.sending.all_ascend.Given as goal

-- what is left decides
abbrev pub invariant-loop-value : goal.invariant-loop-value
invariant-loop-value g l = trees_ascend (trees_of (map g.T.Prints.tree l.values)) ≡ trees_ascend (trees_of (map g.T.Prints.tree (drop l.value-index l.values)))
