use Rattle.std.proofs.Common.{◌≡◌, ◌≤◌, ◌++◌, drop, length}
use Rattle.std.specs.List.{filter_map}
use Rattle.plane_types.specs.Verdicts.{made_at}
use Rattle.plane_types.specs.Node.{with_entries}
use Rattle.lab_world.proofs.each.add_made.Given as goal

-- those so far are added, with those that are left they are all, and there is room for these
abbrev pub invariant-loop-made : goal.invariant-loop-made
invariant-loop-made l =
    (l.node.agent ≡ with_entries l.node.agent.entries l.fn.node.agent)
    × (l.node.agent.entries ++ filter_map (made_at l.at) (drop l.made-index l.fresh) ≡ l.fn.node.agent.entries ++ filter_map (made_at l.at) l.fresh)
    × (length (drop l.made-index l.fresh) ≤ l.node.spare.entries)
