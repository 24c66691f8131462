use Rattle.std.proofs.Common.{◌≡◌, ◌≤◌, ◌++◌, drop}
use Rattle.plane_types.specs.NewTags.{in_turn as given_in_turn}
use Rattle.l2_agent.specs.Free.{free_from}
use Rattle.l2_agent.proofs.tags.in_turn.Given as goal

-- the rows so far, and those of the networks that are left, are all
abbrev pub invariant-loop-network : goal.invariant-loop-network
invariant-loop-network l = record {
  within : l.free ≤ 4095;
  rows : l.tags ++ given_in_turn l.rows l.old (free_from l.kept l.free) (drop l.network-index l.networks) ≡ given_in_turn l.rows l.old (free_from l.kept 1) l.networks;
}
