use Rattle.std.proofs.Common.{◌≡◌, ◌++◌, drop}
use Rattle.l2_agent.specs.Among.{ids_among}
use Rattle.l2_agent.proofs.tags.networks_among.Given as goal

-- those so far, and those that are left, are all
abbrev pub invariant-loop-network : goal.invariant-loop-network
invariant-loop-network l =
    l.ids.items ++ ids_among l.networks (drop l.network-index l.network-items) ≡ ids_among l.networks l.rows.networks
