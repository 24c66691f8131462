use Rattle.std.proofs.Common.{◌≡◌, drop}
use Rattle.api_ml2.specs.Segments.{network_with}
use Rattle.api_ml2.proofs.segments.holder.Given as goal

-- the search among the networks that are left is that among all
abbrev pub invariant-loop-network : goal.invariant-loop-network
invariant-loop-network l = network_with (drop l.network-index l.networks) l.segment ≡ network_with l.networks l.segment
