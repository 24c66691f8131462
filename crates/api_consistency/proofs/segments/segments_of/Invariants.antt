use Rattle.std.proofs.Common.{◌≡◌, ◌++◌, drop}
use Rattle.std.specs.List.{filter_map}
use Rattle.api_types.specs.declared.network.NetworkRow.{NetworkRow}
use Rattle.api_consistency.specs.Keys.{of_segment}
use Rattle.api_consistency.proofs.segments.segments_of.Given as goal

-- those so far before those that are left
abbrev pub invariant-loop-network : goal.invariant-loop-network
invariant-loop-network l = l.segments.items ++ filter_map (λ (n : NetworkRow). of_segment n.segment) (drop l.network-index l.networks) ≡ filter_map (λ (n : NetworkRow). of_segment n.segment) l.networks
