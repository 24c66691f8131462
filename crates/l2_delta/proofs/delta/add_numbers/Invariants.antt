use Rattle.std.proofs.Common.{◌≡◌, ◌++◌}
use Rattle.std.specs.List.{filter_map}
use Rattle.api_types.specs.Table.{place_of}
use Rattle.api_types.specs.declared.network.NetworkRow.{NetworkRow}
use Rattle.l2_delta.proofs.delta.add_numbers.Given as goal

-- the numbers so far, before those of the networks that are left
abbrev pub invariant-loop-network : goal.invariant-loop-network
invariant-loop-network l =
    l.numbers.items
    ++ filter_map (λ i. place_of (λ (n : NetworkRow). n.id) i l.networks.rows) l.network-iterator
    ≡ l.fn.numbers.items
    ++ filter_map (λ i. place_of (λ (n : NetworkRow). n.id) i l.networks.rows) l.touched.keys
