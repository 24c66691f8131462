use Rattle.std.proofs.Common.{◌≡◌, map, take}
use Rattle.plane_types.specs.KeyedTables.{bridge_key}
use Rattle.l2_delta.proofs.bridge.keys_before.Given as goal

-- the keys are those of the rows so far
abbrev pub invariant-loop-row : goal.invariant-loop-row
invariant-loop-row l =
    l.keys.items ≡ map bridge_key (take l.row-index l.row-items)
