use Rattle.std.proofs.Common.{◌≡◌, ◌++◌, map, take}
use Rattle.api_consistency.specs.Keys.{of_fixed}
use Rattle.api_consistency.proofs.held.add_addresses.Given as goal

-- those so far are added
abbrev pub invariant-loop-one : goal.invariant-loop-one
invariant-loop-one l = l.held.items ≡ l.fn.held.items ++ map (of_fixed l.network) (take l.one-index l.fixed)
