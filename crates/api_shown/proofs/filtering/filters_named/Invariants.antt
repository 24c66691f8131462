use Rattle.std.proofs.Common.{◌≡◌, map, take}
use Rattle.api_shown.specs.Asked.{asked_under}
use Rattle.api_shown.proofs.filtering.filters_named.Given as goal

-- the filters of the names so far
abbrev pub invariant-loop-name : goal.invariant-loop-name
invariant-loop-name l = l.by_name.items ≡ map (λ n. asked_under l.filters n.now) (take l.name-index l.names)
