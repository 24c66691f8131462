use Rattle.std.proofs.Common.{◌≡◌, ◌++◌, map, take}
use Rattle.net_addr.specs.Prefixes.{Prefix}
use Rattle.l2_agent.proofs.sets.add_prefixes.Given as goal

-- the prefixes so far are added
abbrev pub invariant-loop-prefix : goal.invariant-loop-prefix
invariant-loop-prefix l =
    l.sets ≡ l.fn.sets ++ map (λ (p : Prefix). record { group = l.group; prefix = p }) (take l.prefix-index l.prefixes)
