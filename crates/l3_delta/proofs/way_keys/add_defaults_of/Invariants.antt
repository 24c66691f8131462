use Rattle.std.proofs.Common.{◌≡◌, ◌++◌, drop, map}
use Rattle.std.specs.List.{filter}
use Rattle.l3_delta.specs.WayKeys.{default_key, has_default}
use Rattle.l3_delta.proofs.way_keys.add_defaults_of.Given as goal

-- those so far, and those of the addresses that are left, are all
abbrev pub invariant-loop-fixed : goal.invariant-loop-fixed
invariant-loop-fixed l =
    l.keys.items ++ map default_key (filter (has_default l.rows (map (λ p. p.now) l.legs)) (drop l.fixed-index l.fixed-items))
    ≡ l.fn.keys.items ++ map default_key (filter (has_default l.rows (map (λ p. p.now) l.legs)) l.fixed-items)
