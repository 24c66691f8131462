use Rattle.std.proofs.Common.{◌≡◌, ◌++◌, Some, drop, map}
use Rattle.std.specs.Prelude.{◌||◌}
use Rattle.std.specs.List.{filter}
use Rattle.l2_delta.specs.SetKeys.{is_given}
use Rattle.l2_delta.proofs.set_keys.add_standing.Given as goal

-- those so far, and those that stand of the others, are all
abbrev pub invariant-loop-prefix : goal.invariant-loop-prefix
invariant-loop-prefix l =
    l.prefixes.items ++ filter (λ p. is_given (map (λ p. p.now) l.are) (Some l.group) p || is_given l.ports (Some l.group) p) (drop l.prefix-index l.given)
    ≡ l.fn.prefixes.items ++ filter (λ p. is_given (map (λ p. p.now) l.are) (Some l.group) p || is_given l.ports (Some l.group) p) l.given
