use Rattle.std.proofs.Common.{◌≡◌, drop, map}
use Rattle.std.specs.List.{list_any}
use Rattle.l2_delta.specs.SetKeys.{gives_prefix}
use Rattle.l2_delta.proofs.set_keys.is_given.Given as goal

-- none of those so far gives it
abbrev pub invariant-loop-port : goal.invariant-loop-port
invariant-loop-port l =
    list_any (gives_prefix l.group l.prefix) (map (λ p. p.now) (drop l.port-index l.ports))
    ≡ list_any (gives_prefix l.group l.prefix) (map (λ p. p.now) l.ports)
