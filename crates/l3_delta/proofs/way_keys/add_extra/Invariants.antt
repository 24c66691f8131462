use Rattle.std.proofs.Common.{◌≡◌, ◌++◌, drop, map}
use Rattle.l3_delta.specs.WayKeys.{extra_keys, leads}
use Rattle.l3_delta.proofs.way_keys.add_extra.Given as goal

-- those so far, and those of the routes that are left, are all
abbrev pub invariant-loop-place : goal.invariant-loop-place
invariant-loop-place l =
    l.keys.items ++ extra_keys (leads l.rows (map (λ p. p.now) l.legs)) l.place (drop l.place l.routes)
    ≡ l.fn.keys.items ++ extra_keys (leads l.rows (map (λ p. p.now) l.legs)) 0 l.routes
