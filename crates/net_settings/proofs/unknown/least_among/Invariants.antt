use Rattle.std.proofs.Common.{◌≡◌, drop, map, fold}
use Rattle.toml.specs.View.{view}
use Rattle.net_settings.specs.Unknown.{lesser, unknown_among}
use Rattle.net_settings.proofs.unknown.least_among.Given as goal

-- the answer is that for the least so far and the hosts that are left
abbrev pub invariant-loop-host : goal.invariant-loop-host
invariant-loop-host l =
    fold lesser l.least (unknown_among (map view (drop l.host-index l.hosts))) ≡ fold lesser l.fn.least (unknown_among (map view l.hosts))
