use Rattle.std.proofs.Common.{◌≡◌, fold}
use Rattle.toml.specs.View.{members_view, table_view}
use Rattle.net_settings.specs.Unknown.{lesser, unknown_in}
use Rattle.net_settings.proofs.unknown.least_in.Given as goal

-- the answer is that for the least so far and the members that are left
abbrev pub invariant-loop-key : goal.invariant-loop-key
invariant-loop-key l =
    fold lesser l.least (unknown_in l.level (members_view l.key-iterator)) ≡ fold lesser l.fn.least (unknown_in l.level (table_view l.table))
