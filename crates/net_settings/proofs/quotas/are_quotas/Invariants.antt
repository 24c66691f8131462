use Rattle.std.proofs.Common.{◌≡◌}
use Rattle.toml.specs.View.{members_view, table_view}
use Rattle.net_settings.specs.Quotas.{are_quotas}
use Rattle.net_settings.proofs.quotas.are_quotas.Given as goal

-- the answer is that for the members that are left
abbrev pub invariant-loop-key : goal.invariant-loop-key
invariant-loop-key l = are_quotas (members_view l.key-iterator) ≡ are_quotas (table_view l.table)
