use Rattle.std.proofs.Common.{◌≡◌, map}
use Rattle.toml.specs.View.{members_view, table_view}
use Rattle.wanted_files.specs.Values.{has_only}
use Rattle.wanted_files.proofs.values.has_only.Given as goal

-- the answer is that for the members that are left
abbrev pub invariant-loop-key : goal.invariant-loop-key
invariant-loop-key l = has_only (map (λ s. s.now) l.keys) (members_view l.key-iterator) ≡ has_only (map (λ s. s.now) l.keys) (table_view l.table)
