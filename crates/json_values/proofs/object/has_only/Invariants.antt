use Rattle.std.proofs.Common.{◌≡◌, map}
use Rattle.serde_json.specs.View.{members_view}
use Rattle.json_values.specs.Values.{has_only}
use Rattle.json_values.proofs.object.has_only.Given as goal

-- the answer is that for the members that are left
abbrev pub invariant-loop-name : goal.invariant-loop-name
invariant-loop-name l = has_only (map (λ s. s.now) l.names) (members_view l.name-iterator) ≡ has_only (map (λ s. s.now) l.names) (members_view l.object.entries)
