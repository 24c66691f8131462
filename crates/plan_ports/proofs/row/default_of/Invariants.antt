use Rattle.std.proofs.Common.{◌≡◌, drop}
use Rattle.std.specs.Prelude.{find}
use Rattle.api_types.specs.Consistent.Groups.{is_default_of}
use Rattle.plan_ports.proofs.row.default_of.Given as goal

-- none so far is the project's default group
abbrev pub invariant-loop-group : goal.invariant-loop-group
invariant-loop-group l = find (is_default_of l.owner) (drop l.group-index l.groups) ≡ find (is_default_of l.owner) l.groups
