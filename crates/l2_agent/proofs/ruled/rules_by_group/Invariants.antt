use Rattle.std.proofs.Common.{◌≡◌, ◌++◌, drop, map, [], None, Some}
use Rattle.std.specs.HashMap.{get}
use Rattle.std.specs.List.{filter}
use Rattle.api_types.specs.Ident.{Ident}
use Rattle.api_types.specs.Table.{ident_eq}
use Rattle.l2_agent.specs.Ruled.{is_of}
use Rattle.l2_agent.proofs.ruled.rules_by_group.Given as goal

-- those of a group so far, and those that are left, are all of it
abbrev pub invariant-loop-rule : goal.invariant-loop-rule
invariant-loop-rule l =
    (q : Ident) → elim (get ident_eq l.by_group q) [ None ↦ [] | Some v ↦ map (λ r. r.now) v.items ] ++ filter (is_of q) (drop l.rule-index l.rules) ≡ filter (is_of q) l.rules
