use Rattle.std.proofs.Common.{◌≡◌, ◌++◌, drop, map, [], None, Some}
use Rattle.std.specs.HashMap.{get}
use Rattle.std.specs.List.{filter}
use Rattle.api_types.specs.Ident.{Ident}
use Rattle.api_types.specs.Table.{ident_eq}
use Rattle.api_secgroup.specs.Named.{names}
use Rattle.api_secgroup.proofs.memberships.ports_by_group.Given as goal

-- those of a group so far, and those that are left, are all of it
abbrev pub invariant-loop-port : goal.invariant-loop-port
invariant-loop-port l =
    (q : Ident) → elim (get ident_eq l.by_group q) [ None ↦ [] | Some v ↦ map (λ p. p.now) v.items ] ++ filter (names q) (drop l.port-index l.ports) ≡ filter (names q) l.ports
