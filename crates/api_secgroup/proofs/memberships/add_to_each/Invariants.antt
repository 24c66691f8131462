use Rattle.std.proofs.Common.{◌≡◌, ◌++◌, ◌∷◌, [], None, Some, drop, map}
use Rattle.std.specs.Prelude.{◌&&◌, if◌then◌else◌, not}
use Rattle.std.specs.HashMap.{get}
use Rattle.std.specs.HashSet.{contains}
use Rattle.api_types.specs.Ident.{Ident}
use Rattle.api_types.specs.Members.{names_group}
use Rattle.api_types.specs.Table.{ident_eq}
use Rattle.api_secgroup.proofs.memberships.add_to_each.Given as goal

-- the port is with each group so far, and is to be with those that are left and weren't seen
abbrev pub invariant-loop-group : goal.invariant-loop-group
invariant-loop-group l =
    (q : Ident) → elim (get ident_eq l.by_group q) [ None ↦ [] | Some v ↦ map (λ p. p.now) v.items ]
    ++ (if names_group q (drop l.group-index l.groups) && not (contains ident_eq l.seen q) then l.port ∷ [] else [])
    ≡ elim (get ident_eq l.fn.by_group q) [ None ↦ [] | Some v ↦ map (λ p. p.now) v.items ] ++ (if names_group q l.groups then l.port ∷ [] else [])
