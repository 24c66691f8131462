use Rattle.std.specs.Prelude.{option_map}
use Rattle.std.specs.HashMap.{get}
use Rattle.api_types.specs.Ident.{Ident}
use Rattle.api_types.specs.Table.{ident_eq}
use Rattle.l2_delta.specs.Covers.{Looked}
use Rattle.l2_delta.proofs.ruled.look_up_for.Given as goal

-- what was looked up covers the rules of its group
abbrev pub invariant-loop-group : goal.invariant-loop-group
invariant-loop-group l = (g : Ident) → Looked l.rules g (option_map (λ v. v.items) (get ident_eq l.by_group g))
