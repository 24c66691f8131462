use Rattle.std.proofs.Common.{◌≡◌, ◌++◌, drop, map}
use Rattle.std.specs.Prelude.{filter}
use Rattle.api_types.specs.Table.{ident_eq}
use Rattle.api_types.specs.declared.policy.PolicyRow.{PolicyRow}
use Rattle.plan_networks.proofs.deletion.policies_on.Given as goal

abbrev pub invariant-loop-policy : goal.invariant-loop-policy
invariant-loop-policy l =
    l.ids ++ map (λ (p : PolicyRow). p.id) (filter (λ (p : PolicyRow). ident_eq l.network p.object) (drop l.policy-index l.policies))
    ≡ map (λ (p : PolicyRow). p.id) (filter (λ (p : PolicyRow). ident_eq l.network p.object) l.policies)
