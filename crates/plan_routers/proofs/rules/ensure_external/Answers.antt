use Rattle.std.proofs.Common.{◌≡◌, ◌∙◌, sym, true}
use Rattle.std.specs.Prelude.{codes, not, ◌||◌}
use Rattle.api_types.specs.Refusing.{when}
use Rattle.api_types.specs.Sharing.{is_external_to}
use Rattle.api_types.specs.declared.refusal.Refusal.TheVariants.{Invalid}
use Rattle.api_router.proofs.WayLemmas.{none_overlaps}
use Rattle.plan_routers.proofs.rules.ensure_external.Goals as goal

pub returns : goal.returns
returns c =
    let rows = c.args.rows.now in
    let n = c.args.network.now in
    let is : is_external_to rows.policies n.id c.args.project.now ≡ true = sym c.is_external_to.ensures ∙ c.if-not-is_external_to.false in
    λ j. when (not (is j) || none_overlaps rows n j) (Invalid (codes "external_gateway_info"))
