use Rattle.std.proofs.Common.{◌≡◌, None, subst, true}
use Rattle.api_policy.specs.Permits as permits
use Rattle.plan_routers.proofs.RefusalLemmas.{third_decides}
use Rattle.plan_routers.proofs.removal.ensure_removable_by_subnet.Goals as goal

pub returns : goal.returns
returns c =
    let asking = c.args.asking.now in
    let first : permits.owner_only asking.caller c.args.router.now.project ≡ None =
    subst (λ caller. permits.owner_only caller c.args.router.now.project ≡ None) c.caller.ensures c.in_ok-owner_only.ensures in
    let second : permits.network_owner asking.state.rows asking.caller true c.args.network ≡ None =
    subst (λ rows. permits.network_owner rows asking.caller true c.args.network ≡ None) c.rows.ensures.rows
    (subst (λ caller. permits.network_owner c.rows.result.now caller true c.args.network ≡ None) c.caller-2.ensures c.in_ok-network_owner.ensures) in
    third_decides _ _ _ c.ensure_unneeded.result first second c.ensure_unneeded.ensures
