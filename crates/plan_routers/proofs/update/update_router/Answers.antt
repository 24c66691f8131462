use Rattle.plan_routers.proofs.OwnerLemmas.{project_named}
use Rattle.plan_routers.proofs.update.update_router.Goals as goal

pub change_router-requires : goal.change_router-requires
change_router-requires c =
    project_named c.args.asking.now.state.rows c.args.asking.now.caller c.args.name.now.id c.in_ok-router.router.now c.in_ok-router.ensures.consistent c.in_ok-router.ensures.found
