use Rattle.plan_routers.proofs.OwnerLemmas.{project_named}
use Rattle.plan_routers.proofs.adding.add_interface.Goals as goal

pub add_to_router-requires : goal.add_to_router-requires
add_to_router-requires c =
    project_named c.args.asking.now.state.rows c.args.asking.now.caller c.args.name.now.id c.in_ok-router.router.now c.in_ok-router.ensures.consistent c.in_ok-router.ensures.found
