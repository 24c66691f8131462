use Rattle.std.proofs.Common.{◌≡◌, Some, ap, subst, sym}
use Rattle.api_types.specs.Lists.{Each}
use Rattle.plane_types.specs.Node.{Agent, Node}
use Rattle.world_laws.specs.World.{IsSynced}
use Rattle.world_laws.proofs.Lists.{each_map, map_each}
use Rattle.lab_world.proofs.world.World.synced.Goals as goal

pub returns : goal.returns
returns c =
    let i = c.self.inside in
    let number : Some c.version.result ≡ Some i.machine.version = ap Some c.version.ensures in (
      (λ t. subst IsSynced c.self.view_is (each_map (λ (n : Node). n.agent) (λ (a : Agent). a.held ≡ Some i.machine.version) i.hosts
          (subst (λ (o : _). Each (λ (n : Node). n.agent.held ≡ o) i.hosts) number (c.all_hold.ensures.0 t)))),
      (λ s. c.all_hold.ensures.1 (subst (λ (o : _). Each (λ (n : Node). n.agent.held ≡ o) i.hosts) (sym number)
          (map_each (λ (n : Node). n.agent) (λ (a : Agent). a.held ≡ Some i.machine.version) i.hosts (subst IsSynced (sym c.self.view_is) s)))),
    )
