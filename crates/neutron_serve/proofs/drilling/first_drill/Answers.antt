use Rattle.std.proofs.Common.{◌∙◌, false}
use Rattle.world_laws.specs.World.{first_world}
use Rattle.neutron_serve.proofs.drilling.first_drill.Goals as goal

pub returns-in-Ok : goal.returns-in-Ok
returns-in-Ok c =
    let world = c.in-Ok.ensures.ok ∙ (λ j. first_world (c.in_ok-settings.ensures.value j) false (c.in_ok-rows.ensures j)) in
    λ j. record { world = world j; tally = c.new.ensures j }
