use Rattle.std.proofs.Common.{List, ◌∙◌, subst, sym}
use Rattle.plane_types.specs.Node.{Node}
use Rattle.lab_world.specs.Hosts.{CanTakeAll}
use Rattle.lab_world.proofs.hosts.Hosts.take.Goals as goal

pub take_all-requires : goal.take_all-requires
take_all-requires c = subst (λ (nodes : List Node). CanTakeAll nodes c.args.ready.items) (sym (c.as_mut_slice.ensures.value ∙ c.self.view_is)) c.requires
