use Rattle.std.proofs.Common.{◌∙◌, subst, sym}
use Rattle.api_types.specs.Lists.{Each}
use Rattle.plane_types.specs.Node.{CanFollow, Node}
use Rattle.lab_world.proofs.hosts.Hosts.prepare_told.Goals as goal

pub prepare_all-requires-clause-fits : goal.prepare_all-requires-clause-fits
prepare_all-requires-clause-fits c =
    subst (λ nodes. Each (λ (n : Node). CanFollow n.agent c.args.number c.args.change.now) nodes) (sym (c.as_mut_slice-nodes.ensures.value ∙ c.self.view_is)) c.requires.fits
