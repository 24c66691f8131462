use Rattle.std.proofs.Common.{◌∙◌, map, subst, sym}
use Rattle.api_types.specs.Lists.{Each}
use Rattle.plane_types.specs.Node.{agents_of, host_of}
use Rattle.plane_types.specs.Attached.{IsAttached}
use Rattle.plane_types.specs.Verdicts.{with_made}
use Rattle.lab_world.proofs.hosts.Hosts.keep.Goals as goal

pub keep_all-requires-clause-placed : goal.keep_all-requires-clause-placed
keep_all-requires-clause-placed c =
    subst (λ nodes. Each IsAttached (with_made (map host_of (agents_of nodes)) c.args.fresh.now)) (sym (c.as_mut_slice.ensures.value ∙ c.self.view_is)) c.requires.placed
