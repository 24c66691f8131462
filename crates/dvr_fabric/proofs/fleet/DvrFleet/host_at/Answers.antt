use Rattle.std.proofs.Common.{◌∙◌, ◌<◌, ap, length, subst, sym}
use Rattle.dvr_fabric.proofs.HostLemmas.{hosts_long}
use Rattle.dvr_fabric.proofs.fleet.DvrFleet.host_at.Goals as goal

pub host_of-requires-clause-within : goal.host_of-requires-clause-within
host_of-requires-clause-within c = subst (λ n. c.args.at < n) (sym (ap length c.self.view_is) ∙ hosts_long c.self.inside.hosts.now c.self.inside.entries.now c.self.invariant) c.requires
