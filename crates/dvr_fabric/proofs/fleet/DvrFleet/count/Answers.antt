use Rattle.std.proofs.Common.{◌∙◌, ap, length, sym}
use Rattle.dvr_fabric.proofs.HostLemmas.{hosts_long}
use Rattle.dvr_fabric.proofs.fleet.DvrFleet.count.Goals as goal

pub returns : goal.returns
returns c = sym (hosts_long c.self.inside.hosts.now c.self.inside.entries.now c.self.invariant) ∙ ap length c.self.view_is
