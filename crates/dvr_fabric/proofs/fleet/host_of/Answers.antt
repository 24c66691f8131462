use Rattle.std.proofs.Common.{◌<◌, subst, sym}
use Rattle.dvr_fabric.proofs.HostLemmas.{got, host_there, hosts_long}
use Rattle.dvr_fabric.proofs.fleet.host_of.Goals as goal

pub returns-clause-here : goal.returns-clause-here
returns-clause-here c =
    let hosts = c.args.hosts.now in
    let entries = c.args.entries.now in (
      subst (λ n. c.args.at < n) (sym (hosts_long hosts entries c.requires.lengths)) c.requires.within,
      host_there hosts entries c.args.at c.index-hosts-at.result c.index-entries-at.result
          (got hosts c.args.at c.index-hosts-at.result c.requires.within c.index-hosts-at.is)
          (got entries c.args.at c.index-entries-at.result (subst (λ n. c.args.at < n) c.requires.lengths c.requires.within) c.index-entries-at.is),
    )
