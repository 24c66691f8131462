use Rattle.std.proofs.Common.{drop, length, ◌++◌, ◌≡◌}
use Rattle.dvr_run.specs.Hosts.{first_hosts}
use Rattle.dvr_types.specs.DvrHosts.{dvr_hosts}
use Rattle.dvr_run.proofs.hosts.Hosts.of.Given as goal

abbrev pub invariant-loop-host : goal.invariant-loop-host
invariant-loop-host l =
    (length l.tables.items ≡ length l.entries.items)
    × (dvr_hosts l.tables.items l.entries.items ++ first_hosts l.rows (drop l.host-index l.hosts) ≡ first_hosts l.rows l.hosts)
