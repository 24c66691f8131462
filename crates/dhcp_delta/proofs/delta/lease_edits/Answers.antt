use Rattle.std.proofs.Common.{subst}
use Rattle.std.specs.Prelude.{IfOk, nat_lt}
use Rattle.plane_types.specs.KeyedTables.{keyed_leases}
use Rattle.plane_types.specs.NumberedRows.{numbered_rows, numbered_rows_after}
use Rattle.plane_types.specs.TableRows.{lease_rows}
use Rattle.table_edits.specs.Rewires.{Rewires}
use Rattle.touched_rows.specs.declared.rewiring.Rewiring.{Rewiring}
use Rattle.touched_rows.proofs.SeesLemmas.{live_seen}
use Rattle.dhcp_delta.proofs.delta.lease_edits.Goals as goal

pub of-requires-clause-live : goal.of-requires-clause-live
of-requires-clause-live c k p away at =
    let change = c.args.change.now in
    live_seen change.before.now change.after.now change.old change.new p (c.requires.networks k p away at)

pub of-requires-clause-tag : goal.of-requires-clause-tag
of-requires-clause-tag c k p away at can = (c.requires.networks k p away at can).tag

pub returns : goal.returns
returns c =
    subst
    (λ (change : Rewiring). IfOk c.edits_by.result (λ es. Rewires nat_lt
    (keyed_leases (numbered_rows change.before.now) change.host.now change.old)
    (keyed_leases (numbered_rows_after change.before.now change.items.now) change.host.now change.new)
    change.tables.now.lists.leases (lease_rows change.after.now change.host.now change.new) es))
    c.in_ok-servers.ensures.change c.edits_by.ensures
