use Rattle.std.proofs.Common.{◌≡◌, ◌++◌, false, subst}
use Rattle.std.specs.Prelude.{IfOk, MatchOption}
use Rattle.api_types.specs.Rows.{no_rows}
use Rattle.wire_types.specs.Pages.{rows_from}
use Rattle.agent_wire.specs.HostAgents.{PutsRows}
use Rattle.agent_wire.specs.Snapshots.{are_new, drafted}
use Rattle.agent_wire.proofs.SaidLemmas.{put_badly}
use Rattle.agent_wire.proofs.SnapshotLemmas.{not_consistent}
use Rattle.agent_wire.proofs.agent.WireAgent.take_last_page.Goals as goal

pub returns-in-Some-clause-ok : goal.returns-in-Some-clause-ok
returns-in-Some-clause-ok c =
    let all = drafted c.args.self.now.state ++ c.args.more.now in
    let same : c.in-Some.rows ≡ rows_from all = subst (λ o. MatchOption o (are_new all no_rows ≡ false) (λ rows. rows ≡ rows_from all)) c.in-Some.is c.in_ok-rows.ensures in
    subst (λ r. IfOk c.put_rows.result (λ s. PutsRows c.args.self.now c.args.version r s c.put_rows.new.self)) same c.put_rows.ensures.ok

pub returns-in-None-clause-ok : goal.returns-in-None-clause-ok
returns-in-None-clause-ok c =
    let all = drafted c.args.self.now.state ++ c.args.more.now in
    let old_ids : are_new all no_rows ≡ false = subst (λ o. MatchOption o (are_new all no_rows ≡ false) (λ rows. rows ≡ rows_from all)) c.in-None.is c.in_ok-rows.ensures in
    put_badly c.args.self.now c.args.version (rows_from all) (λ sound. not_consistent all old_ids sound.consistent)
