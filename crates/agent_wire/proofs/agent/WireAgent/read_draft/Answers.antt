use Rattle.std.proofs.Common.{◌≡◌, ◌++◌, [], List, false, subst}
use Rattle.std.specs.Prelude.{IfOk, MatchOption}
use Rattle.api_types.specs.Rows.{no_rows}
use Rattle.api_types.specs.declared.page.PageRow.{PageRow}
use Rattle.wire_types.specs.Pages.{rows_from}
use Rattle.agent_wire.specs.Snapshots.{are_new, drafted}
use Rattle.agent_wire.specs.declared.agent.Phase.TheVariants.{Check, Follow}
use Rattle.agent_wire.proofs.PhaseLemmas.{checks_drafted, follows_drafted, seen}
use Rattle.agent_wire.proofs.agent.WireAgent.read_draft.Goals as goal

pub returns-in-Check : goal.returns-in-Check
returns-in-Check c =
    let i = c.self.inside in
    let none : [] ≡ drafted c.args.self.now.state = seen i.host i.settings i.node i.phase c.args.self.now c.self.view_is drafted [] Check c.in-Check.is (checks_drafted i.node) in
    subst (λ (m : List PageRow). IfOk c.read_snapshot.result (λ o. MatchOption o (are_new (drafted c.args.self.now.state ++ m) no_rows ≡ false) (λ rows. rows ≡ rows_from (drafted c.args.self.now.state ++ m)))) c.as_slice.ensures
    (subst (λ (l : List PageRow). IfOk c.read_snapshot.result (λ o. MatchOption o (are_new (l ++ c.as_slice.result.now) no_rows ≡ false) (λ rows. rows ≡ rows_from (l ++ c.as_slice.result.now)))) none c.read_snapshot.ensures)

pub returns-in-Draft : goal.returns-in-Draft
returns-in-Draft c =
    let i = c.self.inside in
    let earlier : c.as_slice-in-Draft.result.now ≡ drafted c.args.self.now.state = seen i.host i.settings i.node i.phase c.args.self.now c.self.view_is drafted _ _ c.in-Draft.is c.as_slice-in-Draft.ensures.value in
    subst (λ (m : List PageRow). IfOk c.read_snapshot-in-Draft.result (λ o. MatchOption o (are_new (drafted c.args.self.now.state ++ m) no_rows ≡ false) (λ rows. rows ≡ rows_from (drafted c.args.self.now.state ++ m)))) c.as_slice-in-Draft-2.ensures
    (subst (λ (l : List PageRow). IfOk c.read_snapshot-in-Draft.result (λ o. MatchOption o (are_new (l ++ c.as_slice-in-Draft-2.result.now) no_rows ≡ false) (λ rows. rows ≡ rows_from (l ++ c.as_slice-in-Draft-2.result.now)))) earlier c.read_snapshot-in-Draft.ensures)

pub returns-in-Follow : goal.returns-in-Follow
returns-in-Follow c =
    let i = c.self.inside in
    let none : [] ≡ drafted c.args.self.now.state = seen i.host i.settings i.node i.phase c.args.self.now c.self.view_is drafted [] Follow c.in-Follow.is (follows_drafted i.node) in
    subst (λ (m : List PageRow). IfOk c.read_snapshot-in-Follow.result (λ o. MatchOption o (are_new (drafted c.args.self.now.state ++ m) no_rows ≡ false) (λ rows. rows ≡ rows_from (drafted c.args.self.now.state ++ m)))) c.as_slice-in-Follow.ensures
    (subst (λ (l : List PageRow). IfOk c.read_snapshot-in-Follow.result (λ o. MatchOption o (are_new (l ++ c.as_slice-in-Follow.result.now) no_rows ≡ false) (λ rows. rows ≡ rows_from (l ++ c.as_slice-in-Follow.result.now)))) none c.read_snapshot-in-Follow.ensures)
