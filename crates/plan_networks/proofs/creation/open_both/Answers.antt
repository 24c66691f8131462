use Rattle.std.proofs.Common.{◌≡◌, ◌+◌, None, ap, arith, subst, sym}
use Rattle.api_types.specs.Registration.{ident}
use Rattle.api_types.specs.RowLists.{RowLists}
use Rattle.api_types.specs.Table.{row_of}
use Rattle.api_types.specs.declared.policy.Action.TheVariants.{Shared}
use Rattle.api_types.specs.declared.policy.PolicyRow.{PolicyRow}
use Rattle.plan_networks.specs.NetworkCalls.{one_if}
use Rattle.plan_networks.proofs.EditLemmas.{absent_opened}
use Rattle.plan_networks.proofs.creation.open_both.Goals as goal

pub open-requires-clause-new : goal.open-requires-clause-new
open-requires-clause-new c = λ opens.
    let one = ap one_if opens in
    let none = c.requires.new 0 (omega (arith, one)) in
    subst (λ k. row_of (λ (l : PolicyRow). l.id) (ident c.args.ordinal k) c.args.draft.rows.policies ≡ None) (omega arith) none

pub open-requires-2-clause-new : goal.open-requires-2-clause-new
open-requires-2-clause-new c = λ opens.
    let one = ap one_if opens in
    let none = c.requires.new (one_if c.args.shared) (omega (arith, one)) in
    let behind = absent_opened c.args.draft.rows c.args.network.now Shared c.args.ordinal c.args.first c.args.shared none in
    let at_rows = subst (λ (r : RowLists). row_of (λ (l : PolicyRow). l.id) (ident c.args.ordinal (c.args.first + one_if c.args.shared)) r.policies ≡ None) (sym c.in_ok-draft.ensures.rows) behind in
    subst (λ k. row_of (λ (l : PolicyRow). l.id) (ident c.args.ordinal (c.args.first + k)) c.in_ok-draft.draft.rows.policies ≡ None) (sym c.one_if.ensures.value) at_rows
