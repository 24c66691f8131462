use Rattle.std.proofs.Common.{◌≡◌, ◌∙◌, ◌+◌, None, ap, arith, subst, sym}
use Rattle.api_policy.specs.Uses.{open_policy}
use Rattle.api_types.specs.Registration.{ident}
use Rattle.api_types.specs.RowLists.{RowLists}
use Rattle.api_types.specs.Table.{row_of}
use Rattle.api_types.specs.declared.policy.Action.TheVariants.{External, Shared}
use Rattle.api_types.specs.declared.policy.PolicyRow.{PolicyRow}
use Rattle.plan_networks.specs.NetworkCalls.{is_opened, one_if, opens}
use Rattle.plan_networks.proofs.EditLemmas.{absent_reopened}
use Rattle.plan_networks.proofs.update.reopen_both.Goals as goal

pub reopen-requires-clause-new : goal.reopen-requires-clause-new
reopen-requires-clause-new c = λ opened.
    let n = c.args.network.now in
    let asked = c.args.form.now.shared in
    let same = c.rows-policies.ensures.rows ∙ c.policies.ensures in
    let one : opens c.args.rows.now n Shared asked ≡ 1 = ap (λ policies. one_if (is_opened asked (open_policy policies n.id Shared))) (sym same) ∙ ap one_if opened in
    let none = c.requires.new 0 (omega (arith, one)) in
    subst (λ k. row_of (λ (l : PolicyRow). l.id) (ident c.args.ordinal k) c.args.draft.rows.policies ≡ None) (omega arith) none

pub reopen-requires-2-clause-new : goal.reopen-requires-2-clause-new
reopen-requires-2-clause-new c = λ opened.
    let n = c.args.network.now in
    let shared = c.args.form.now.shared in
    let external = c.args.form.now.router_external in
    let seen = c.rows-policies.result.now in
    let same = c.rows-policies.ensures.rows ∙ c.policies.ensures in
    let one : opens c.args.rows.now n External external ≡ 1 = ap (λ policies. one_if (is_opened external (open_policy policies n.id External))) (sym same) ∙ ap one_if opened in
    let none = c.requires.new (opens c.args.rows.now n Shared shared) (omega (arith, one)) in
    let there = subst (λ policies. row_of (λ (l : PolicyRow). l.id) (ident c.args.ordinal (c.args.first + one_if (is_opened shared (open_policy policies n.id Shared)))) c.args.draft.rows.policies ≡ None) (sym same) none in
    let behind = absent_reopened c.args.draft.rows n seen Shared shared c.args.ordinal c.args.first there in
    let at_rows = subst (λ (r : RowLists). row_of (λ (l : PolicyRow). l.id) (ident c.args.ordinal (c.args.first + one_if (is_opened shared (open_policy seen n.id Shared)))) r.policies ≡ None) (sym c.in_ok-draft.ensures.rows) behind in
    let count : one_if (is_opened shared (open_policy seen n.id Shared)) ≡ c.opens.result = ap (λ policies. one_if (is_opened shared (open_policy policies n.id Shared))) same ∙ sym c.opens.ensures.count in
    subst (λ k. row_of (λ (l : PolicyRow). l.id) (ident c.args.ordinal (c.args.first + k)) c.in_ok-draft.draft.rows.policies ≡ None) count at_rows
