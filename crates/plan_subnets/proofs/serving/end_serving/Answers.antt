use Rattle.std.proofs.Common.{◌≡◌, ◌∙◌, Bool, IfOk, List, Option, Some, ap, false, refl, subst, sym, true}
use Rattle.api_types.specs.RowLists.{RowLists}
use Rattle.api_types.specs.declared.port.PortRow.{PortRow}
use Rattle.call_parts.specs.Drafts.{DraftParts}
use Rattle.call_parts.specs.Edits.{Edit, made}
use Rattle.plan_subnets.specs.DhcpUpkeep.{dhcp_port_on, end_serving, giving_back, unserving}
use Rattle.row_laws.specs.Leased.{outside}
use Rattle.plan_subnets.proofs.serving.end_serving.Goals as goal

pub returns-in_ok-left-in-Some-clause-rows : goal.returns-in_ok-left-in-Some-clause-rows
returns-in_ok-left-in-Some-clause-rows c =
    let rows : RowLists = c.args.draft.rows in
    let settled = ap (λ (d : DraftParts). d.rows) c.in_ok-settled.ensures in
    let draft : c.into_draft.result ≡ c.args.draft = c.into_draft.ensures ∙ c.in_ok-settled.ensures in
    let there : dhcp_port_on rows.ports c.args.network ≡ Some c.in-Some.port =
    sym (c.in_ok-port.ensures ∙ ap (λ (r : RowLists). dhcp_port_on r.ports c.args.network) (c.rows.ensures ∙ settled)) ∙ c.in-Some.is in
    let left : c.in_ok-left-in-Some.left ≡ outside c.args.subnet c.in-Some.port.fixed =
    c.in_ok-left-in-Some.ensures ∙ ap (outside c.args.subnet) c.as_slice.ensures in
    let same : giving_back rows.floatings c.in-Some.port c.in_ok-left-in-Some.left ≡ end_serving rows c.args.network c.args.ends c.args.subnet =
    ap (giving_back rows.floatings c.in-Some.port) left
    ∙ (ap (λ (o : Option PortRow). unserving rows o c.args.subnet) (sym there) ∙ by c.args.ends c.if-not-ends.false) in
    subst (λ (edits : List Edit). IfOk c.keep_only.result (λ d. d.rows ≡ made rows edits)) same
    (subst (λ (x : DraftParts). IfOk c.keep_only.result (λ d. d.rows ≡ made x.rows (giving_back x.rows.floatings c.in-Some.port c.in_ok-left-in-Some.left))) draft c.keep_only.ensures.rows)
  where
    by : (b : Bool) → b ≡ true → unserving c.args.draft.rows (dhcp_port_on c.args.draft.rows.ports c.args.network) c.args.subnet ≡ end_serving c.args.draft.rows c.args.network b c.args.subnet
    by true h = refl
    by false h = cc
