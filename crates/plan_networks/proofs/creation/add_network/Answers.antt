use Rattle.std.proofs.Common.{◌≡◌, ◌∙◌, ◌+◌, None, arith, subst, sym}
use Rattle.std.specs.Prelude.{false}
use Rattle.api_types.specs.Given.{value_or}
use Rattle.api_types.specs.Ident.{Ident}
use Rattle.api_types.specs.Registration.{ident}
use Rattle.api_types.specs.Table.{row_of}
use Rattle.api_types.specs.declared.network.NetworkRow.{NetworkRow}
use Rattle.api_types.specs.declared.policy.PolicyRow.{PolicyRow}
use Rattle.call_parts.specs.Answers.{drawing_of}
use Rattle.plan_networks.proofs.EditLemmas.{added_with_policies}
use Rattle.call_parts.proofs.EditLaws.{ok_by_both}
use Rattle.plan_networks.proofs.creation.add_network.Goals as goal

pub add_with_policies-requires-clause-new_network : goal.add_with_policies-requires-clause-new_network
add_with_policies-requires-clause-new_network c =
    let networks = c.args.drawn.draft.rows.networks in
    let none = (c.requires.new 0 (omega arith)).networks in
    let first = subst (λ k. row_of (λ (n : NetworkRow). n.id) (ident c.args.drawn.ordinal k) networks ≡ None) (omega arith) none in
    let id : c.in_ok-network.network.id ≡ ident c.args.drawn.ordinal c.args.drawn.first = (λ j. (c.in_ok-network.ensures j).id) ∙ c.make.ensures in
    subst (λ (i : Ident). row_of (λ (n : NetworkRow). n.id) i networks ≡ None) (sym id) first

pub add_with_policies-requires-clause-new_policies : goal.add_with_policies-requires-clause-new_policies
add_with_policies-requires-clause-new_policies c = λ k less.
    let none = (c.requires.new (1 + k) (omega (arith, less))).policies in
    subst (λ n. row_of (λ (l : PolicyRow). l.id) (ident c.args.drawn.ordinal n) c.args.drawn.draft.rows.policies ≡ None) (omega arith) none

pub returns-clause-rows : goal.returns-clause-rows
returns-clause-rows c =
    let drawing = drawing_of c.args.drawn in
    let n = c.in_ok-network.network in
    ok_by_both _ _ _ c.add_with_policies.result
    (λ p is leads. leads ∙ added_with_policies drawing.rows p.row n drawing (value_or false c.args.form.now.shared) (value_or false c.args.form.now.router_external) is)
    c.add_with_policies.ensures.row c.add_with_policies.ensures.rows
