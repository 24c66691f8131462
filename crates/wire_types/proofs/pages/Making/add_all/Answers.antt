use Rattle.std.proofs.Common.{◌≡◌, ap, ◌∙◌}
use Rattle.std.proofs.lemmas.Result.{on_ok_weaker}
use Rattle.api_types.specs.declared.kind.Row.TheVariants.{Floating, Group, Network, Policy, Port, Project, Router, Rule, Subnet}
use Rattle.wire_types.specs.Pages.{page_rows}
use Rattle.wire_types.specs.PagesMade.{with_rows}
use Rattle.wire_types.proofs.PagesMadeLemmas.{nine_more}
use Rattle.wire_types.proofs.pages.Making.add_all.Goals as goal

pub returns : goal.returns
returns c =
    let rows = c.args.rows.now in
    let a = page_rows Project rows.projects in
    let b = page_rows Network rows.networks in
    let d = page_rows Subnet rows.subnets in
    let e = page_rows Port rows.ports in
    let f = page_rows Group rows.groups in
    let g = page_rows Rule rows.rules in
    let h = page_rows Router rows.routers in
    let i = page_rows Floating rows.floatings in
    let k = page_rows Policy rows.policies in
    on_ok_weaker c.add-9.result
    (λ last. last
    ∙ ap (λ p. with_rows p k) (c.in_ok-add-8.ensures
    ∙ ap (λ p. with_rows p i) (c.in_ok-add-7.ensures
    ∙ ap (λ p. with_rows p h) (c.in_ok-add-6.ensures
    ∙ ap (λ p. with_rows p g) (c.in_ok-add-5.ensures
    ∙ ap (λ p. with_rows p f) (c.in_ok-add-4.ensures
    ∙ ap (λ p. with_rows p e) (c.in_ok-add-3.ensures
    ∙ ap (λ p. with_rows p d) (c.in_ok-add-2.ensures
    ∙ ap (λ p. with_rows p b) c.in_ok-add.ensures)))))))
    ∙ nine_more c.args.self.now a b d e f g h i k)
    c.add-9.ensures
