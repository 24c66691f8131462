use Rattle.std.proofs.Common.{◌≡◌, ◌∙◌, ◌+◌, ◌<◌, ◌≤◌, ◌++◌, List, true, drop, length, get_or, ap, subst, sym, arith, append_assoc}
use Rattle.std.specs.Prelude.{flat_map}
use Rattle.std.specs.BTreeSet.{contains}
use Rattle.std.specs.List.{filter_map}
use Rattle.std.specs.Ordering.{nat_cmp}
use Rattle.std.proofs.lemmas.List.{append-nil}
use Rattle.api_types.specs.RowLists.{RowLists}
use Rattle.api_types.specs.Table.{HaveOwnIds}
use Rattle.api_types.specs.declared.group.GroupRow.{GroupRow}
use Rattle.plane_types.specs.TableRows.{filter_by, filters_of_group}
use Rattle.l2_agent.specs.Indices.{id_of, is_named_at}
use Rattle.l2_agent.proofs.IndexLemmas.{at_from, given_here, named_is, nothing_left, skipped, within_groups}
use Rattle.l2_agent.proofs.filters.add_groups.Goals as goal

pub group_at-requires : goal.group_at-requires
group_at-requires c =
    let groups = c.args.ruled.now.groups in
    let ids = c.args.port.now.groups in
    let place = c.in-Some.place in
    let inv = c.loop-place.invariant in
    let table = c.groups.ensures ∙ ap (λ (r : RowLists). r.groups) c.rows.ensures in
    let same : c.rows-groups.result.now ≡ groups = c.rows-groups.ensures.rows ∙ table in
    let own : HaveOwnIds id_of groups = subst (HaveOwnIds id_of) table c.rows-groups.ensures.own_ids in
    let behind : inv.0 ≤ place = at_from inv.0 place (contains nat_cmp c.loop-place.indices) inv.3 c.in-Some.ensures.member in
    let within = within_groups groups ids place (sym (named_is groups ids place own) ∙ sym (inv.2 place behind) ∙ c.in-Some.ensures.member) in
    subst (λ (gs : List GroupRow). place < length gs) (sym same) within

pub loop-place-preserved : goal.loop-place-preserved
loop-place-preserved c =
    let groups = c.args.ruled.now.groups in
    let ids = c.args.port.now.groups in
    let place = c.in-Some.place in
    let inv = c.loop-place.invariant in
    let from = inv.0 in
    let table = c.groups.ensures ∙ ap (λ (r : RowLists). r.groups) c.rows.ensures in
    let same : c.rows-groups.result.now ≡ groups = c.rows-groups.ensures.rows ∙ table in
    let own : HaveOwnIds id_of groups = subst (HaveOwnIds id_of) table c.rows-groups.ensures.own_ids in
    let filters = c.loop-place.filters in
    let row = c.group_at.result.now in
    let given = λ (g : GroupRow). filter_map (filter_by c.args.port.now g) c.args.ruled.now.rules in
    let behind : from ≤ place = at_from from place (contains nat_cmp c.loop-place.indices) inv.3 c.in-Some.ensures.member in
    let here : is_named_at groups ids place ≡ true = sym (named_is groups ids place own) ∙ sym (inv.2 place behind) ∙ c.in-Some.ensures.member in
    let passed = skipped given ids groups from place behind (λ p le lt. sym (named_is groups ids p own) ∙ sym (inv.2 p le) ∙ c.in-Some.ensures.least p lt) in
    let next = given_here given ids groups place row here in
    let is : row ≡ get_or groups place row = c.group_at.ensures row ∙ ap (λ (gs : List GroupRow). get_or gs place row) same in
    let rest = flat_map (filters_of_group c.args.ruled.now c.args.port.now) (drop (place + 1) groups) in (
      place + 1,
      ap (λ xs. xs ++ rest) c.in_ok-add_group.ensures
          ∙ append_assoc filters (given row) rest
          ∙ ap (λ (g : GroupRow). filters ++ (given g ++ rest)) is
          ∙ ap (λ xs. filters ++ xs) (sym (passed ∙ next))
          ∙ inv.1,
      (λ p le. c.in-Some.ensures.rest p (omega (arith, le)) ∙ inv.2 p (omega (arith, behind, le))),
      (λ p lt. c.in-Some.ensures.gone p (omega (arith, lt))),
    )

pub returns : goal.returns
returns c =
    let groups = c.args.ruled.now.groups in
    let ids = c.args.port.now.groups in
    let inv = c.loop-place.invariant in
    let table = c.groups.ensures ∙ ap (λ (r : RowLists). r.groups) c.rows.ensures in
    let own : HaveOwnIds id_of groups = subst (HaveOwnIds id_of) table c.rows-groups.ensures.own_ids in
    let filters = c.loop-place.filters in
    let given = λ (g : GroupRow). filter_map (filter_by c.args.port.now g) c.args.ruled.now.rules in
    let none = nothing_left given ids groups inv.0 (λ p le. sym (named_is groups ids p own) ∙ sym (inv.2 p le) ∙ c.in_default.ensures.none p) in
    sym (append-nil filters) ∙ ap (λ xs. filters ++ xs) (sym none) ∙ inv.1
