use Rattle.std.proofs.Common.{◌≡◌, ◌∙◌, ◌++◌, List, ap, slice_get, sym, ℕ}
use Rattle.std.specs.Prelude.{nat_lt}
use Rattle.std.specs.HashSet.{contains}
use Rattle.std.proofs.lemmas.Result.{IfOk-weaker}
use Rattle.api_types.specs.Table.{ident_eq}
use Rattle.table_edits.specs.EditsAt.{among}
use Rattle.touched_rows.specs.TouchedNumbers.{numbers_from}
use Rattle.l2_delta.specs.Filtered.{is_filtered_by}
use Rattle.l2_delta.proofs.CoverLemmas.{among_neither, at_place, not_among}
use Rattle.l2_delta.proofs.filters.filtered_ports.Goals as goal

pub returns-clause-touched : goal.returns-clause-touched
returns-clause-touched c =
    let change = c.args.change.now in
    let touched = c.args.touched.now in
    let test = is_filtered_by change.before.now change.host.now (contains ident_eq c.args.groups.now) in
    let found = numbers_from test 0 c.rows.result.now in
    let all : c.add_filtered.new.numbers.items ≡ touched ++ found = c.in_ok-add_filtered.ensures ∙ ap (λ (ns : List ℕ). ns ++ found) c.in_ok-numbers.ensures.items in
    IfOk-weaker c.descending.result _ _ (λ ks same k away. (among_neither k touched found (ap (among nat_lt k) (sym all) ∙ sym (same k) ∙ away)).0) c.descending.ensures.same

pub returns-clause-others : goal.returns-clause-others
returns-clause-others c =
    let change = c.args.change.now in
    let touched = c.args.touched.now in
    let test = is_filtered_by change.before.now change.host.now (contains ident_eq c.args.groups.now) in
    let found = numbers_from test 0 c.rows.result.now in
    let all : c.add_filtered.new.numbers.items ≡ touched ++ found = c.in_ok-add_filtered.ensures ∙ ap (λ (ns : List ℕ). ns ++ found) c.in_ok-numbers.ensures.items in
    IfOk-weaker c.descending.result _ _ (λ ks same k p away at.
    not_among test c.rows.result.now k p (ap (λ rs. slice_get rs k) c.rows.ensures.rows ∙ sym (at_place change.ports.rows k) ∙ at)
    (among_neither k touched found (ap (among nat_lt k) (sym all) ∙ sym (same k) ∙ away)).1) c.descending.ensures.same
