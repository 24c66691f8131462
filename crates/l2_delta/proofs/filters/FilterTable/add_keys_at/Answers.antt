use Rattle.std.proofs.Common.{◌∙◌, ◌++◌, List, ℕ, ap, map, sym}
use Rattle.std.specs.Prelude.{nat_lt}
use Rattle.std.proofs.Math.Path.{transport}
use Rattle.std.proofs.lemmas.Result.{IfOk-weaker}
use Rattle.api_types.specs.Table.{ident_eq}
use Rattle.api_types.specs.declared.group.RuleRow.{RuleRow}
use Rattle.plane_types.specs.Keyed.{rows_by_key}
use Rattle.plane_types.specs.Numbered.{with_numbers}
use Rattle.plane_types.specs.NumberedRows.{numbered_rows}
use Rattle.plane_types.specs.TableRows.{filter_by}
use Rattle.plane_types.specs.declared.table.FilterRow.{FilterRow}
use Rattle.table_edits.specs.NumbersSeen.{Renumbered, at_before}
use Rattle.l2_delta.specs.Covers.{Covers}
use Rattle.l2_delta.proofs.CoverLemmas.{at_place}
use Rattle.l2_delta.proofs.CoveredFilters.{filters_there, none_named, none_there, rules_before}
use Rattle.l2_delta.proofs.GatherLemmas.{none_more}
use Rattle.l2_delta.proofs.filters.FilterTable.add_keys_at.Goals as goal

pub returns-in_default : goal.returns-in_default
returns-in_default c =
    let table = c.args.self.now in
    let n = numbered_rows table.change.now.before.now in
    let port = c.args.port.now in
    let groups = table.groups.now in
    none_more c.args.keys.now.items _ (ap (map (λ (x : (ℕ × ℕ) × FilterRow). x.0)) (none_there n port c.args.place (at_before groups c.args.place) (at_place groups.rows c.args.place ∙ sym c.in_default.ensures)))

pub returns-then-not-names_group : goal.returns-then-not-names_group
returns-then-not-names_group c =
    let table = c.args.self.now in
    let n = numbered_rows table.change.now.before.now in
    let port = c.args.port.now in
    let groups = table.groups.now in
    none_more c.args.keys.now.items _ (ap (map (λ (x : (ℕ × ℕ) × FilterRow). x.0)) (none_named n port c.args.place (at_before groups c.args.place) c.in-Some.group.now (at_place groups.rows c.args.place ∙ sym c.in-Some.ensures) (sym c.names_group.ensures ∙ c.if-not-names_group.true)))

pub returns : goal.returns
returns c =
    let table = c.args.self.now in
    let n = numbered_rows table.change.now.before.now in
    let port = c.args.port.now in
    let groups = table.groups.now in
    let group = c.in-Some.group.now in
    let found : Covers (λ (r : RuleRow). ident_eq r.group group.id) c.rules.result.now c.as_slice.result.now =
    transport (λ j. Covers (λ (r : RuleRow). ident_eq r.group group.id) (sym c.rules.ensures j) (sym c.as_slice.ensures.value j)) c.in_ok-numbers.ensures in
    let all = rules_before port group c.rules.result.now c.as_slice.result.now found
    ∙ ap (λ (m : Renumbered RuleRow). rows_by_key nat_lt (filter_by port group) (with_numbers 0 m.rows)) (c.rules.ensures ∙ table.rules_are) in
    let there = filters_there n port c.args.place (at_before groups c.args.place) group (at_place groups.rows c.args.place ∙ sym c.in-Some.ensures) (sym c.names_group.ensures ∙ c.if-not-names_group.false) _ all in
    IfOk-weaker c.add_keys.result _ _ (λ u h. h ∙ ap (λ (xs : List ((ℕ × ℕ) × FilterRow)). c.args.keys.now.items ++ map (λ x. x.0) xs) there) c.add_keys.ensures
