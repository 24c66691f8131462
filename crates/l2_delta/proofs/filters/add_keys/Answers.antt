use Rattle.std.proofs.Common.{◌∙◌, ◌++◌, ◌-◌, List, ℕ, ap, arith, drop, get_or, map, slice_get, sym}
use Rattle.plane_types.specs.Keyed.{under}
use Rattle.plane_types.specs.declared.table.FilterRow.{FilterRow}
use Rattle.table_edits.specs.NumbersSeen.{at_before}
use Rattle.l2_delta.specs.Filtered.{rule_filter, rule_filters}
use Rattle.l2_delta.specs.Gathered.{gathered}
use Rattle.l2_delta.proofs.CoverLemmas.{at_place}
use Rattle.l2_delta.proofs.GatherLemmas.{map_more, one_more, under_more}
use Rattle.l2_delta.proofs.filters.add_keys.Goals as goal

pub loop-left-preserved : goal.loop-left-preserved
loop-left-preserved c =
    let rules = c.args.rules.now in
    let numbers = c.args.numbers.now in
    let port = c.args.port.now in
    let group = c.args.group.now in
    let place = c.args.place in
    let left = c.loop-left.left in
    let number = get_or numbers (left - 1) 0 in
    let found : List ℕ → List (ℕ × FilterRow) = gathered (at_before rules) (rule_filter port group) in
    let key : (ℕ × ℕ) × FilterRow → ℕ × ℕ = λ x. x.0 in
    let last = rule_filters port group number (slice_get rules.rows number) in
    record {
      within = omega (arith, c.loop-left.invariant.within);
      added = one_more (λ ks. map key (under place (found ks))) numbers left c.args.keys.now.items c.loop-left.keys.items c.add_key.new.keys.items (map key (under place last))
          (omega (arith, c.loop-left-test.true)) c.loop-left.invariant.within c.loop-left.invariant.added c.in_ok-add_key.ensures
          (map_more key (under place (found (drop left numbers))) (under place last)
          ∙ ap (map key) (under_more place (found (drop left numbers)) last)
          ∙ (λ j. map key (under place (found (drop left numbers) ++ rule_filters port group number (sym (at_place rules.rows number) j)))));
    }
