use Rattle.std.proofs.Common.{◌-◌, List, ℕ, arith, drop, get_or, map}
use Rattle.plane_types.specs.Keyed.{under}
use Rattle.plane_types.specs.declared.table.FilterRow.{FilterRow}
use Rattle.table_edits.specs.NumbersSeen.{at_after}
use Rattle.l2_delta.specs.Filtered.{rule_filter, rule_filters}
use Rattle.l2_delta.specs.Gathered.{gathered}
use Rattle.l2_delta.proofs.GatherLemmas.{one_more, under_more}
use Rattle.l2_delta.proofs.filters.add_rows.Goals as goal

pub loop-left-preserved : goal.loop-left-preserved
loop-left-preserved c =
    let rules = c.args.rules.now in
    let numbers = c.args.numbers.now in
    let port = c.args.port.now in
    let group = c.args.group.now in
    let place = c.args.place in
    let left = c.loop-left.left in
    let number = get_or numbers (left - 1) 0 in
    let found : List ℕ → List (ℕ × FilterRow) = gathered (at_after rules) (rule_filter port group) in
    let last = rule_filters port group number (at_after rules number) in
    record {
      within = omega (arith, c.loop-left.invariant.within);
      added = one_more (λ ks. under place (found ks)) numbers left (map (λ r. (r.key, r.row)) c.args.rows.now.items) (map (λ r. (r.key, r.row)) c.loop-left.rows.items) (map (λ r. (r.key, r.row)) c.add_row.new.rows.items) (under place last)
          (omega (arith, c.loop-left-test.true)) c.loop-left.invariant.within c.loop-left.invariant.added c.in_ok-add_row.ensures
          (under_more place (found (drop left numbers)) last);
    }
