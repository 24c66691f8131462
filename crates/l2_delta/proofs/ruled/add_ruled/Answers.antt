use Rattle.std.proofs.Common.{◌≡◌, ◌∙◌, ap, get_or, slice_get, sym}
use Rattle.std.specs.Prelude.{◌||◌}
use Rattle.std.specs.HashSet.{contains}
use Rattle.api_types.specs.Table.{ident_eq}
use Rattle.api_types.proofs.ListLemmas.{or_none}
use Rattle.table_edits.specs.NumbersSeen.{at_after, at_before}
use Rattle.l2_delta.specs.Filtered.{is_of_group, rule_of_group}
use Rattle.l2_delta.proofs.ChangedGroups.{neither_of, one_left}
use Rattle.l2_delta.proofs.CoverLemmas.{at_place}
use Rattle.l2_delta.proofs.ruled.add_ruled.Goals as goal

pub loop-number-init : goal.loop-number-init
loop-number-init c = record {
  keeps = λ i off. off;
  tells = λ i off k away. ap (rule_of_group i) (c.named-number-items.ensures k away);
}

pub loop-number-preserved : goal.loop-number-preserved
loop-number-preserved c =
    let rules = c.args.rules.now in
    let numbers = c.named-number-items.result.now in
    let place = c.loop-number.number-index in
    let number = get_or numbers place 0 in
    record {
      keeps = λ i off.
          let last = or_none (contains ident_eq c.loop-number.ids i || is_of_group i (slice_get rules.rows number)) (is_of_group i (at_after rules number)) (sym (c.in_ok-add_groups_at.ensures i) ∙ off) in
          c.loop-number.invariant.keeps i (or_none (contains ident_eq c.loop-number.ids i) (is_of_group i (slice_get rules.rows number)) last.0).0;
      tells = λ i off k away.
          let last = or_none (contains ident_eq c.loop-number.ids i || is_of_group i (slice_get rules.rows number)) (is_of_group i (at_after rules number)) (sym (c.in_ok-add_groups_at.ensures i) ∙ off) in
          let first = or_none (contains ident_eq c.loop-number.ids i) (is_of_group i (slice_get rules.rows number)) last.0 in
          one_left (λ k. rule_of_group i (at_before rules k) ≡ rule_of_group i (at_after rules k)) numbers place c.loop-number-test.true
          (ap (rule_of_group i) (at_place rules.rows number) ∙ neither_of i (slice_get rules.rows number) (at_after rules number) first.1 last.1)
          (c.loop-number.invariant.tells i first.0) k away;
    }
