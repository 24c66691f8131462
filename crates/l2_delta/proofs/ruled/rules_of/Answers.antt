use Rattle.std.proofs.Common.{◌≡◌, ◌∙◌, ◌++◌, List, ℕ, ap, slice_get, sym}
use Rattle.api_types.specs.Table.{ident_eq}
use Rattle.api_types.specs.declared.group.RuleRow.{RuleRow}
use Rattle.touched_rows.specs.TouchedNumbers.{numbers_from}
use Rattle.l2_delta.proofs.CoverLemmas.{at_place, covers, not_among, ok_by_both}
use Rattle.l2_delta.proofs.ruled.rules_of.Goals as goal

pub returns : goal.returns
returns c =
    let rules = c.args.rules.now in
    let named = c.named.result.now in
    let test = λ (r : RuleRow). ident_eq r.group c.args.group in
    let found = numbers_from test 0 c.rows.result.now in
    let all : c.add_rules.new.numbers.items ≡ named ++ found = c.in_ok-add_rules.ensures ∙ ap (λ (ns : List ℕ). ns ++ found) c.in_ok-numbers.ensures.items in
    ok_by_both _ _ _ c.descending.result (λ ks down same.
    covers test rules named found c.named.ensures c.add_rules.new.numbers.items ks.items all down same
    (λ k r away at. not_among test c.rows.result.now k r (ap (λ rs. slice_get rs k) c.rows.ensures.rows ∙ sym (at_place rules.rows k) ∙ at) away)) c.descending.ensures.down c.descending.ensures.same
