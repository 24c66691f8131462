use Rattle.std.proofs.Common.{◌≡◌, ◌++◌, drop}
use Rattle.api_types.specs.Table.{ident_eq}
use Rattle.api_types.specs.declared.group.RuleRow.{RuleRow}
use Rattle.touched_rows.specs.TouchedNumbers.{numbers_from}
use Rattle.l2_delta.proofs.ruled.add_rules.Given as goal

-- those so far, and those of the rules that are left, are all
abbrev pub invariant-loop-number : goal.invariant-loop-number
invariant-loop-number l =
    l.numbers.items ++ numbers_from (λ (r : RuleRow). ident_eq r.group l.group) l.number (drop l.number l.rules)
    ≡ l.fn.numbers.items ++ numbers_from (λ (r : RuleRow). ident_eq r.group l.group) 0 l.rules
