use Rattle.row_laws.proofs.RulePushed.{rule_pushed}
use Rattle.row_laws.proofs.RuleReplaced.{rule_replaced}
use Rattle.row_laws.proofs.RulesGone.{rules_gone}
use Rattle.row_laws.proofs.rule_edits_keep.Goals as goal

pub returns : goal.returns
returns c = record {
  pushed = λ rows r all new. rule_pushed rows r new all;
  replaced = λ rows place old new all at same. rule_replaced rows place old new at same all;
  gone = λ rows keep all. rules_gone keep rows all;
}
