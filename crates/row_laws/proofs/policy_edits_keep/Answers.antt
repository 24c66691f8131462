use Rattle.row_laws.proofs.PolicyPushed.{policy_pushed}
use Rattle.row_laws.proofs.PolicyReplaced.{policy_replaced}
use Rattle.row_laws.proofs.PoliciesGone.{policies_gone}
use Rattle.row_laws.proofs.policy_edits_keep.Goals as goal

pub returns : goal.returns
returns c = record {
  pushed = λ rows l all new. policy_pushed rows l new all;
  replaced = λ rows place old new all at is. policy_replaced rows place old new at is all;
  gone = λ rows keep all still. policies_gone keep rows still all;
}
