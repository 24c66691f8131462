use Rattle.row_laws.proofs.SubnetPushed.{subnet_pushed}
use Rattle.row_laws.proofs.SubnetReplaced.{subnet_replaced}
use Rattle.row_laws.proofs.SubnetsGone.{subnets_gone}
use Rattle.row_laws.proofs.subnet_edits_keep.Goals as goal

pub returns : goal.returns
returns c = record {
  pushed = λ rows s all new. subnet_pushed rows s new all;
  replaced = λ rows place old new all at same leased form. subnet_replaced rows place old new at same leased form all;
  gone = λ rows keep all goes. subnets_gone keep rows goes all;
}
