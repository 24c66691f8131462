use Rattle.row_laws.proofs.RouterPushed.{router_pushed}
use Rattle.row_laws.proofs.RouterReplaced.{router_replaced}
use Rattle.row_laws.proofs.RoutersGone.{routers_gone}
use Rattle.row_laws.proofs.router_edits_keep.Goals as goal

pub returns : goal.returns
returns c = record {
  pushed = λ rows r all new. router_pushed rows r new all;
  replaced = λ rows place old new all at same is. router_replaced rows place old new at same is all;
  gone = λ rows keep all goes. routers_gone keep rows goes all;
}
