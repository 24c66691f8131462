use Rattle.row_laws.proofs.PortPushed.{port_pushed}
use Rattle.row_laws.proofs.PortReplaced.{port_replaced}
use Rattle.row_laws.proofs.PortRenamed.{port_renamed}
use Rattle.row_laws.proofs.PortsGone.{ports_gone}
use Rattle.row_laws.proofs.port_edits_keep.Goals as goal

pub returns : goal.returns
returns c = record {
  pushed = λ rows p all new. port_pushed rows p new all;
  replaced = λ rows place old new all at is. port_replaced rows place old new at is all;
  renamed = λ rows place old new all at is. port_renamed rows place old at new is all;
  gone = λ rows keep all goes. ports_gone keep rows goes all;
}
