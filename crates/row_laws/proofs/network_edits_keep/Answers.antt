use Rattle.row_laws.proofs.NetworkReplaced.{network_replaced}
use Rattle.row_laws.proofs.NetworkGone.{network_gone}
use Rattle.row_laws.proofs.network_edits_keep.Goals as goal

pub returns : goal.returns
returns c = record {
  replaced = λ rows place old new all at same. network_replaced rows place old new at same all;
  gone = λ rows i all unused. network_gone rows i all unused;
}
