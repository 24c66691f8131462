use Rattle.row_laws.proofs.GroupPushed.{group_pushed}
use Rattle.row_laws.proofs.GroupReplaced.{group_replaced}
use Rattle.row_laws.proofs.GroupGone.{group_gone}
use Rattle.row_laws.proofs.group_edits_keep.Goals as goal

pub returns : goal.returns
returns c = record {
  pushed = λ rows g all new. group_pushed rows g new all;
  replaced = λ rows place old new all at same. group_replaced rows place old new at same all;
  gone = λ rows i all unused. group_gone rows i unused all;
}
