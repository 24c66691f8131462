use Rattle.row_laws.proofs.Service.InterfaceOn.{interface_on}
use Rattle.row_laws.proofs.Service.InterfaceTaken.{taken_over}
use Rattle.row_laws.proofs.Service.InterfaceOff.{interface_off}
use Rattle.row_laws.proofs.interface_edits_keep.Goals as goal

pub returns : goal.returns
returns c = record {
  pushed = λ rows place r p all at new. interface_on rows place r p at new all;
  replaced = λ rows place k r old new all at at_p is. taken_over rows place r at k old new at_p is all;
  gone = λ rows place k r p all at at_p free. interface_off rows place r at k p at_p free all;
}
