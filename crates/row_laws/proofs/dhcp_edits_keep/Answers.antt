use Rattle.row_laws.proofs.Service.SubnetLeased.{subnet_leased, subnet_leased_by_new}
use Rattle.row_laws.proofs.Service.SubnetUnleased.{subnet_unleased}
use Rattle.row_laws.proofs.dhcp_edits_keep.Goals as goal

pub returns : goal.returns
returns c = record {
  begun = λ rows place k old new p x all at at_p is. subnet_leased rows place old new at all k p x at_p is;
  begun_by_new = λ rows place old new p x all at come is. subnet_leased_by_new rows place old new at all p x come is;
  ended = λ rows place k old new p all at at_p is. subnet_unleased rows place old new at k p at_p is all;
}
