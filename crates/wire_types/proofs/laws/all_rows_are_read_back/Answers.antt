use Rattle.wire_types.proofs.PageLaw.{rows_back}
use Rattle.wire_types.proofs.laws.all_rows_are_read_back.Goals as goal

pub returns : goal.returns
returns c = rows_back
