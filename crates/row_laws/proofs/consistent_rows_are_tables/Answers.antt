use Rattle.api_types.proofs.IdLemmas.{are_tables}
use Rattle.row_laws.proofs.consistent_rows_are_tables.Goals as goal

pub returns : goal.returns
returns c = λ rows all. are_tables rows all
