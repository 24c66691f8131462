use Rattle.dvr_laws.proofs.DvrTheorem.{tables-mean-rows-for}
use Rattle.dvr_laws.proofs.copies_mean_rows.Goals as goal

pub returns : goal.returns
returns c = tables-mean-rows-for
