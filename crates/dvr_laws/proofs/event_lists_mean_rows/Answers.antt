use Rattle.dvr_laws.proofs.DvrList.{lists-mean-rows-dvr}
use Rattle.dvr_laws.proofs.event_lists_mean_rows.Goals as goal

pub returns : goal.returns
returns c = lists-mean-rows-dvr
