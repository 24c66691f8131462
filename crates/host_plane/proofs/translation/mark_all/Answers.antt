use Rattle.host_plane.proofs.UseLists.{marked_both}
use Rattle.host_plane.proofs.translation.mark_all.Goals as goal

pub returns : goal.returns
returns c = λ port below. marked_both c.args.router c.args.outer c.args.entries.now c.args.fresh.now c.args.key.now port _ _ _ (c.mark.ensures port below) (c.mark-2.ensures port below)
