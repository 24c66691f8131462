use Rattle.std.proofs.Common.{ap, length}
use Rattle.keeper_sql.specs.Counting.{CountingConnection}
use Rattle.keeper_sql.proofs.WholeLemmas.{whole_with_err, whole_with_ok}
use Rattle.keeper_sql.proofs.keeper.SqlKeeperKeeper.apply.Goals as goal

pub returns-in-Ok-clause-whole : goal.returns-in-Ok-clause-whole
returns-in-Ok-clause-whole g c =
    whole_with_ok g.S.Store _ _ _ _ _ (ap length c.as_slice.ensures)
    (ap (λ (k : CountingConnection g.row.S.Denot). k.conn) c.self.view_is)
    c.in-Ok.ensures.whole

pub returns-in-Err-clause-whole : goal.returns-in-Err-clause-whole
returns-in-Err-clause-whole g c =
    whole_with_err g.S.Store _ _ _ _ _ _ c.refuse.result (ap length c.as_slice.ensures)
    (ap (λ (k : CountingConnection g.row.S.Denot). k.conn) c.self.view_is)
    c.in-Err.ensures.whole
