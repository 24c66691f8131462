use Rattle.std.proofs.Common.{◌≡◌}
use Rattle.keeper_sql.specs.Whole.{CommitsNothing, RunsAll}
use Rattle.keeper_sql.proofs.change.write_items.Given as goal

abbrev pub invariant-loop-item : goal.invariant-loop-item
invariant-loop-item g l = record {
  same_reference : l.to.conn.ghost_name ≡ l.fn.to.conn.ghost_name;
  inside : CommitsNothing g.S.Store l.fn.to.conn.now l.to.conn.now;
  ran : RunsAll g.S.Store l.item-index l.fn.to.conn.now l.to.conn.now;
}
