use Rattle.std.proofs.Common.{◌≡◌, drop}
use Rattle.agent_wire.specs.Snapshots.{are_new, put_all}
use Rattle.agent_wire.proofs.snapshot.add_rows.Given as goal

abbrev pub invariant-loop-item : goal.invariant-loop-item
invariant-loop-item l = record {
  new : are_new (drop l.item-index l.page) l.rows ≡ are_new l.page l.fn.rows;
  put : put_all (drop l.item-index l.page) l.rows ≡ put_all l.page l.fn.rows;
}
