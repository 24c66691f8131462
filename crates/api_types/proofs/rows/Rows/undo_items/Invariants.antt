use Rattle.std.proofs.Common.{◌≡◌, ◌-◌, take, length}
use Rattle.api_types.specs.Rows.{before, CameBy}
use Rattle.api_types.proofs.rows.Rows.undo_items.Given as goal

-- the rows came by the items that are left, which lead back where the whole list does
abbrev pub invariant-loop-i : goal.invariant-loop-i
invariant-loop-i l = record {
  came : CameBy l.self (take (length l.items - l.i) l.items);
  leads : before l.self (take (length l.items - l.i) l.items) ≡ before l.fn.self l.items;
}
