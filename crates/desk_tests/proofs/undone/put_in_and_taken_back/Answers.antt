use Rattle.std.proofs.Common.{◌∙◌, ap}
use Rattle.std.specs.List.{IsDistinct}
use Rattle.api_types.specs.Rows.{AreTables, no_rows, after}
use Rattle.desk_tests.proofs.undone.put_in_and_taken_back.Goals as goal

none_are_tables : AreTables no_rows
unfolding IsDistinct
none_are_tables = record { projects = tt; networks = tt; subnets = tt; ports = tt; groups = tt; rules = tt; routers = tt; floatings = tt; policies = tt }

pub undo_change-requires : goal.undo_change-requires
undo_change-requires c = record {
  rows = no_rows;
  tables = none_are_tables;
  fits = c.requires;
  now_is = c.in_ok-apply_change.ensures.ok ∙ ap (λ r. after r c.args.change.now) c.in_ok-rows.ensures;
}
