-- What consistency asks of an associated floating address (Networking API reference v2.0, the
-- refusals of each call). Where two rows break a clause together, both fail.
use Rattle.std.specs.Prelude.{◌&&◌, nat_le, Bool, List, count_by}
use Rattle.api_types.specs.Lists.{if_some}
use Rattle.api_types.specs.RowLists.{RowLists}
use Rattle.api_types.specs.Consistent.Floating.{leads_to, stands_for}
use Rattle.api_types.specs.declared.floating.FloatingRow.{FloatingRow}
use Rattle.api_types.specs.declared.floating.Target.{Target}

abbrev pub target_alone : List FloatingRow → FloatingRow → Target → Bool
target_alone floatings f t = nat_le (count_by (stands_for f.network t.port t.fixed) floatings) 1

abbrev pub floating_leads : RowLists → FloatingRow → Bool
floating_leads rows f =
    if_some
    (λ (t : Target). target_alone rows.floatings f t && leads_to rows.ports rows.routers f t)
    f.target
