-- What consistency asks of numbers: a project stands in its place, and an id is drawn and no other
-- row's (Networking API reference v2.0: each row has a unique id). Where two rows break a clause
-- together, both fail.
use Rattle.std.specs.Prelude.{ℕ, ◌+◌, ◌^◌, ◌==◌, ◌&&◌, not, nat_lt, nat_le, Bool, List, count_by}
use Rattle.api_types.specs.Ident.{Ident}
use Rattle.api_types.specs.Lists.{is_empty}
use Rattle.api_types.specs.RowLists.{RowLists}
use Rattle.api_types.specs.Registration.{is_named}
use Rattle.api_types.specs.Consistent.Numbered.{times_in, is_drawn}
use Rattle.api_types.specs.declared.project.ProjectRow.{ProjectRow}

abbrev pub project_numbered : List ProjectRow → ℕ → ProjectRow → Bool
project_numbered projects place p =
    (p.ordinal == place + 1)
    && (nat_lt p.count (2 ^ 62)
    && (nat_le (count_by (is_named p.name) projects) 1
    && (nat_lt (place + 1) (2 ^ 32) && not (is_empty p.name))))

abbrev pub is_numbered : RowLists → Ident → Bool
is_numbered rows i = nat_le (times_in rows i) 1 && is_drawn rows.projects i
