-- Which ports stand on networks by leave of an administrator alone.
use Rattle.api_types.specs.RowLists.{RowLists}
use Rattle.api_types.specs.Sharing.{is_shared_with}
use Rattle.api_types.specs.declared.call.Caller.{Caller}
use Rattle.api_types.specs.declared.network.NetworkRow.{NetworkRow}
use Rattle.std.specs.Prelude.{Bool, bytes_eq, not, ◌&&◌, ◌||◌}
use Rattle.net_addr.specs.Words.{Text}

-- whether a project may have ports on a network: the network is its own, or is shared with it
abbrev pub may_use : RowLists → Text → NetworkRow → Bool
may_use rows project n = bytes_eq n.project project || is_shared_with rows.policies n.id project

-- a port that an administrator makes for a project that may not use the network is marked
abbrev pub is_marked : RowLists → Caller → Text → NetworkRow → Bool
is_marked rows caller project n = caller.admin && not (may_use rows project n)
