-- What a port sees of a change of its network.
use Rattle.std.specs.Prelude.{◌≡◌, List, true}
use Rattle.api_types.specs.RowLists.{RowLists}
use Rattle.api_types.specs.declared.port.PortRow.{PortRow}
use Rattle.plane_types.specs.declared.table.TagRow.{TagRow}
use Rattle.table_edits.specs.Untouched.{StaysAlike}
use Rattle.touched_rows.specs.CanLive.{can_live}

-- its network stays alike, or the port isn't live, whatever its network does
abbrev pub SeesAlike : RowLists → RowLists → List TagRow → List TagRow → PortRow → Type 0
SeesAlike before after old new p =
    can_live p ≡ true → StaysAlike before after old new p.network
