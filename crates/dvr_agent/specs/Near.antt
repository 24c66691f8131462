-- The numbers of the networks on which packets are near, as the code looks them up.
use Rattle.api_types.specs.Ident.{Ident}
use Rattle.api_types.specs.Live.{is_live, segment}
use Rattle.api_types.specs.Owners.{is_interface}
use Rattle.api_types.specs.RowLists.{RowLists}
use Rattle.api_types.specs.Table.{ident_eq}
use Rattle.api_types.specs.declared.port.PortRow.{PortRow}
use Rattle.dvr_types.specs.Copies.{is_near_network, vxlan_number}
use Rattle.std.specs.Prelude.{None, Option, Some, if◌then◌else◌, not, ℕ, ◌||◌}

abbrev pub near_number : RowLists → Ident → Option ℕ
near_number rows n = if is_near_network rows n then vxlan_number (segment rows n) else None

-- that of the network of a live interface
abbrev pub interface_number_of : RowLists → PortRow → Option ℕ
interface_number_of rows p =
    if not (is_interface p.owner) || not (is_live rows p) then None
    else vxlan_number (segment rows p.network)

-- the number of a network once a port is looked at
abbrev pub number_with : RowLists → PortRow → Ident → Option ℕ → Option ℕ
number_with rows p n before =
    elim (interface_number_of rows p) [
      | None ↦ before
      | Some number ↦ if ident_eq p.network n then Some number else before
    ]
