-- A network that a call makes.
use Rattle.std.specs.Prelude.{◌≡◌, ◌<◌, true, length}
use Rattle.net_addr.specs.Words.{Text}
use Rattle.api_types.specs.RowLists.{RowLists}
use Rattle.api_types.specs.Registration.{Drawing, drawn_id}
use Rattle.api_types.specs.Consistent.InForm.{is_segment}
use Rattle.api_types.specs.Consistent.Segments.{most_networks}
use Rattle.api_types.specs.declared.network.NetworkRow.{NetworkRow}
use Rattle.row_laws.specs.NewRows.{IsAlone}

-- a network of the project that has the first id that was drawn, and a segment that no network has
pub record IsMadeNetwork (rows : RowLists) (name : Text) (d : Drawing) (n : NetworkRow)
    : Type 0 where
  pub id : n.id ≡ drawn_id d 0
  pub project : n.project ≡ name
  pub segment : is_segment n.segment ≡ true
  pub alone : IsAlone rows.networks n.segment
  pub few : length rows.networks < most_networks
