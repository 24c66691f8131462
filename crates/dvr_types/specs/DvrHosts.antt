-- Hosts as code has them, as hosts of the run: tables with their copies, and the entries of each.
use Rattle.dvr_types.specs.DvrFabric.{DvrHost}
use Rattle.dvr_types.specs.declared.tables.DvrTables.{DvrTables}
use Rattle.plane_types.specs.Spare.{WithSpare}
use Rattle.plane_types.specs.declared.entry.Entry.{Entry}
use Rattle.std.specs.Prelude.{List, [], ◌∷◌}

abbrev pub dvr_host : DvrTables → WithSpare Entry → DvrHost
dvr_host d e = record {
  host = record { name = d.host; tables = d.base.lists; entries = e.items };
  copies = d.copies;
}

abbrev pub dvr_hosts : List DvrTables → List (WithSpare Entry) → List DvrHost
dvr_hosts [] entries = []
dvr_hosts (d ∷ hosts) [] = []
dvr_hosts (d ∷ hosts) (e ∷ entries) = dvr_host d e ∷ dvr_hosts hosts entries
