-- Hosts that hold the rows, and the entries that they keep.
use Rattle.std.specs.Prelude.{List, [], map, suc, ℕ, ◌++◌, ◌∷◌}
use Rattle.std.specs.List.{filter_map}
use Rattle.api_types.specs.RowLists.{RowLists}
use Rattle.dvr_types.specs.Copies.{copies_for}
use Rattle.dvr_types.specs.DvrFabric.{DvrHost}
use Rattle.dvr_types.specs.DvrHosts.{dvr_host}
use Rattle.dvr_types.specs.declared.tables.DvrTables.{DvrTables}
use Rattle.net_addr.specs.Words.{Text}
use Rattle.net_settings.specs.declared.settings.Host.{Host}
use Rattle.plane_types.specs.Spare.{WithSpare}
use Rattle.plane_types.specs.TablesOfRows.{tables_of_rows}
use Rattle.plane_types.specs.Verdicts.{made_at}
use Rattle.plane_types.specs.declared.entry.Entry.{Entry}
use Rattle.plane_types.specs.declared.verdict.Made.{Made}

-- a host that begins with the rows
abbrev pub first_host : RowLists → Text → DvrHost
first_host rows name = record {
  host = record { name = name; tables = tables_of_rows rows name []; entries = [] };
  copies = copies_for rows name;
}

abbrev pub first_hosts : RowLists → List Host → List DvrHost
first_hosts rows hosts = map (λ (h : Host). first_host rows h.name) hosts

abbrev pub without_entries : DvrTables → DvrHost
without_entries d = dvr_host d (record { items = []; spare = 0 })

-- the entries after these were made, places counted from the first of these hosts
abbrev pub items_of : List (WithSpare Entry) → List (List Entry)
items_of entries = map (λ (e : WithSpare Entry). e.items) entries

abbrev pub kept_from : ℕ → List (List Entry) → List Made → List (List Entry)
kept_from place [] fresh = []
kept_from place (e ∷ es) fresh =
    (e ++ filter_map (made_at place) fresh) ∷ kept_from (suc place) es fresh
