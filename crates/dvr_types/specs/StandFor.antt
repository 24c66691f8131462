-- Hosts with copies that stand for rows: the rows are consistent, the hosts' names differ, the host
-- of each live port is among them, and each host's tables, copies and entries are as the rows say.
use Rattle.api_types.specs.Consistent.{IsConsistent}
use Rattle.api_types.specs.Lists.{Each}
use Rattle.api_types.specs.Live.{is_live}
use Rattle.api_types.specs.RowLists.{RowLists}
use Rattle.api_types.specs.declared.port.PortRow.{PortRow}
use Rattle.dvr_types.specs.Copies.{copies_for}
use Rattle.dvr_types.specs.DvrFabric.{DvrHost, is_dvr_named}
use Rattle.net_addr.specs.Words.{Text}
use Rattle.plane_types.specs.Attached.{IsAttached}
use Rattle.plane_types.specs.Realises.{Realises}
use Rattle.std.specs.List.{list_any}
use Rattle.std.specs.Prelude.{List, count_by, true, ◌≡◌, ◌≤◌}

pub record StandFor (rows : RowLists) (hosts : List DvrHost) : Type 0 where
  pub consistent : IsConsistent rows
  pub realise : Each (λ (d : DvrHost). Realises rows d.host.name d.host.tables) hosts
  pub placed : Each (λ (d : DvrHost). IsAttached d.host) hosts
  pub copied : Each (λ (d : DvrHost). d.copies ≡ copies_for rows d.host.name) hosts
  pub names : (name : Text) → count_by (is_dvr_named name) hosts ≤ 1
  pub live : Each (λ (p : PortRow). is_live rows p ≡ true
      → list_any (is_dvr_named p.host) hosts ≡ true) rows.ports
