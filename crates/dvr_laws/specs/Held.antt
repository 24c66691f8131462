-- Hosts with copies hold consistent rows: what the law of lists of events supposes.
use Rattle.api_types.specs.Lists.{Each}
use Rattle.api_types.specs.RowLists.{RowLists}
use Rattle.api_types.specs.declared.network.Segment.{Segment}
use Rattle.dvr_types.specs.Copies.{copies_for}
use Rattle.dvr_types.specs.DvrFabric.{DvrHost}
use Rattle.dvr_types.specs.DvrVerdicts.{plain_hosts}
use Rattle.net_addr.specs.Words.{Text}
use Rattle.plane_laws.specs.Held.{HoldRows}
use Rattle.std.specs.Prelude.{Bool, List, ◌≡◌}

-- `carries` tells which segments a host, by its name, can carry
pub record HoldCopies (carries : Text → Segment → Bool) (rows : RowLists) (hosts : List DvrHost)
    : Type 0 where
  pub held : HoldRows carries rows (plain_hosts hosts)
  pub copied : Each (λ (d : DvrHost). d.copies ≡ copies_for rows d.host.name) hosts
