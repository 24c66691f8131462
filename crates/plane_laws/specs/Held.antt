-- Hosts hold consistent rows: what the laws of frames suppose.
use Rattle.std.specs.Prelude.{Bool, List}
use Rattle.net_addr.specs.Words.{Text}
use Rattle.api_types.specs.Consistent.{IsConsistent}
use Rattle.api_types.specs.Consistent.Carried.{AreCarried}
use Rattle.api_types.specs.RowLists.{RowLists}
use Rattle.api_types.specs.declared.network.Segment.{Segment}
use Rattle.plane_types.specs.Hosts.{Host}
use Rattle.plane_types.specs.Synced.{AreSynced}

-- `carries` tells which segments a host, by its name, can carry
pub record HoldRows (carries : Text → Segment → Bool) (rows : RowLists) (hosts : List Host)
    : Type 0 where
  pub consistent : IsConsistent rows
  pub carried : AreCarried carries rows.networks rows.ports
  pub synced : AreSynced carries rows hosts
