-- What an audit of rows by the bytes of a wanted file says.
use Rattle.std.specs.Prelude.{◌≡◌, List, Option, Some, None, option_and_then, string_bytes, if◌then◌else◌}
use Rattle.std.specs.List.{list_all}
use Rattle.net_addr.specs.Words.{Bytes}
use Rattle.api_types.specs.RowLists.{RowLists}
use Rattle.reach_audit.specs.AuditLines.{holds, lines_of}
use Rattle.reach_audit.specs.declared.audit.Audit.{Audit}
use Rattle.reach_sets.specs.Judged.{AreJudged}
use Rattle.reach_sets.specs.Named.{are_named}
use Rattle.reach_sets.specs.declared.judgement.Judgement.{Judgement}
use Rattle.wanted_files.specs.Document.{wanted_of}
use Rattle.wanted_files.specs.declared.wanted.WantedReach.{WantedReach}

-- the tables, if the rows have the ports and addresses that each names
abbrev pub if_named : RowLists → List WantedReach → Option (List WantedReach)
if_named rows wanted = if are_named rows wanted then Some wanted else None

-- the tables that the bytes say; None if they are no wanted file, or name what isn't there
abbrev pub tables_of : RowLists → Bytes → Option (List WantedReach)
tables_of rows bytes = option_and_then (if_named rows) (wanted_of bytes)

-- each table is judged, and the lines say so
pub record IsAuditOf (rows : RowLists) (wanted : List WantedReach) (audit : Audit) : Type 0 where
  pub judged : List Judgement
  pub right : AreJudged rows wanted judged
  pub lines : string_bytes audit.lines ≡ lines_of wanted judged
  pub hold : audit.hold ≡ list_all holds judged

abbrev pub IsAudit : RowLists → Bytes → Option Audit → Type 0
IsAudit rows bytes None = tables_of rows bytes ≡ None
IsAudit rows bytes (Some audit) =
    (wanted : List WantedReach) × (tables_of rows bytes ≡ Some wanted)
    × IsAuditOf rows wanted audit
