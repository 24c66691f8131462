-- Tags that realise rows are tags that may have been given.
use Rattle.std.proofs.Common.{ℕ, List}
use Rattle.api_types.specs.RowLists.{RowLists}
use Rattle.plane_types.specs.NewTags.{AreTags}
use Rattle.plane_types.specs.Realises.{RealisesTags}
use Rattle.plane_types.specs.declared.table.TagRow.{TagRow}

pub are_tags : (rows : RowLists) (host : List ℕ) (tags : List TagRow) → RealisesTags rows host tags → AreTags tags
are_tags rows host tags stand = record {
  first = λ k t at. (stand.stand k t at).first;
  last = λ k t at. (stand.stand k t at).last;
  differ = stand.differ;
}
