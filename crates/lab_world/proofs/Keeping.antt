-- What a keeper tells moves with the rows.
use Rattle.std.proofs.Common.{◌≡◌, List, Option, None, Some, ap, option_map, refl, subst, sym}
use Rattle.std.specs.Prelude.{IfSome, is_some}
use Rattle.api_types.specs.RowLists.{RowLists}
use Rattle.api_types.specs.Rows.{Fits, after}
use Rattle.api_types.specs.declared.change.Item.{Item}
use Rattle.keeper_core.specs.Counts.{Tells}
use Rattle.keeper_core.specs.Kept.{IsStored, KeeperTold}

pub tells_after : (o : Option RowLists) (rows : RowLists) (change : List Item) → Tells o rows → Tells (option_map (λ (r : RowLists). after r change) o) (after rows change)
tells_after None rows change h = tt
tells_after (Some kept) rows change h = ap (λ (r : RowLists). after r change) h

-- and it is told still
pub told_after : (o : Option RowLists) (change : List Item) → is_some (option_map (λ (r : RowLists). after r change) o) ≡ is_some o
told_after None change = refl
told_after (Some kept) change = refl

-- what is stored stays
pub still_stored : (rows : RowLists) (old new : KeeperTold) → Tells old.rows rows → new.rows ≡ old.rows → IsStored rows old new
still_stored rows old new tells same = record { tells = subst (λ o. Tells o rows) (sym same) tells; as_before = ap is_some same }

-- a change that fits the rows fits what is stored of them
pub fits_stored : (o : Option RowLists) (rows : RowLists) (change : List Item) → Tells o rows → Fits rows change → IfSome o (λ (r : RowLists). Fits r change)
fits_stored None rows change tells fits = tt
fits_stored (Some kept) rows change tells fits = subst (λ (r : RowLists). Fits r change) tells fits
