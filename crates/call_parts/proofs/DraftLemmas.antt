-- A change with one item more leads where its rows with that item lead.
use Rattle.std.proofs.Common.{◌≡◌, refl, List, [], ◌∷◌, ◌++◌, ap, sym, ◌∙◌, subst}
use Rattle.api_types.specs.RowLists.{RowLists}
use Rattle.api_types.specs.Rows.{Fits, FitsItem, after, after_item}
use Rattle.api_types.specs.declared.change.Item.{Item}
use Rattle.api_types.proofs.ChangeLemmas.{Fits-append, Fits-push, after-append, after-push}
use Rattle.call_parts.specs.Drafts.{DraftParts, LeadsTo}

pub leads_more : (start : RowLists) (change : List Item) (rows : RowLists) (item : Item) → LeadsTo start change rows → FitsItem rows item
    → LeadsTo start (change ++ item ∷ []) (after_item rows item)
leads_more start change rows item way fits = record {
  fits = Fits-push start change item way.fits (subst (λ r. FitsItem r item) (sym way.leads) fits);
  leads = after-push start change item ∙ ap (λ r. after_item r item) way.leads;
}

-- and so does one with more items
pub leads_on : (start : RowLists) (change : List Item) (rows : RowLists) (more : List Item) → LeadsTo start change rows → Fits rows more → LeadsTo start (change ++ more) (after rows more)
leads_on start change rows more way fits = record {
  fits = Fits-append start change more way.fits (subst (λ r. Fits r more) (sym way.leads) fits);
  leads = after-append start change more ∙ ap (λ r. after r more) way.leads;
}

nothing_behind : (items : List Item) → items ++ [] ≡ items
nothing_behind [] = refl
nothing_behind (x ∷ items) = ap (λ xs. x ∷ xs) (nothing_behind items)

pub nothing_more : (d : DraftParts) → record { start = d.start; change = d.change ++ []; rows = d.rows } ≡ d
nothing_more d = ap (λ ch. record d { change = ch }) (nothing_behind d.change)
