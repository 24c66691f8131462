-- The rows that a call leads to, and the change that leads there, as they are being made.
use Rattle.std.specs.Prelude.{◌≡◌, ℕ, ◌+◌, ◌++◌, List, [], ◌∷◌, Option, Some, None, slice_get, true}
use Rattle.api_types.specs.Ident.{Ident}
use Rattle.api_types.specs.Edits.{FitsTable, list_after as list_edited}
use Rattle.api_types.specs.RowLists.{RowLists}
use Rattle.api_types.specs.Rows.{Fits, FitsItem, after, after_item, after_of_kind}
use Rattle.api_types.specs.Registration.{ident}
use Rattle.api_types.specs.Table.{HaveOwnIds, ident_eq, row_of}
use Rattle.api_types.specs.declared.change.Item.{Item}
use Rattle.api_types.specs.declared.kind.Kind.{Kind}
use Rattle.api_types.specs.declared.group.RuleRow.{RuleRow}
use Rattle.api_types.specs.declared.kind.Row.{Row}
use Rattle.api_types.specs.declared.kind.Row.TheVariants.{Project as ProjectOf}
use Rattle.api_types.specs.declared.project.ProjectRow.{ProjectRow}
use Rattle.api_types.specs.WithRows.{gone_from, put_in, with_added, with_put, without_row}

-- the change fits the rows, and leads to these
pub record LeadsTo (rows : RowLists) (change : List Item) (end : RowLists) : Type 0 where
  pub fits : Fits rows change
  pub leads : after rows change ≡ end

-- the current rows, the change so far, and the rows after it
pub record DraftParts : Type 0 where
  pub start : RowLists
  pub change : List Item
  pub rows : RowLists

-- rows after an item of a kind: they have the same rows of all other kinds
abbrev pub AreAlikeBut : Kind → RowLists → RowLists → Type 0
AreAlikeBut kind rows end = (item : Item) × (end ≡ after_of_kind kind rows item)

-- the row with an id, at its place; no two have one id
pub record IsFound {R : Type 0} (id_of : R → Ident) (i : Ident) (rows : List R) (place : ℕ) (r : R)
    : Type 0 where
  pub at : slice_get rows place ≡ Some r
  pub is : ident_eq i (id_of r) ≡ true
  pub own_ids : HaveOwnIds id_of rows

-- no rule has an id of a project's default rules
abbrev pub AreRulesNew : List RuleRow → ℕ → Type 0
AreRulesNew rules ordinal = (c : ℕ) → row_of (λ (r : RuleRow). r.id) (ident ordinal c) rules ≡ None

-- the rows in which this many more ids were drawn for a project
abbrev pub raised : RowLists → ProjectRow → ℕ → RowLists
raised rows project many =
    with_put rows (ProjectOf (record project { count = project.count + many }))
