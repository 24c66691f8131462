-- Whether a row can be added last among the rows of a kind, which there are this many of.
use Rattle.std.specs.Prelude.{ℕ, Some, None}
use Rattle.api_types.specs.RowLists.{RowLists}
use Rattle.api_types.specs.Rows.{FitsItem}
use Rattle.api_types.specs.declared.kind.Kind.{Kind}
use Rattle.api_types.specs.declared.kind.Row.{Row}

abbrev pub CanBeAdded : RowLists → Row → Kind → ℕ → Type 0
CanBeAdded rows row kind place =
    FitsItem rows (record { kind = kind; place = place; before = None; after = Some row })
