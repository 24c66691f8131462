use Rattle.std.proofs.Common.{◌∙◌, ap, subst}
use Rattle.std.specs.Map.{keys_of}
use Rattle.std.specs.List.{IsDistinct}
use Rattle.api_types.specs.Table.{ident_eq, entries_of}
use Rattle.api_types.proofs.TableLemmas.{keys-entries_of}
use Rattle.old_rows.proofs.table.OldTable.rows.Goals as goal

pub returns-clause-own_ids : goal.returns-clause-own_ids
returns-clause-own_ids g c =
    subst (IsDistinct ident_eq) (ap keys_of (c.self.invariant ∙ ap (entries_of g.R.OldRow.id_of) c.self.view_is) ∙ keys-entries_of g.R.OldRow.id_of _) c.as_slice.ensures.unique
