-- Rules by their group.
use Rattle.std.specs.Prelude.{Bool}
use Rattle.api_types.specs.Ident.{Ident}
use Rattle.api_types.specs.Table.{ident_eq}
use Rattle.api_types.specs.declared.group.RuleRow.{RuleRow}

abbrev pub is_of : Ident → RuleRow → Bool
is_of g r = ident_eq r.group g
