-- Networks whose tag a change alters.
use Rattle.std.specs.Prelude.{◌&&◌, Bool, List, nat_eq, not}
use Rattle.std.specs.Option.{option_eq}
use Rattle.api_types.specs.Ident.{Ident}
use Rattle.api_types.specs.Table.{ident_eq}
use Rattle.plane_types.specs.TableRows.{tag_of}
use Rattle.plane_types.specs.declared.table.TagRow.{TagRow}

-- whether a network's tag differs before and after
abbrev pub is_retagged : List TagRow → List TagRow → Ident → TagRow → Bool
is_retagged old new n t =
    ident_eq n t.network && not (option_eq nat_eq (tag_of old t.network) (tag_of new t.network))
