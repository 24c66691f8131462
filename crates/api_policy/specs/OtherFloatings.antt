-- The floating addresses but the one that a call changes, where it changes one.
use Rattle.api_types.specs.Lists.{if_some}
use Rattle.api_types.specs.Ident.{Ident}
use Rattle.api_types.specs.Table.{ident_eq}
use Rattle.api_types.specs.declared.floating.FloatingRow.{FloatingRow}
use Rattle.std.specs.Prelude.{Bool, List, Option, filter, not}

abbrev pub is_other : Option Ident → FloatingRow → Bool
is_other own f = if_some (λ i. not (ident_eq i f.id)) own

abbrev pub other_floatings : Option Ident → List FloatingRow → List FloatingRow
other_floatings own floatings = filter (is_other own) floatings
