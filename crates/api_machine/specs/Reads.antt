-- What shows and lists come to: a row is looked for among those that the caller sees, and a list
-- is cut from them.
use Rattle.std.specs.Prelude.{not, List, [], Option, None, Some}
use Rattle.net_addr.specs.Words.{Text}
use Rattle.api_types.specs.Ident.{Ident}
use Rattle.api_types.specs.Outcome.{Outcome, Told}
use Rattle.api_types.specs.Printed.{NamedTree, OneRow, ManyRows}
use Rattle.api_types.specs.RowLists.{RowLists}
use Rattle.api_types.specs.declared.call.Caller.{Caller}
use Rattle.api_types.specs.declared.call.IdText.{IdText}
use Rattle.api_types.specs.declared.call.Query.{Query}
use Rattle.api_types.specs.declared.kind.Kind.{Kind}
use Rattle.api_policy.specs.Listed.{has_marker, listed}
use Rattle.api_policy.specs.Shown.{shown_as}
use Rattle.api_types.specs.Refusing.{at_name, needing, not_found, unless, when}

-- of the rows that the caller sees, the one that a text names, with these members
abbrev pub row_told : {R : Type 0} → Kind → (R → Ident) → (R → List NamedTree) → Caller → IdText
    → List Text → List R → Outcome
row_told kind id_of members caller name fields seen =
    needing (not_found kind name.text) (at_name id_of name.id seen) (λ r.
    Told (OneRow (shown_as kind caller.admin fields (members r))))

abbrev pub marker_text : Option IdText → Text
marker_text None = []
marker_text (Some marker) = marker.text

-- the rows of a kind, where the marker is one that the caller sees
abbrev pub rows_listed : RowLists → Caller → Kind → Query → Outcome
rows_listed rows caller kind query =
    unless (when (not (has_marker rows caller kind query.marker))
    (not_found kind (marker_text query.marker)))
    (Told (ManyRows kind (listed rows caller kind query)))
