-- What the filters of one name ask for.
use Rattle.std.specs.Prelude.{List, Bool, ◌&&◌}
use Rattle.std.specs.List.{list_any}
use Rattle.std.specs.Str.{bytes_eq}
use Rattle.net_addr.specs.Words.{Text}
use Rattle.api_types.specs.Printed.{NamedTree, Tree}
use Rattle.api_types.specs.declared.call.Filter.{Filter}
use Rattle.api_policy.specs.Filtered.{fits}
use Rattle.api_policy.specs.Shown.{is_told}

-- a name, and the filters of which some have it
pub record AskedName : Type 0 where
  pub name : Text
  pub filters : List Filter

abbrev pub asked_under : List Filter → Text → AskedName
asked_under filters name = record { name = name; filters = filters }

-- a filter with the name asks for the value
abbrev pub asks_for : AskedName → Tree → Bool
asks_for a value =
    list_any (λ (f : Filter). bytes_eq a.name f.name && fits f.value value) a.filters

-- a member that the caller is told has the name, and a value that is asked for
abbrev pub has_asked : Bool → List NamedTree → AskedName → Bool
has_asked admin members a =
    list_any (λ (m : NamedTree). is_told admin m.0 && (bytes_eq a.name m.0 && asks_for a m.1))
    members
