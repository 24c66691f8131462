-- Filters: by which values of its members a row is kept in a list (Networking API reference,
-- filtering and column selection).
use Rattle.std.specs.Prelude.{List, Bool, false, ◌&&◌, codes, decimal, map, if◌then◌else◌}
use Rattle.std.specs.Char.{to_ascii_lowercase}
use Rattle.std.specs.List.{list_all, list_any}
use Rattle.std.specs.Str.{bytes_eq}
use Rattle.net_addr.specs.Words.{Text}
use Rattle.api_types.specs.Printed.{NamedTree, Tree, items, null, number, object, truth, word}
use Rattle.api_types.specs.declared.call.Filter.{Filter}
use Rattle.api_policy.specs.Shown.{is_told}

-- equal but for the case of ASCII letters
abbrev pub same_word : Text → Text → Bool
same_word a b = bytes_eq (map to_ascii_lowercase a) (map to_ascii_lowercase b)

abbrev pub truth_word : Bool → Text
truth_word b = if b then codes "true" else codes "false"

-- a value is asked for by its printed text, a truth value in any case; null, lists and objects
-- have none
abbrev pub fits : Text → Tree → Bool
fits value null = false
fits value (truth b) = same_word value (truth_word b)
fits value (number n) = bytes_eq value (decimal n)
fits value (word t) = bytes_eq value t
fits value (items _) = false
fits value (object _) = false

-- a member that the caller is told has the name and the value
abbrev pub has_value : Bool → List NamedTree → Filter → Bool
has_value admin members f =
    list_any (λ (m : NamedTree). is_told admin m.0 && (bytes_eq f.name m.0 && fits f.value m.1))
    members

-- filters of one name are met by either value, and those of different names have to be met all
abbrev pub meets : Bool → List Filter → List NamedTree → Bool
meets admin filters members =
    list_all (λ (f : Filter).
    list_any (λ (g : Filter). bytes_eq f.name g.name && has_value admin members g) filters) filters
