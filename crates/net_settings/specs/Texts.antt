-- Lists and strings of TOML (https://toml.io/en/v1.1.0).
use Rattle.std.specs.Prelude.{List, [], ◌∷◌, map, Option, Some, None, is_some, unwrap_or, option_map, option_and_then, if◌then◌else◌}
use Rattle.std.specs.List.{list_all}
use Rattle.net_addr.specs.Words.{Text}
use Rattle.toml.specs.Data.{Data, Items, no_items, item, as_str, as_array}

-- the values of an array
abbrev pub list_of : Items → List Data
list_of no_items = []
list_of (item d ds) = d ∷ list_of ds

-- the values, if it is an array
abbrev pub values_of : Data → Option (List Data)
values_of d = option_map list_of (as_array d)

-- the texts of the values, if all are strings
abbrev pub texts_among : List Data → Option (List Text)
texts_among ds =
    if list_all (λ d. is_some (as_str d)) ds then Some (map (λ d. unwrap_or (as_str d) []) ds)
    else None

-- the texts of an array of strings
abbrev pub texts_of : Data → Option (List Text)
texts_of d = option_and_then texts_among (values_of d)
