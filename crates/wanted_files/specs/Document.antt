-- What the bytes of a wanted file say: the tables of its one key `reach`, a list of them. The file
-- is TOML in UTF-8 (https://toml.io/en/v1.1.0).
use Rattle.std.specs.Prelude.{List, [], ◌∷◌, map, codes, Option, Some, None, option_and_then, if◌then◌else◌}
use Rattle.std.specs.Str.{is_utf8}
use Rattle.net_addr.specs.Words.{Bytes}
use Rattle.json_values.specs.Values.{more}
use Rattle.toml.specs.Data.{Data, Items, Members, no_items, item, as_array, as_table, get_member}
use Rattle.toml.specs.Parse.{parse_document}
use Rattle.wanted_files.specs.Names.{are_different}
use Rattle.wanted_files.specs.Tables.{reach_in}
use Rattle.wanted_files.specs.Values.{has_only}
use Rattle.wanted_files.specs.declared.wanted.WantedReach.{WantedReach}

-- what a value says, which has to be a table
abbrev pub reach_of_value : Data → Option WantedReach
reach_of_value d = option_and_then reach_in (as_table d)

-- what each value says
abbrev pub reaches_among : Items → Option (List WantedReach)
reaches_among no_items = Some []
reaches_among (item d ds) = more (reach_of_value d) (reaches_among ds)

-- no two tables have one name
abbrev pub if_different : List WantedReach → Option (List WantedReach)
if_different tables =
    if are_different (map (λ (w : WantedReach). w.name) tables) then Some tables else None

abbrev pub reaches_of : Data → Option (List WantedReach)
reaches_of d = option_and_then if_different (option_and_then reaches_among (as_array d))

-- the tables; none if the key is absent
abbrev pub reaches_from : Option Data → Option (List WantedReach)
reaches_from None = Some []
reaches_from (Some d) = reaches_of d

-- at the top there is no other key
abbrev pub wanted_in : Members → Option (List WantedReach)
wanted_in ms =
    if has_only (codes "reach" ∷ []) ms then reaches_from (get_member (codes "reach") ms) else None

-- the document that the bytes are
abbrev pub document_of : Bytes → Option Members
document_of bytes = if is_utf8 bytes then parse_document bytes else None

-- what the bytes say; None if they aren't in the grammar
abbrev pub wanted_of : Bytes → Option (List WantedReach)
wanted_of bytes = option_and_then wanted_in (document_of bytes)
