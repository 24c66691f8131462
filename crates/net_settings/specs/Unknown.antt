-- Keys that no rule knows. One in a host's table is written with `hosts.` before it.
use Rattle.std.specs.Prelude.{Bool, List, [], ◌∷◌, ◌++◌, codes, Option, Some, None, unwrap_or, option_and_then, fold, if◌then◌else◌}
use Rattle.std.specs.List.{list_any}
use Rattle.std.specs.Ordering.{nat_cmp, is_le}
use Rattle.std.specs.Cmp.Lexicographic.{slice_cmp}
use Rattle.toml.specs.Data.{Data, Members, no_members, member, get_member, as_table}
use Rattle.net_settings.specs.declared.unknown.Level.{Level}
use Rattle.net_settings.specs.declared.unknown.Level.TheVariants.{Top, Hosts}
use Rattle.std.specs.Str.{bytes_eq}
use Rattle.net_addr.specs.Words.{Text}
use Rattle.net_settings.specs.Texts.{values_of}

-- the keys at the top
abbrev pub is_key : Text → Bool
is_key key =
    list_any (bytes_eq key)
    (codes "drivers" ∷ codes "vxlan_first" ∷ codes "vxlan_last" ∷ codes "quotas" ∷ codes "hosts"
    ∷ [])

-- the keys of a host's table
abbrev pub is_host_key : Text → Bool
is_host_key key =
    list_any (bytes_eq key)
    (codes "name" ∷ codes "physical" ∷ codes "vxlan" ∷ codes "l3" ∷ codes "dhcp" ∷ [])

-- a rule knows the key at this level
abbrev pub knows : Level → Text → Bool
knows Top key = is_key key
knows Hosts key = is_host_key key

-- the key as a refusal writes it
abbrev pub full_key : Level → Text → Text
full_key Top key = key
full_key Hosts key = codes "hosts." ++ key

-- the unknown keys of a table
abbrev pub unknown_in : Level → Members → List Text
unknown_in level no_members = []
unknown_in level (member key d ms) =
    if knows level key then unknown_in level ms else full_key level key ∷ unknown_in level ms

-- the unknown keys of the tables among some values
abbrev pub unknown_among : List Data → List Text
unknown_among [] = []
unknown_among (d ∷ ds) = unknown_in Hosts (unwrap_or (as_table d) no_members) ++ unknown_among ds

-- all unknown keys of a document
abbrev pub unknown_keys : Members → List Text
unknown_keys ms =
    unknown_in Top ms
    ++ unknown_among (unwrap_or (option_and_then values_of (get_member (codes "hosts") ms)) [])

-- the lesser of two texts in byte order
abbrev pub lesser : Option Text → Text → Option Text
lesser None text = Some text
lesser (Some least) text = if is_le (slice_cmp nat_cmp least text) then Some least else Some text

-- the first unknown key in byte order
abbrev pub first_unknown : Members → Option Text
first_unknown ms = fold lesser None (unknown_keys ms)
