-- Values under names.
use Rattle.std.specs.Prelude.{Bool, List, [], ◌∷◌, Option, option_map, find, if◌then◌else◌}
use Rattle.std.specs.Str.{bytes_eq}
use Rattle.net_addr.specs.Words.{Text}
use Rattle.keeper_core.specs.declared.named.Named.{Named}

module _ {V : Type 0} where
  abbrev pub has_name : Text → Named V → Bool
  has_name name item = bytes_eq item.name name

  -- the first value with the name
  abbrev pub value_named : Text → List (Named V) → Option V
  value_named name items = option_map (λ item. item.value) (find (has_name name) items)

  -- the items with this value under the name: in place of the first one with the name, otherwise
  -- last
  abbrev pub with_value : Text → V → List (Named V) → List (Named V)
  with_value name value [] = record { name = name; value = value } ∷ []
  with_value name value (item ∷ items) =
      if has_name name item then record { name = item.name; value = value } ∷ items
      else item ∷ with_value name value items
