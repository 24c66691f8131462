-- What is printed of what was read, read again.
use Rattle.std.specs.Prelude.{◌≡◌, List, [], ◌∷◌, if◌then◌else◌, Option, Some, None, codes}
use Rattle.std.specs.Str.{bytes_eq}
use Rattle.net_addr.specs.Words.{Text}
use Rattle.serde_json.specs.Data.{Data}
use Rattle.api_types.specs.Printed.{Tree, NamedTree}
use Rattle.api_types.specs.declared.form.NetworkType.{NetworkType}
use Rattle.api_types.specs.declared.form.NetworkType.TheVariants.{Local, Flat, Vlan, Vxlan}
use Rattle.json_trees.specs.Printed.{tree_data}

-- a value that is read, then printed, is read as the same
abbrev pub IsReadBack : {T : Type 0} → (Data → Option T) → (T → Tree) → Type 0
IsReadBack {T = T} says print =
    (d : Data) (x : T) → says d ≡ Some x → says (tree_data (print x)) ≡ Some x

-- the word of a network's type
abbrev pub type_name : NetworkType → Text
type_name Local = codes "local"
type_name Flat = codes "flat"
type_name Vlan = codes "vlan"
type_name Vxlan = codes "vxlan"

-- the last value under a name, or this one
abbrev pub named_or : Option Tree → Text → List NamedTree → Option Tree
named_or found name [] = found
named_or found name (m ∷ ms) = named_or (if bytes_eq name m.0 then Some m.1 else found) name ms

-- the last value under a name
abbrev pub last_named : Text → List NamedTree → Option Tree
last_named = named_or None
