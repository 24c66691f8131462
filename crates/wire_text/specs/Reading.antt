-- What a reader gives of the value of something.
use Rattle.std.specs.Prelude.{◌≡◌, Some, Result, Ok, Err, ⊤}
use Rattle.serde_json.specs.Read.{read}
use Rattle.serde_json.specs.Written.{compact_text}
use Rattle.net_addr.specs.Words.{Bytes}
use Rattle.api_types.specs.Printed.{Tree, null, truth, number, word, items, object}
use Rattle.json_trees.specs.Printed.{tree_data}
use Rattle.wire_text.specs.declared.refusal.TextRefusal.{TextRefusal}
use Rattle.wire_text.specs.declared.refusal.TextRefusal.TheVariants.{BadText, OutOfMemory}

abbrev pub IsMemory : TextRefusal → Type 0
IsMemory BadText = ⊥
IsMemory OutOfMemory = ⊤

-- it is read, or memory ran out
abbrev pub Reads : {T : Type 0} → T → Result T TextRefusal → Type 0
Reads x (Ok y) = y ≡ x
Reads x (Err e) = IsMemory e

abbrev pub IsNotNull : Tree → Type 0
IsNotNull null = ⊥
IsNotNull (truth b) = ⊤
IsNotNull (number n) = ⊤
IsNotNull (word t) = ⊤
IsNotNull (items ts) = ⊤
IsNotNull (object bs) = ⊤

-- the bytes are the text of a tree
abbrev pub HasText : Tree → Bytes → Type 0
HasText t text = text ≡ compact_text (tree_data t)

-- the text of a tree spells its value
abbrev pub IsReadBack : Tree → Type 0
IsReadBack t = read (compact_text (tree_data t)) ≡ Some (tree_data t)
