-- Printed values as JSON (RFC 8259). The members of an object stand in byte order of their names.
use Rattle.std.specs.Prelude.{List, [], ◌∷◌, Option, Some, None}
use Rattle.net_addr.specs.Words.{Bytes, Text}
use Rattle.serde_json.specs.Data as json
use Rattle.serde_json.specs.Data.{Data, put}
use Rattle.serde_json.specs.Written.{compact_text}
use Rattle.api_types.specs.Printed.{Tree, null, truth, number, word, items, object, Trees, no_trees, tree, Branches, no_branches, branch, trees_of, branches_of, NamedTree}

abbrev mutual
  pub tree_data : Tree → Data
  tree_data null = json.null
  tree_data (truth b) = json.boolean b
  tree_data (number n) = json.number (json.unsigned n)
  tree_data (word text) = json.string text
  tree_data (items ts) = json.array (trees_data ts)
  tree_data (object bs) = json.object (branches_data bs json.no_members)

  pub trees_data : Trees → json.Items
  trees_data no_trees = json.no_items
  trees_data (tree t ts) = json.item (tree_data t) (trees_data ts)

  -- members beside others: each takes its place among the names, and the last of equal names
  -- counts
  pub branches_data : Branches → json.Members → json.Members
  branches_data no_branches ms = ms
  branches_data (branch name t bs) ms = branches_data bs (put name (tree_data t) ms)

-- some members as members of JSON, beside others
abbrev pub members_data : List NamedTree → json.Members → json.Members
members_data ms others = branches_data (branches_of ms) others

-- an object with these members
abbrev pub fields : List NamedTree → Tree
fields ms = object (branches_of ms)

-- an object with one member
abbrev pub only : Text → Tree → Tree
only name t = fields ((name, t) ∷ [])

abbrev pub list : List Tree → Tree
list ts = items (trees_of ts)

-- a body without spaces, or none
abbrev pub body_text : Option Tree → Bytes
body_text None = []
body_text (Some t) = compact_text (tree_data t)

-- a value, or null
abbrev pub or_null : {T : Type 0} → (T → Tree) → Option T → Tree
or_null f None = null
or_null f (Some x) = f x
