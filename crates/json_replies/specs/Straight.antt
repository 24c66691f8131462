-- Inner: printed values as JSON with the members as they stand, and whether their names ascend.
use Rattle.std.specs.Prelude.{ℕ, List, Bool, true, ◌&&◌, Option, Some, None}
use Rattle.std.specs.Ordering.{nat_cmp, is_lt}
use Rattle.std.specs.Cmp.Lexicographic.{slice_cmp}
use Rattle.serde_json.specs.Data as json
use Rattle.serde_json.specs.Data.{Data}
use Rattle.api_types.specs.Printed.{Tree, null, truth, number, word, items, object, Trees, no_trees, tree, Branches, no_branches, branch}

abbrev mutual
  pub straight : Tree → Data
  straight null = json.null
  straight (truth b) = json.boolean b
  straight (number n) = json.number (json.unsigned n)
  straight (word text) = json.string text
  straight (items ts) = json.array (straight_items ts)
  straight (object bs) = json.object (straight_members bs)

  pub straight_items : Trees → json.Items
  straight_items no_trees = json.no_items
  straight_items (tree t ts) = json.item (straight t) (straight_items ts)

  pub straight_members : Branches → json.Members
  straight_members no_branches = json.no_members
  straight_members (branch name t bs) = json.member name (straight t) (straight_members bs)

abbrev pub is_above : Option (List ℕ) → List ℕ → Bool
is_above None name = true
is_above (Some last) name = is_lt (slice_cmp nat_cmp last name)

-- the names of each object ascend, here from the last one
abbrev mutual
  pub ascends : Tree → Bool
  ascends null = true
  ascends (truth b) = true
  ascends (number n) = true
  ascends (word text) = true
  ascends (items ts) = trees_ascend ts
  ascends (object bs) = branches_ascend None bs

  pub trees_ascend : Trees → Bool
  trees_ascend no_trees = true
  trees_ascend (tree t ts) = ascends t && trees_ascend ts

  pub branches_ascend : Option (List ℕ) → Branches → Bool
  branches_ascend last no_branches = true
  branches_ascend last (branch name t bs) =
      is_above last name && (ascends t && branches_ascend (Some name) bs)
