-- What is written of rows nests six levels at most.
use Rattle.std.proofs.Common.{◌≤◌, max, ℕ, List, [], ◌∷◌, map, Option, Some, None, arith}
use Rattle.serde_json.specs.Data.{depth, items_depth}
use Rattle.api_types.specs.Printed.{Tree, trees_of}
use Rattle.api_types.specs.declared.change.Item.{Item}
use Rattle.api_types.specs.declared.page.PageRow.{PageRow}
use Rattle.api_types.specs.declared.kind.Row.{Row}
use Rattle.api_types.specs.declared.kind.Row.TheVariants.{Project, Network, Subnet, Port, Group, Rule, Router, Floating, Policy}
use Rattle.api_types.specs.declared.network.Segment.{Segment}
use Rattle.api_types.specs.declared.network.Segment.TheVariants.{Local, Flat, Vlan, Vxlan}
use Rattle.json_trees.specs.Printed.{or_null, tree_data, trees_data}
use Rattle.api_types.specs.Printed.{number, word}
use Rattle.json_trees.specs.Words.{address_tree, id_tree, prefix_tree}
use Rattle.wire_text.specs.Parts.{fixed_tree, gateway_tree, hop_tree, mode_tree, pair_tree, segment_tree, span_tree, target_tree}
use Rattle.wire_text.specs.RowTrees.{row_tree}
use Rattle.wire_text.specs.Texts.{change_tree, item_tree, page_row_tree, rows_tree}

most : (a b k : ℕ) → a ≤ k → b ≤ k → max a b ≤ k
most a b k p q = omega (arith, p, q)

module _ {T : Type 0} (print : T → Tree) (k : ℕ) (law : (x : T) → depth (tree_data (print x)) ≤ k) where
  deep_list : (xs : List T) → items_depth (trees_data (trees_of (map print xs))) ≤ k
  deep_list [] = omega arith
  deep_list (x ∷ xs) = most (depth (tree_data (print x))) (items_depth (trees_data (trees_of (map print xs)))) k (law x) (deep_list xs)

  deep_any : (o : Option T) → depth (tree_data (or_null print o)) ≤ k
  deep_any None = omega arith
  deep_any (Some x) = law x

deep_segment : (s : Segment) → depth (tree_data (segment_tree s)) ≤ 1
deep_segment Local = omega arith
deep_segment (Flat physical) = omega arith
deep_segment (Vlan physical tag) = omega arith
deep_segment (Vxlan n) = omega arith

deep_row : (r : Row) → depth (tree_data (row_tree r)) ≤ 4
deep_row (Project r) = omega arith
deep_row (Network r) = let a = deep_segment r.segment in omega (arith, a)
deep_row (Subnet r) =
    let a = deep_any mode_tree 0 (λ m. omega arith) r.address_mode in
    let b = deep_list address_tree 0 (λ x. omega arith) r.dns in
    let c = deep_any address_tree 0 (λ x. omega arith) r.gateway in
    let d = deep_list hop_tree 1 (λ x. omega arith) r.host_routes in
    let e = deep_list span_tree 1 (λ x. omega arith) r.pools in
    let f = deep_any mode_tree 0 (λ m. omega arith) r.ra_mode in
    omega (arith, a, b, c, d, e, f)
deep_row (Port r) =
    let a = deep_list fixed_tree 1 (λ x. omega arith) r.fixed in
    let b = deep_list id_tree 0 (λ x. omega arith) r.groups in
    let c = deep_list pair_tree 1 (λ x. omega arith) r.pairs in
    omega (arith, a, b, c)
deep_row (Group r) = omega arith
deep_row (Rule r) =
    let a = deep_any number 0 (λ x. omega arith) r.high in
    let b = deep_any number 0 (λ x. omega arith) r.low in
    let c = deep_any number 0 (λ x. omega arith) r.protocol in
    let d = deep_any id_tree 0 (λ x. omega arith) r.remote_group in
    let e = deep_any prefix_tree 0 (λ x. omega arith) r.remote_prefix in
    omega (arith, a, b, c, d, e)
deep_row (Router r) =
    let a = deep_any gateway_tree 1 (λ x. omega arith) r.gateway in
    let b = deep_any word 0 (λ x. omega arith) r.host in
    let c = deep_list hop_tree 1 (λ x. omega arith) r.routes in
    omega (arith, a, b, c)
deep_row (Floating r) = let a = deep_any target_tree 1 (λ x. omega arith) r.target in omega (arith, a)
deep_row (Policy r) = omega arith

deep_item : (i : Item) → depth (tree_data (item_tree i)) ≤ 5
deep_item i =
    let a = deep_any row_tree 4 deep_row i.after in
    let b = deep_any row_tree 4 deep_row i.before in
    omega (arith, a, b)

pub deep_items : (c : List Item) → depth (tree_data (change_tree c)) ≤ 6
deep_items c = let a = deep_list item_tree 5 deep_item c in omega (arith, a)

deep_page_row : (p : PageRow) → depth (tree_data (page_row_tree p)) ≤ 5
deep_page_row p = let a = deep_row p.row in omega (arith, a)

pub deep_page : (rows : List PageRow) → depth (tree_data (rows_tree rows)) ≤ 6
deep_page rows = let a = deep_list page_row_tree 5 deep_page_row rows in omega (arith, a)
