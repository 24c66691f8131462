-- What is written of rows is plain: whole numbers of 64 bits, and members in order.
use Rattle.std.proofs.Common.{Greater, Less, Equal, Ordering, is_gt, ◌≡◌, ◌<◌, ◌^◌, ℕ, suc, Bool, true, List, [], ◌∷◌, map, Option, Some, None, refl, arith, codes}
use Rattle.std.specs.Prelude.{IfSome, ◌&&◌}
use Rattle.std.specs.Ordering.{nat_cmp}
use Rattle.std.specs.Cmp.Lexicographic.{slice_cmp}
use Rattle.serde_json.specs.Data as json
use Rattle.serde_json.specs.Data.{Data, Members, no_members, member}
use Rattle.api_types.specs.Lists.{Each}
use Rattle.net_addr.specs.Prefixes.{Span}
use Rattle.api_types.specs.declared.subnet.Hop.{Hop}
use Rattle.api_types.specs.declared.port.Fixed.{Fixed}
use Rattle.api_types.specs.declared.port.Pair.{Pair}
use Rattle.api_types.specs.declared.router.Gateway.{Gateway}
use Rattle.api_types.specs.declared.floating.Target.{Target}
use Rattle.api_types.specs.Printed.{Tree, null, number, trees_of, word}
use Rattle.api_types.specs.declared.change.Item.{Item}
use Rattle.api_types.specs.declared.page.PageRow.{PageRow}
use Rattle.api_types.specs.declared.kind.Kind.{Kind}
use Rattle.api_types.specs.declared.kind.Row.{Row}
use Rattle.api_types.specs.declared.kind.Row.TheVariants.{Project, Network, Subnet, Port, Group, Rule, Router, Floating, Policy}
use Rattle.api_types.specs.declared.network.Segment.{Segment}
use Rattle.api_types.specs.declared.network.Segment.TheVariants.{Local, Flat, Vlan, Vxlan}
use Rattle.api_types.proofs.ListLemmas.{and_both}
use Rattle.json_trees.specs.Printed.{or_null, tree_data, trees_data}
use Rattle.json_trees.specs.Words.{address_tree, id_tree, prefix_tree}
use Rattle.wire_text.specs.Parts.{fixed_tree, gateway_tree, hop_tree, mode_tree, pair_tree, segment_parts, segment_tree, span_tree, target_tree}
use Rattle.wire_text.specs.RowTrees.{floating_tree, group_tree, network_tree, policy_tree, port_tree, project_tree, router_tree, row_tree, rule_tree, subnet_tree}
use Rattle.wire_text.specs.Texts.{IsItem, IsPageRow, MayBeRowOf, change_tree, item_tree, page_row_tree, rows_tree}
use Rattle.wire_text.specs.Typed.{IsSegment, IsTyped}
use Rattle.wire_text.proofs.TextBack.{ArePlain, AreSorted, IsLast, IsPlain, added}

-- ---- order, tested

abbrev pub is_last : List ℕ → Members → Bool
is_last k no_members = true
is_last k (member l e ms) = is_gt (slice_cmp nat_cmp k l) && is_last k ms

abbrev pub is_sorted : Members → Members → Bool
is_sorted done no_members = true
is_sorted done (member k d ms) = is_last k done && is_sorted (added done k d) ms

greater : (o : Ordering) → is_gt o ≡ true → o ≡ Greater
greater Less h = absurd cc
greater Equal h = absurd cc
greater Greater h = refl

last_of : (k : List ℕ) (ms : Members) → is_last k ms ≡ true → IsLast k ms
last_of k no_members h = tt
last_of k (member l e ms) h = let b = and_both (is_gt (slice_cmp nat_cmp k l)) (is_last k ms) h in (greater (slice_cmp nat_cmp k l) b.0, last_of k ms b.1)

sorted_of : (ms done : Members) → is_sorted done ms ≡ true → AreSorted done ms
sorted_of no_members done h = tt
sorted_of (member k d ms) done h = let b = and_both (is_last k done) (is_sorted (added done k d) ms) h in (last_of k done b.0, sorted_of ms (added done k d) b.1)

-- the members of an object
abbrev pub members_in : Data → Members
members_in (json.object ms) = ms
members_in _ = no_members

pub sorted : (t : Tree) → is_sorted no_members (members_in (tree_data t)) ≡ true → AreSorted no_members (members_in (tree_data t))
sorted t h = sorted_of (members_in (tree_data t)) no_members h

-- ---- lists, and what may be null

module _ {T : Type 0} (P : T → Type 0) (print : T → Tree) (law : (x : T) → P x → IsPlain (tree_data (print x))) where
  plain_list : (xs : List T) → Each P xs → ArePlain (trees_data (trees_of (map print xs)))
  plain_list [] all = tt
  plain_list (x ∷ xs) all = (law x (all 0 x refl), plain_list xs (λ k y at. all (suc k) y at))

  plain_or_null : (o : Option T) → IfSome o P → IsPlain (tree_data (or_null print o))
  plain_or_null None is = tt
  plain_or_null (Some x) is = law x is

module _ {T : Type 0} (print : T → Tree) (law : (x : T) → IsPlain (tree_data (print x))) where
  plain_all : (xs : List T) → ArePlain (trees_data (trees_of (map print xs)))
  plain_all [] = tt
  plain_all (x ∷ xs) = (law x, plain_all xs)

  plain_any : (o : Option T) → IsPlain (tree_data (or_null print o))
  plain_any None = tt
  plain_any (Some x) = law x

small32 : (n : ℕ) → n < 2 ^ 32 → n < 2 ^ 64
small32 n h = omega (arith, h)

small16 : (n : ℕ) → n < 2 ^ 16 → n < 2 ^ 64
small16 n h = omega (arith, h)

small8 : (n : ℕ) → n < 2 ^ 8 → n < 2 ^ 64
small8 n h = omega (arith, h)

plain_parts : (n physical : Tree) (type : List ℕ) → IsPlain (tree_data n) → IsPlain (tree_data physical) → IsPlain (tree_data (segment_parts n physical type))
plain_parts n physical type a b = (sorted (segment_parts n physical type) refl, (a, (b, (tt, tt))))

plain_segment : (s : Segment) → IsSegment s → IsPlain (tree_data (segment_tree s))
plain_segment Local is = plain_parts null null (codes "Local") tt tt
plain_segment (Flat physical) is = plain_parts null (word physical) (codes "Flat") tt tt
plain_segment (Vlan physical tag) is = plain_parts (number tag) (word physical) (codes "Vlan") (small16 tag is.1) tt
plain_segment (Vxlan n) is = plain_parts (number n) null (codes "Vxlan") (small32 n is) tt

plain_hop : (h : Hop) → IsPlain (tree_data (hop_tree h))
plain_hop h = (sorted (hop_tree h) refl, (tt, (tt, tt)))

plain_span : (s : Span) → IsPlain (tree_data (span_tree s))
plain_span s = (sorted (span_tree s) refl, (tt, (tt, tt)))

plain_fixed : (f : Fixed) → IsPlain (tree_data (fixed_tree f))
plain_fixed f = (sorted (fixed_tree f) refl, (tt, (tt, tt)))

plain_pair : (p : Pair) → IsPlain (tree_data (pair_tree p))
plain_pair p = (sorted (pair_tree p) refl, (tt, (tt, tt)))

plain_gateway : (g : Gateway) → IsPlain (tree_data (gateway_tree g))
plain_gateway g = (sorted (gateway_tree g) refl, (tt, (tt, (tt, tt))))

plain_target : (t : Target) → IsPlain (tree_data (target_tree t))
plain_target t = (sorted (target_tree t) refl, (tt, (tt, (tt, tt))))

pub plain_row : (r : Row) → IsTyped r → IsPlain (tree_data (row_tree r))
plain_row (Project r) is = (sorted (project_tree r) refl, (is.count, (tt, (small32 r.ordinal is.ordinal, tt))))
plain_row (Network r) is = (sorted (network_tree r) refl, (tt, (tt, (tt, (tt, (plain_segment r.segment is.segment, (tt, tt)))))))
plain_row (Subnet r) is =
    (sorted (subnet_tree r) refl, (plain_any mode_tree (λ m. tt) r.address_mode, (tt, (tt, (plain_all address_tree (λ a. tt) r.dns, (plain_any address_tree (λ a. tt) r.gateway, (plain_all hop_tree plain_hop r.host_routes, (tt, (tt, (tt, (plain_all span_tree plain_span r.pools, (tt, (tt, (plain_any mode_tree (λ m. tt) r.ra_mode, tt))))))))))))))
plain_row (Port r) is =
    (sorted (port_tree r) refl, (tt, (tt, (tt, (plain_all fixed_tree plain_fixed r.fixed, (plain_all id_tree (λ i. tt) r.groups, (tt, (tt, (tt, (tt, (tt, (tt, (plain_all pair_tree plain_pair r.pairs, (tt, (tt, (tt, (tt, tt)))))))))))))))))
plain_row (Group r) is = (sorted (group_tree r) refl, (tt, (tt, (tt, (tt, (tt, tt))))))
plain_row (Rule r) is =
    (sorted (rule_tree r) refl, (tt, (tt, (tt, (tt, (plain_or_null (λ n. n < 2 ^ 16) number small16 r.high is.high, (tt, (plain_or_null (λ n. n < 2 ^ 16) number small16 r.low is.low, (tt, (plain_or_null (λ n. n < 2 ^ 8) number small8 r.protocol is.protocol, (plain_any id_tree (λ i. tt) r.remote_group, (plain_any prefix_tree (λ p. tt) r.remote_prefix, tt))))))))))))
plain_row (Router r) is =
    (sorted (router_tree r) refl, (tt, (plain_any gateway_tree plain_gateway r.gateway, (plain_any word (λ t. tt) r.host, (tt, (tt, (tt, (plain_all hop_tree plain_hop r.routes, (tt, tt)))))))))
plain_row (Floating r) is = (sorted (floating_tree r) refl, (tt, (tt, (tt, (tt, (tt, (tt, (plain_any target_tree plain_target r.target, tt))))))))
plain_row (Policy r) is = (sorted (policy_tree r) refl, (tt, (tt, (tt, (tt, (tt, tt))))))

plain_side : (k : Kind) (o : Option Row) → MayBeRowOf k o → IsPlain (tree_data (or_null row_tree o))
plain_side k None is = tt
plain_side k (Some r) is = plain_row r is.1

plain_item : (i : Item) → IsItem i → IsPlain (tree_data (item_tree i))
plain_item i is =
    (sorted (item_tree i) refl, (plain_side i.kind i.after is.after, (plain_side i.kind i.before is.before, (tt, (is.place, tt)))))

pub plain_change : (c : List Item) → Each IsItem c → IsPlain (tree_data (change_tree c))
plain_change c is = plain_list IsItem item_tree plain_item c is

plain_page_row : (p : PageRow) → IsPageRow p → IsPlain (tree_data (page_row_tree p))
plain_page_row p is = (sorted (page_row_tree p) refl, (tt, (plain_row p.row is.1, tt)))

pub plain_rows : (rows : List PageRow) → Each IsPageRow rows → IsPlain (tree_data (rows_tree rows))
plain_rows rows is = plain_list IsPageRow page_row_tree plain_page_row rows is
