-- Lists and their items, printed and read again.
use Rattle.std.proofs.Common.{◌≡◌, ℕ, Bool, true, false, List, [], ◌∷◌, map, Option, Some, None, option_map, codes, refl, ap, ◌∙◌, subst}
use Rattle.std.specs.Prelude.{if◌then◌else◌, nat_le, length}
use Rattle.std.specs.Option.{option_and_then}
use Rattle.serde_json.specs.Data.{Data}
use Rattle.serde_json.specs.Find.{as_array, get}
use Rattle.net_addr.specs.Prefixes.{Prefix, Span}
use Rattle.net_addr.specs.declared.address.Addr.{Addr}
use Rattle.api_types.specs.Printed.{Tree, trees_of}
use Rattle.api_types.specs.declared.subnet.Hop.{Hop}
use Rattle.api_policy.specs.Trees as shown
use Rattle.api_policy.specs.Trees.{address_word, id_word, route_object, span_object}
use Rattle.json_trees.specs.Printed.{tree_data, trees_data}
use Rattle.json_values.specs.Values.{all_said, applied, kept, list_of, member_of, more, pairwise, values_of}
use Rattle.json_values.specs.Items.{address_of, exact_of, hop, hop_of, id_of, is_hop, is_span, other_hop, other_id, span, span_of}
use Rattle.json_values.specs.Grammars.{are_pools, group_ids, host_routes, name_servers, pools, router_routes}
use Rattle.json_laws.specs.ReadBack.{IsReadBack}
use Rattle.json_laws.proofs.TextsBack.{addresses, exact_again, ids, kept_is, kept_some, mapped_is, said_is}

-- ---- lists

more_is : {T : Type 0} (o : Option T) (p : Option (List T)) (xs : List T) → more o p ≡ Some xs → (x : T) × (ys : List T) × (o ≡ Some x) × (p ≡ Some ys) × (x ∷ ys ≡ xs)
more_is None p xs e = absurd cc
more_is (Some x) None xs e = absurd cc
more_is (Some x) (Some ys) xs e = (x, ys, refl, refl, cc)

module _ {T : Type 0} (says : Data → Option T) (print : T → Tree) (law : IsReadBack says print) where
  all_again : (ds : List Data) (xs : List T) → all_said says ds ≡ Some xs → all_said says (map (λ x. tree_data (print x)) xs) ≡ Some xs
  all_again [] xs e = let none : [] ≡ xs = cc in subst (λ (ys : List T). all_said says (map (λ x. tree_data (print x)) ys) ≡ Some ys) none refl
  all_again (d ∷ ds) xs e =
      let m = more_is (says d) (all_said says ds) xs e in
      let whole : all_said says (map (λ x. tree_data (print x)) (m.0 ∷ m.1)) ≡ Some (m.0 ∷ m.1) = λ j. more (law d m.0 m.2 j) (all_again ds m.1 m.3 j) in
      subst (λ (ys : List T). all_said says (map (λ x. tree_data (print x)) ys) ≡ Some ys) m.4 whole

  trees_values : (xs : List T) → values_of (trees_data (trees_of (map print xs))) ≡ map (λ x. tree_data (print x)) xs
  trees_values [] = refl
  trees_values (x ∷ xs) = ap (λ (ds : List Data). tree_data (print x) ∷ ds) (trees_values xs)

  pub list_again : (most : ℕ) → IsReadBack (list_of most says) (shown.list_of print)
  list_again most d xs e =
      let test = λ (ys : List T). nat_le (length ys) most in
      let k = kept_is test (option_and_then (all_said says) (option_map values_of (as_array d))) xs e in
      let s = said_is (all_said says) (option_map values_of (as_array d)) xs k.0 in
      ap (λ (ds : List Data). kept test (all_said says ds)) (trees_values xs) ∙ ap (kept test) (all_again s.0 xs s.2) ∙ kept_some test xs k.1

-- ---- items

if_is : {T : Type 0} (b : Bool) (o : Option T) (x : T) → (if b then o else None) ≡ Some x → o ≡ Some x
if_is true o x e = e
if_is false o x e = absurd cc

applied_is : {A B : Type 0} (o : Option (A → B)) (p : Option A) (y : B) → applied o p ≡ Some y → (f : A → B) × (a : A) × (o ≡ Some f) × (p ≡ Some a) × (f a ≡ y)
applied_is None p y e = absurd cc
applied_is (Some f) None y e = absurd cc
applied_is (Some f) (Some a) y e = (f, a, refl, refl, cc)

-- two parts of a value
both_is : {A B C : Type 0} (f : A → B → C) (o : Option A) (p : Option B) (z : C) → applied (option_map f o) p ≡ Some z → (a : A) × (b : B) × (o ≡ Some a) × (p ≡ Some b) × (f a b ≡ z)
both_is f o p z e =
    let s = applied_is (option_map f o) p z e in
    let m = mapped_is f o s.0 s.2 in
    (m.0, s.1, m.1, s.3, ap (λ g. g s.1) m.2 ∙ s.4)

span_back : (first last : Addr) → address_of (tree_data (address_word first)) ≡ Some first → address_of (tree_data (address_word last)) ≡ Some last → is_span (span first last) ≡ true
    → span_of (tree_data (span_object (span first last))) ≡ Some (span first last)
span_back first last p q within = (λ j. kept is_span (applied (option_map span (p j)) (q j))) ∙ kept_some is_span (span first last) within

spans : IsReadBack span_of span_object
spans d s e =
    let start = member_of address_of (codes "start") d in
    let end = member_of address_of (codes "end") d in
    let k = kept_is is_span (applied (option_map span start) end) s (if_is _ _ s e) in
    let b = both_is span start end s k.0 in
    let first = said_is address_of (get (codes "start") d) b.0 b.2 in
    let last = said_is address_of (get (codes "end") d) b.1 b.3 in
    let whole = span_back b.0 b.1 (addresses first.0 b.0 first.2) (addresses last.0 b.1 last.2) (ap is_span b.4 ∙ k.1) in
    subst (λ (v : Span). span_of (tree_data (span_object v)) ≡ Some v) b.4 whole

hop_back : (destination : Prefix) (next : Addr) → exact_of (tree_data (shown.prefix_word destination)) ≡ Some destination → address_of (tree_data (address_word next)) ≡ Some next → is_hop (hop destination next) ≡ true
    → hop_of (tree_data (route_object (hop destination next))) ≡ Some (hop destination next)
hop_back destination next p q same = (λ j. kept is_hop (applied (option_map hop (p j)) (q j))) ∙ kept_some is_hop (hop destination next) same

hops : IsReadBack hop_of route_object
hops d h e =
    let destination = member_of exact_of (codes "destination") d in
    let next = member_of address_of (codes "nexthop") d in
    let k = kept_is is_hop (applied (option_map hop destination) next) h (if_is _ _ h e) in
    let b = both_is hop destination next h k.0 in
    let to = said_is exact_of (get (codes "destination") d) b.0 b.2 in
    let by = said_is address_of (get (codes "nexthop") d) b.1 b.3 in
    let whole = hop_back b.0 b.1 (exact_again to.0 b.0 to.2) (addresses by.0 b.1 by.2) (ap is_hop b.4 ∙ k.1) in
    subst (λ (v : Hop). hop_of (tree_data (route_object v)) ≡ Some v) b.4 whole

-- ---- the lists of attributes

pub pools_back : IsReadBack pools (shown.list_of span_object)
pools_back d xs e =
    let k = kept_is are_pools (list_of 20 span_of d) xs e in
    ap (kept are_pools) (list_again span_of span_object spans 20 d xs k.0) ∙ kept_some are_pools xs k.1

pub servers_back : IsReadBack name_servers (shown.list_of address_word)
servers_back d xs e = list_again address_of address_word addresses 5 d xs e

pub hosts_back : IsReadBack host_routes (shown.list_of route_object)
hosts_back d xs e = list_again hop_of route_object hops 20 d xs e

pub routes_back : IsReadBack router_routes (shown.list_of route_object)
routes_back d xs e =
    let k = kept_is (pairwise other_hop) (list_of 30 hop_of d) xs e in
    ap (kept (pairwise other_hop)) (list_again hop_of route_object hops 30 d xs k.0) ∙ kept_some (pairwise other_hop) xs k.1

pub groups_back : IsReadBack group_ids (shown.list_of id_word)
groups_back d xs e =
    let k = kept_is (pairwise other_id) (list_of 20 id_of d) xs e in
    ap (kept (pairwise other_id)) (list_again id_of id_word ids 20 d xs k.0) ∙ kept_some (pairwise other_id) xs k.1
