-- No edits write no more rows than stand in one of two tables alone, of whatever table.
use Rattle.std.proofs.Common.{◌≡◌, ◌∙◌, ◌+◌, ◌≤◌, List, [], ◌∷◌, map, length, Some, Bool, true, false, refl, sym, ap, subst, arith}
use Rattle.std.specs.Prelude.{if◌then◌else◌, nat_lt}
use Rattle.net_addr.specs.Ordered.{addr_before}
use Rattle.api_types.specs.Ascending.{prefix_before}
use Rattle.api_types.specs.RowLists.{RowLists}
use Rattle.api_types.specs.declared.change.Item.{Item}
use Rattle.api_types.proofs.ListLemmas.{false_true, none_some}
use Rattle.plane_types.specs.Edits.{AreFew, StandIn}
use Rattle.plane_types.specs.Keyed.{AreApart, IsTotal, Others, are_one, pair_order, row_at}
use Rattle.plane_types.specs.KeyedTables.{BridgeKeyAt, NeighbourKey, bridge_order, filter_order, neighbour_order, route_order, set_order, way_order}
use Rattle.plane_types.specs.Node.{Agent}
use Rattle.plane_types.proofs.KeyedLemmas.{apart_first, apart_second, three_ways}
use Rattle.plane_types.proofs.NumberedLemmas.{number_order}
use Rattle.plane_types.proofs.PairLemmas.{pair_total}
use Rattle.table_edits.specs.KeyOrders.{addr_order, prefix_order}
use Rattle.l2_delta.proofs.MapChanges.{same_bridge_order, same_neighbour_order}
use Rattle.agent_node.specs.Rewired.{AreFewFor}
use Rattle.agent_node.specs.Still.{no_edits}

module _ {K : Type 0} (before : K → K → Bool) (order : IsTotal before) where
  one_same : (a b : K) → are_one before a b ≡ true → a ≡ b
  one_same a b h =
      three_ways before order a b (a ≡ b)
      (λ e. false_true _ (sym (apart_first before order a b e) ∙ h))
      (λ e. false_true _ (sym (apart_second before order a b e) ∙ h))
      (λ e f. order.same a b e f)

module _ {K R : Type 0} (before : K → K → Bool) (order : IsTotal before) where
  abbrev keys_in : List (K × R) → List K
  keys_in xs = map (λ (x : K × R). x.0) xs

  -- less the first one at a key
  abbrev without : K → List (K × R) → List (K × R)
  without k [] = []
  without k (b ∷ bs) = if are_one before b.0 k then bs else b ∷ without k bs

  shorter : (k : K) (bs : List (K × R)) → length bs ≤ length (without k bs) + 1
  shorter k [] = omega arith
  shorter k (b ∷ bs) = go (are_one before b.0 k) (shorter k bs)
    where
      go : (c : Bool) → length bs ≤ length (without k bs) + 1
          → length (b ∷ bs) ≤ length (if c then bs else b ∷ without k bs) + 1
      go true rest = omega arith
      go false rest = omega (arith, rest)

  others_rest : (q k : K) (bs : List (K × R)) → Others before q (keys_in bs)
      → Others before q (keys_in (without k bs))
  others_rest q k [] o = tt
  others_rest q k (b ∷ bs) o = go (are_one before b.0 k) (others_rest q k bs o.1)
    where
      go : (c : Bool) → Others before q (keys_in (without k bs))
          → Others before q (keys_in (if c then bs else b ∷ without k bs))
      go true rest = o.1
      go false rest = (o.0, rest)

  apart_rest : (k : K) (bs : List (K × R)) → AreApart before (keys_in bs)
      → AreApart before (keys_in (without k bs))
  apart_rest k [] a = tt
  apart_rest k (b ∷ bs) a = go (are_one before b.0 k) (apart_rest k bs a.1)
    where
      go : (c : Bool) → AreApart before (keys_in (without k bs))
          → AreApart before (keys_in (if c then bs else b ∷ without k bs))
      go true rest = a.1
      go false rest = (others_rest b.0 k bs a.0, rest)

  -- what stands at other keys than the first row's stands among the rest
  stand_all : (x : K × R) (xs bs : List (K × R)) → Others before x.0 (keys_in bs)
      → StandIn before (x ∷ xs) bs → StandIn before xs bs
  stand_all x xs [] o h = tt
  stand_all x xs (b ∷ bs) o h =
      (sym (ap (λ c. if c then Some x.1 else row_at before b.0 xs) o.0) ∙ h.0, stand_all x xs bs o.1 h.1)

  stand_rest : (x : K × R) (xs bs : List (K × R)) → AreApart before (keys_in bs)
      → StandIn before (x ∷ xs) bs → StandIn before xs (without x.0 bs)
  stand_rest x xs [] a h = tt
  stand_rest x xs (b ∷ bs) a h =
      go (are_one before b.0 x.0) refl (stand_rest x xs bs a.1 h.1)
    where
      go : (c : Bool) → are_one before b.0 x.0 ≡ c → StandIn before xs (without x.0 bs)
          → StandIn before xs (if c then bs else b ∷ without x.0 bs)
      go true e rest =
          stand_all x xs bs
          (subst (λ k. Others before k (keys_in bs)) (one_same before order b.0 x.0 e) a.0) h.1
      go false e rest =
          (sym (ap (λ c. if c then Some x.1 else row_at before b.0 xs) e) ∙ h.0, rest)

  stand_few : (xs bs : List (K × R)) → AreApart before (keys_in bs) → StandIn before xs bs
      → length bs ≤ length xs
  stand_few [] [] a h = omega arith
  stand_few [] (b ∷ bs) a h = none_some b.1 _ h.0
  stand_few (x ∷ xs) bs a h =
      let rest =
      stand_few xs (without x.0 bs) (apart_rest x.0 bs a) (stand_rest x xs bs a h) in
      omega (arith, shorter x.0 bs, rest)

  pub none_few : (old new : List (K × R)) → AreFew before old new []
  none_few old new = λ both apart in_old in_new.
      let had = stand_few old both apart in_old in
      let has = stand_few new both apart in_new in
      omega (arith, had, has)

bridge_total : IsTotal bridge_order
bridge_total =
    subst (λ (o : BridgeKeyAt → BridgeKeyAt → Bool). IsTotal o) same_bridge_order
    (pair_total nat_lt nat_lt number_order number_order)

neighbour_total : IsTotal neighbour_order
neighbour_total =
    subst (λ (o : NeighbourKey → NeighbourKey → Bool). IsTotal o) same_neighbour_order
    (pair_total nat_lt addr_before number_order addr_order)

filter_total : IsTotal filter_order
filter_total =
    pair_total nat_lt (pair_order nat_lt nat_lt) number_order
    (pair_total nat_lt nat_lt number_order number_order)

set_total : IsTotal set_order
set_total = pair_total nat_lt prefix_before number_order prefix_order

route_total : IsTotal route_order
route_total =
    pair_total nat_lt way_order number_order
    (pair_total nat_lt (pair_order nat_lt addr_before) number_order
    (pair_total nat_lt addr_before number_order addr_order))

-- of all tables
pub none_few_for : (a : Agent) (change : List Item) (rows : RowLists)
    → AreFewFor a change rows no_edits
none_few_for a change rows = record {
  tags = none_few nat_lt number_order _ _;
  taps = none_few nat_lt number_order _ _;
  filters = none_few filter_order filter_total _ _;
  sets = none_few set_order set_total _ _;
  bridge = none_few bridge_order bridge_total _ _;
  inward = none_few nat_lt number_order _ _;
  neighbours = none_few neighbour_order neighbour_total _ _;
  routers = none_few nat_lt number_order _ _;
  routes = none_few route_order route_total _ _;
  floats = none_few nat_lt number_order _ _;
  leases = none_few nat_lt number_order _ _;
}
