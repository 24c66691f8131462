-- Keys from the greatest to the least, each once, made of keys that ascend, from the back.
use Rattle.std.proofs.Common.{◌≡◌, ◌∙◌, ℕ, suc, ◌+◌, ◌-◌, ◌≤◌, List, [], ◌∷◌, ◌++◌, length, get_or, slice_get, Option, Some, None, Bool, true, false, true≢false, not, refl, sym, ap, subst, arith}
use Rattle.std.specs.Prelude.{◌&&◌, ◌||◌, if◌then◌else◌, is_some}
use Rattle.std.specs.List.{filter}
use Rattle.std.specs.Cmp.{IsStrictWeakOrder}
use Rattle.std.specs.List.Sorted.{IsPartitionPoint, IsPartitionedBy, IsSortedBy, IsStableBy}
use Rattle.std.proofs.lemmas.List.{get_or-append_right, length-append}
use Rattle.std.proofs.lemmas.List.Sorted.{sorted_far}
use Rattle.plane_types.specs.Keyed.{AllAfter, IsTotal, Rises, are_one, below, row_at, with_keys}
use Rattle.plane_types.proofs.KeyedLemmas.{three_ways}
use Rattle.plane_types.proofs.KeyedTablesLemmas.{unkeyed, with_keys-rows}
use Rattle.table_edits.specs.EditsAt.{KeysBefore, KeysDescend, among}
use Rattle.table_edits.specs.Places.{is_below}
use Rattle.table_edits.proofs.PlaceLemmas.{halved, have_own, if_there, looked}

or_none : (b : Bool) → b || false ≡ b
or_none true = refl
or_none false = refl

or_swapped : (a b c : Bool) → a || (b || c) ≡ b || (a || c)
or_swapped true true c = refl
or_swapped true false c = refl
or_swapped false b c = refl

or_twice : (a b : Bool) → a || b ≡ a || (a || b)
or_twice true b = refl
or_twice false b = refl

-- the last of some
abbrev pub last_of : {K : Type 0} → List K → Option K
last_of [] = None
last_of (k ∷ []) = Some k
last_of (k ∷ q ∷ qs) = last_of (q ∷ qs)

pub last_is : {K : Type 0} (ks : List K) → slice_get ks (length ks - 1) ≡ last_of ks
last_is [] = refl
last_is (k ∷ []) = refl
last_is (k ∷ q ∷ qs) =
    let place : length (k ∷ q ∷ qs) - 1 ≡ suc (length (q ∷ qs) - 1) = omega arith in
    ap (slice_get (k ∷ q ∷ qs)) place ∙ last_is (q ∷ qs)

last_pushed : {K : Type 0} (ks : List K) (k : K) → last_of (ks ++ k ∷ []) ≡ Some k
last_pushed [] k = refl
last_pushed (q ∷ []) k = refl
last_pushed (q ∷ r ∷ rs) k = last_pushed (r ∷ rs) k

module _ {K : Type 0} (before : K → K → Bool) (order : IsTotal before) where
  -- an order for a sort
  pub ascends : IsStrictWeakOrder before
  ascends = record { one_way = order.one_way; chain = λ x y z h k. go x y z h k (before x z) refl }
    where
      go : (x y z : K) → before x y ≡ false → before y z ≡ false → (b : Bool) → before x z ≡ b → before x z ≡ false
      go x y z h k false e = e
      go x y z h k true e =
          three_ways before order y x (before x z ≡ false)
          (λ f. absurd (true≢false (sym (order.chain y x z f e) ∙ k)))
          (λ f. absurd (true≢false (sym f ∙ h)))
          (λ f g. let one : y ≡ x = order.same y x f g in absurd (true≢false (sym (ap (λ w. before w z) one ∙ e) ∙ k)))

  -- what comes before the last comes before all
  before_first : (x : K) (xs : List K) (k : K) → KeysDescend before (x ∷ xs) → is_below before k (last_of (x ∷ xs)) ≡ true → before k x ≡ true
  before_first x [] k down low = low
  before_first x (y ∷ ys) k down low = order.chain k y x (before_first y ys k down.1 low) down.0.0

  keys_before_push : (x : K) (xs : List K) (k : K) → KeysBefore before x xs → before k x ≡ true → KeysBefore before x (xs ++ k ∷ [])
  keys_before_push x [] k all low = (low, tt)
  keys_before_push x (y ∷ ys) k all low = (all.0, keys_before_push x ys k all.1 low)

  -- the rest has the same last one, or there is none
  below_rest : (x : K) (xs : List K) (k : K) → is_below before k (last_of (x ∷ xs)) ≡ true → is_below before k (last_of xs) ≡ true
  below_rest x [] k low = refl
  below_rest x (y ∷ ys) k low = low

  descends_push : (xs : List K) (k : K) → KeysDescend before xs → is_below before k (last_of xs) ≡ true → KeysDescend before (xs ++ k ∷ [])
  descends_push [] k down low = (tt, tt)
  descends_push (x ∷ xs) k down low = (keys_before_push x xs k down.0 (before_first x xs k down low), descends_push xs k down.1 (below_rest x xs k low))

  among_push : (q : K) (xs : List K) (k : K) → among before q (xs ++ k ∷ []) ≡ are_one before q k || among before q xs
  among_push q [] k = refl
  among_push q (x ∷ xs) k = ap (λ b. are_one before q x || b) (among_push q xs k) ∙ or_swapped (are_one before q x) (are_one before q k) (among before q xs)

  -- ---- made of keys that ascend, from the back

  -- the keys so far, of those that were taken from the back of all
  pub record SoFar (all left once : List K) : Type 0 where
    pub taken : List K
    pub is : left ++ taken ≡ all
    pub down : KeysDescend before once
    pub same : (q : K) → among before q once ≡ among before q taken
    pub last : last_of once ≡ slice_get taken 0

  pub begun : (all : List K) → SoFar all all []
  begun all = record { taken = []; is = append_none all; down = tt; same = λ q. refl; last = refl }
    where
      append_none : (xs : List K) → xs ++ [] ≡ xs
      append_none [] = refl
      append_none (x ∷ xs) = ap (λ l. x ∷ l) (append_none xs)

  push : (xs : List K) (k : K) (ys : List K) → (xs ++ k ∷ []) ++ ys ≡ xs ++ k ∷ ys
  push [] k ys = refl
  push (x ∷ xs) k ys = ap (λ l. x ∷ l) (push xs k ys)

  pub one_new : (all left once : List K) (k : K) → SoFar all (left ++ k ∷ []) once → is_below before k (last_of once) ≡ true → SoFar all left (once ++ k ∷ [])
  one_new all left once k s low = record {
    taken = k ∷ s.taken;
    is = sym (push left k s.taken) ∙ s.is;
    down = descends_push once k s.down low;
    same = λ q. among_push q once k ∙ ap (λ b. are_one before q k || b) (s.same q);
    last = last_pushed once k;
  }

  -- two that stand side by side in what ascends
  side_by_side : (xs : List K) (k t : K) (ts : List K) → IsSortedBy before (xs ++ k ∷ t ∷ ts) → before t k ≡ false
  side_by_side xs k t ts up =
      let m = length xs in
      let none : m - m ≡ 0 = omega arith in
      let one : m + 1 - m ≡ 1 = omega arith in
      let at : m ≤ m = omega arith in
      let past : m ≤ m + 1 = omega arith in
      let first : get_or (xs ++ k ∷ t ∷ ts) m k ≡ k = get_or-append_right xs (k ∷ t ∷ ts) m m k refl at ∙ ap (λ n. get_or (k ∷ t ∷ ts) n k) none in
      let second : get_or (xs ++ k ∷ t ∷ ts) (m + 1) k ≡ t = get_or-append_right xs (k ∷ t ∷ ts) m (m + 1) k refl past ∙ ap (λ n. get_or (k ∷ t ∷ ts) n k) one in
      let long : length (xs ++ k ∷ t ∷ ts) ≡ m + length (k ∷ t ∷ ts) = length-append xs (k ∷ t ∷ ts) in
      (λ j. before (sym second j) (sym first j)) ∙ sorted_far before ascends (xs ++ k ∷ t ∷ ts) up m (m + 1) k past (omega (arith, long))

  pub one_again : (all left once : List K) (k : K) → IsSortedBy before all → SoFar all (left ++ k ∷ []) once → is_below before k (last_of once) ≡ false → SoFar all left once
  one_again all left once k up s low = go s.taken (sym (push left k s.taken) ∙ s.is) s.last s.same
    where
      go : (taken : List K) → left ++ k ∷ taken ≡ all → last_of once ≡ slice_get taken 0 → ((q : K) → among before q once ≡ among before q taken) → SoFar all left once
      go [] is last same = absurd (true≢false (sym (ap (is_below before k) last) ∙ low))
      go (t ∷ ts) is last same =
          let high : before k t ≡ false = sym (ap (is_below before k) last) ∙ low in
          let even : before t k ≡ false = side_by_side left k t ts (subst (IsSortedBy before) (sym is) up) in
          let one : k ≡ t = order.same k t high even in
          record {
            taken = k ∷ t ∷ ts;
            is = is;
            down = s.down;
            same = λ q. same q ∙ or_twice (are_one before q t) (among before q ts) ∙ ap (λ x. are_one before q x || (are_one before q t || among before q ts)) (sym one);
            last = last ∙ ap Some (sym one);
          }

  -- ---- they are the same keys in another order

  abbrev has_any : List K → Bool
  has_any [] = false
  has_any (x ∷ xs) = true

  among_filter : (q : K) (xs : List K) → among before q xs ≡ has_any (filter (are_one before q) xs)
  among_filter q [] = refl
  among_filter q (x ∷ xs) = go (are_one before q x) (among_filter q xs)
    where
      go : (b : Bool) → among before q xs ≡ has_any (filter (are_one before q) xs) → b || among before q xs ≡ has_any (if b then x ∷ filter (are_one before q) xs else filter (are_one before q) xs)
      go true rest = refl
      go false rest = rest

  pub same_keys : (xs ys : List K) → IsStableBy before xs ys → (q : K) → among before q ys ≡ among before q xs
  same_keys xs ys stable q = among_filter q ys ∙ ap has_any (stable q) ∙ sym (among_filter q xs)

  -- ---- looked up from the greatest

  abbrev pub turned : K → K → Bool
  turned a b = before b a

  pub turned_total : IsTotal turned
  turned_total = record {
    one_way = λ a b h. order.one_way b a h;
    chain = λ a b c h k. order.chain c b a k h;
    same = λ a b h k. order.same a b k h;
  }

  abbrev pub own_keys : List K → List (K × K)
  own_keys ks = with_keys (λ k. k) ks

  keys_after : (k : K) (ks : List K) → KeysBefore before k ks → AllAfter turned k (own_keys ks)
  keys_after k [] all = tt
  keys_after k (q ∷ qs) all = (all.0, keys_after k qs all.1)

  pub rises_down : (ks : List K) → KeysDescend before ks → Rises turned (own_keys ks)
  rises_down [] down = tt
  rises_down (k ∷ ks) down = (keys_after k ks down.0, rises_down ks down.1)

  and_swapped : (a b : Bool) → a && b ≡ b && a
  and_swapped true true = refl
  and_swapped true false = refl
  and_swapped false true = refl
  and_swapped false false = refl

  pub among_row : (q : K) (ks : List K) → among before q ks ≡ is_some (row_at turned q (own_keys ks))
  among_row q [] = refl
  among_row q (k ∷ ks) = ap (λ b. b || among before q ks) (and_swapped (not (before q k)) (not (before k q))) ∙ go (are_one turned q k) (among_row q ks)
    where
      go : (b : Bool) → among before q ks ≡ is_some (row_at turned q (own_keys ks)) → b || among before q ks ≡ is_some (if b then Some k else row_at turned q (own_keys ks))
      go true rest = refl
      go false rest = rest

  -- whether a key at its place is this one
  abbrev pub is_there : K → Option K → Bool
  is_there q None = false
  is_there q (Some k) = not (before k q)

  abbrev pub is_over : K → K → Bool
  is_over q k = before q k

  pub found_among : (q : K) (ks : List K) → KeysDescend before ks → (n : ℕ)
      → (IsPartitionedBy (is_over q) ks → IsPartitionPoint (λ k. is_over q k ≡ true) (λ k. is_over q k ≡ false) ks n) → n ≤ length ks → is_there q (slice_get ks n) ≡ among before q ks
  found_among q ks down n finds most =
      let plain : unkeyed (own_keys ks) ≡ ks = with_keys-rows (λ k. k) ks in
      let place : n ≡ below turned q (own_keys ks) = halved turned turned_total (λ k. Some k) q (own_keys ks) (rises_down ks down) (have_own (λ k. k) ks) ks plain n finds most in
      let row : row_at turned q (own_keys ks) ≡ if_there turned turned_total (λ k. Some k) q (λ k. not (before k q)) (slice_get ks n) =
      looked turned turned_total (λ k. Some k) q (λ k. not (before k q)) (λ k e. ap (λ b. not b) e) (λ k e f. ap (λ b. not b) e) (own_keys ks) (rises_down ks down) (have_own (λ k. k) ks) ks plain n place in
      there (slice_get ks n) ∙ sym (among_row q ks ∙ ap is_some row)
    where
      if_some : (b : Bool) (k : K) → b ≡ is_some (if b then Some k else None)
      if_some true k = refl
      if_some false k = refl

      there : (o : Option K) → is_there q o ≡ is_some (if_there turned turned_total (λ k. Some k) q (λ k. not (before k q)) o)
      there None = refl
      there (Some k) = if_some (not (before k q)) k
