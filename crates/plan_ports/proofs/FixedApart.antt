-- Addresses in different subnets of a network differ, so those that a new port takes where none are asked for do.
use Rattle.std.proofs.Common.{Bool, List, None, Option, Some, [], ap, arith, cond, false, length, map, not, refl, slice_get, subst, suc, sym, take, true, zero, ℕ, ◌++◌, ◌+◌, ◌-◌, ◌<◌, ◌^◌, ◌∙◌, ◌∷◌, ◌≡◌, ◌≤◌}
use Rattle.std.specs.Prelude.{⊤, filter, find, if◌then◌else◌, option_and_then, option_map, ◌&&◌}
use Rattle.std.proofs.lemmas.List.{length-append}
use Rattle.std.proofs.lemmas.List.Sums.{sum_by-cons}
use Rattle.std.specs.List.{list_any}
use Rattle.std.specs.Option.{option_or}
use Rattle.net_addr.proofs.AddrLemmas.{addr_same}
use Rattle.net_addr.specs.Addresses.{addr_eq, is_v4}
use Rattle.net_addr.specs.Prefixes.{IsPrefix, contains, is_host_of}
use Rattle.net_addr.specs.declared.address.Addr.{Addr}
use Rattle.api_types.specs.Consistent.{IsConsistent}
use Rattle.api_types.specs.Consistent.Disjoint.{subnets_clash}
use Rattle.api_types.specs.Consistent.InForm.{is_eui, is_subnet_form}
use Rattle.api_types.specs.Ident.{Ident}
use Rattle.api_types.specs.Lists.{Each, times}
use Rattle.api_types.specs.RowLists.{RowLists}
use Rattle.api_types.specs.Table.{ident_eq}
use Rattle.api_types.specs.declared.port.Fixed.{Fixed}
use Rattle.api_types.specs.declared.subnet.SubnetRow.{SubnetRow}
use Rattle.api_types.proofs.ListLemmas.{and_both, any-none, at-any, at_filter, both_and, each-weaker, false_true, none-any, none-counted, none_some, one_row, some_equal, uncounted}
use Rattle.api_types.proofs.NameLemmas.{by_test, count-filter, fails_by, ident_itself, ident_same, ident_sym, not_true}
use Rattle.row_laws.proofs.SubnetPushed.{unheld}
use Rattle.kept_laws.proofs.ChoiceLemmas.{pool_passes}
use Rattle.kept_laws.proofs.EditedRows.{get_map, map_get}
use Rattle.kept_laws.proofs.FixedFits.{Fits, each_append, each_cons, each_none, each_tail, each_take, eui_named, pool_named}
use Rattle.kept_laws.proofs.PoolHosts.{host_contained, overlap_shared}
use Rattle.api_ipam.specs.Addresses.{least_free_address}
use Rattle.api_ipam.specs.FixedChoice.{addresses_of, all_euis, any_address, are_different, eui_fixed, first_euis, first_free, is_in, is_pool_four, is_pool_six, may_be_named, one_if_any, with_euis}
use Rattle.api_types.specs.HeldAddresses.{fixed_at, subnets_on}
use Rattle.kept_laws.proofs.OutcomeLemmas.{unfound}

pub on_network_once : (rows : RowLists) (network : Ident) → IsConsistent rows → (i : Ident) → times (λ (s : SubnetRow). s.id) i (subnets_on rows.subnets network) ≤ 1
on_network_once rows network c i = count-filter (λ (s : SubnetRow). ident_eq network s.network) (λ (s : SubnetRow). ident_eq i s.id) rows.subnets 1 (omega (arith, c.numbered.ids i))

module _ (rows : RowLists) (network : Ident) (c : IsConsistent rows) where
  abbrev pub near : List SubnetRow
  near = subnets_on rows.subnets network

  -- hosts of two subnets differ
  pub hosts_apart : (mac other_mac : ℕ) (f g : Fixed) → Fits near mac f → Fits near other_mac g → ident_eq f.subnet g.subnet ≡ false → addr_eq f.address g.address ≡ false
  hosts_apart mac other_mac f g a b other =
      let s = at_filter (λ (s : SubnetRow). ident_eq network s.network) rows.subnets a.place a.row a.at in
      let t = at_filter (λ (s : SubnetRow). ident_eq network s.network) rows.subnets b.place b.row b.at in
      by_test (addr_eq f.address g.address) (addr_eq f.address g.address ≡ false)
      (λ same.
      let first = host_contained a.row.prefix f.address (and_both (is_host_of a.row.prefix f.address) _ a.named).0 in
      let second = host_contained b.row.prefix g.address (and_both (is_host_of b.row.prefix g.address) _ b.named).0 in
      let shared = overlap_shared a.row.prefix b.row.prefix f.address first (subst (λ x. contains b.row.prefix x ≡ true) (sym (addr_same f.address g.address same)) second) in
      let there : ident_eq a.row.network b.row.network ≡ true = subst (λ i. ident_eq i b.row.network ≡ true) (ident_same network a.row.network s.2) t.2 in
      let differs : ident_eq a.row.id b.row.id ≡ false = (λ j. ident_eq (sym a.id j) (sym b.id j)) ∙ other in
      let clash : subnets_clash a.row b.row ≡ true = both_and _ _ (ap not differs) (both_and _ _ there shared) in
      false_true _ (sym (none-any (subnets_clash a.row) rows.subnets (not_true _ (c.disjoint.in_network s.0 a.row s.1)) t.0 b.row t.1) ∙ clash))
      (λ fails. fails)

  -- no two are of one subnet
  abbrev pub Apart : List Fixed → Type 0
  Apart [] = ⊤
  Apart (f ∷ fs) = Each (λ (g : Fixed). ident_eq f.subnet g.subnet ≡ false) fs × Apart fs

  pub apart_append : (fs gs : List Fixed) → Apart fs → Apart gs → Each (λ (f : Fixed). Each (λ (g : Fixed). ident_eq f.subnet g.subnet ≡ false) gs) fs → Apart (fs ++ gs)
  apart_append [] gs a b w = b
  apart_append (f ∷ fs) gs a b w = (each_append (λ (g : Fixed). ident_eq f.subnet g.subnet ≡ false) fs gs a.0 (w 0 f refl), apart_append fs gs a.1 b (λ k g at. w (suc k) g at))

  pub apart_take : (n : ℕ) (fs : List Fixed) → Apart fs → Apart (take n fs)
  apart_take zero fs a = tt
  apart_take (suc n) [] a = tt
  apart_take (suc n) (f ∷ fs) a = (each_take (λ (g : Fixed). ident_eq f.subnet g.subnet ≡ false) n fs a.0, apart_take n fs a.1)

  pub apart_euis : (mac : ℕ) (test : SubnetRow → Bool) (ss : List SubnetRow) → ((i : Ident) → times (λ (s : SubnetRow). s.id) i ss ≤ 1) → Apart (map (eui_fixed mac) (filter test ss))
  apart_euis mac test [] once = tt
  apart_euis mac test (s ∷ ss) once = by (test s) (apart_euis mac test ss (λ i. omega (arith, once i, sum_by-cons (λ (t : SubnetRow). cond {A = ℕ} (ident_eq i t.id) 1 0) s ss)))
    where
      others : Each (λ (g : Fixed). ident_eq s.id g.subnet ≡ false) (map (eui_fixed mac) (filter test ss))
      others k g at =
          let r = map_get (eui_fixed mac) (filter test ss) k g at in
          let t : SubnetRow = r.0 in
          let old = at_filter test ss k t r.1 in
          let none = none-any (λ (u : SubnetRow). ident_eq s.id u.id) ss (none-counted (λ (u : SubnetRow). ident_eq s.id u.id) ss (uncounted (λ (u : SubnetRow). ident_eq s.id u.id) s ss (once s.id) (ident_itself s.id))) old.0 t old.1 in
          subst (λ (h : Fixed). ident_eq s.id h.subnet ≡ false) r.2 none

      by : (b : Bool) → Apart (map (eui_fixed mac) (filter test ss)) → Apart (map (eui_fixed mac) (cond b (s ∷ filter test ss) (filter test ss)))
      by true rest = (others, rest)
      by false rest = rest

  pub different_of : (mac : ℕ) (fs : List Fixed) → Each (Fits near mac) fs → Apart fs → are_different (addresses_of fs) ≡ true
  different_of mac [] fits a = refl
  different_of mac (f ∷ fs) fits a =
      both_and (not (is_in (addresses_of fs) f.address)) _
      (ap not (any-none (λ y. addr_eq y f.address) (addresses_of fs) (λ k y at.
      let r = map_get (λ (g : Fixed). g.address) fs k y at in
      let g : Fixed = r.0 in
      subst (λ z. addr_eq z f.address ≡ false) r.2 (hosts_apart mac mac g f (fits (suc k) g r.1) (fits 0 f refl) (fails_by (ident_eq g.subnet f.subnet) (ident_eq f.subnet g.subnet) (ident_sym g.subnet f.subnet) (a.0 k g r.1))))))
      (different_of mac fs (each_tail (Fits near mac) f fs fits) a.1)

module _ (rows : RowLists) (network : Ident) (c : IsConsistent rows) (mac : ℕ) (prefixes : Each (λ s. IsPrefix s.prefix) rows.subnets) (small : mac < 2 ^ 48) where
  abbrev pub around : List SubnetRow
  around = subnets_on rows.subnets network

  pub around_prefixes : Each (λ s. IsPrefix s.prefix) around
  around_prefixes k s at = let r = at_filter (λ (s : SubnetRow). ident_eq network s.network) rows.subnets k s at in prefixes r.0 s r.1

  pub around_forms : Each (λ s. is_subnet_form s ≡ true) around
  around_forms k s at = let r = at_filter (λ (s : SubnetRow). ident_eq network s.network) rows.subnets k s at in c.in_form.subnet_forms r.0 s r.1

  pub around_once : (i : Ident) → times (λ (s : SubnetRow). s.id) i around ≤ 1
  around_once = on_network_once rows network c

  -- a fitting address, free, in a subnet that passes a test
  pub record IsIn (held : Addr → Bool) (test : SubnetRow → Bool) (f : Fixed) : Type 0 where
    pub fit : Fits around mac f
    pub passes : test fit.row ≡ true
    pub free : held f.address ≡ false

  -- fitting addresses in subnets that pass tests of which no two pass at once are in different ones
  pub tests_differ : (held : Addr → Bool) (p q : SubnetRow → Bool) → ((s : SubnetRow) → p s ≡ true → q s ≡ false) → (f g : Fixed) → IsIn held p f → IsIn held q g → ident_eq f.subnet g.subnet ≡ false
  tests_differ held p q w f g a b = by_test (ident_eq f.subnet g.subnet) (ident_eq f.subnet g.subnet ≡ false)
      (λ same.
      let one = one_row (λ (s : SubnetRow). ident_eq f.subnet s.id) around (around_once f.subnet) a.fit.place b.fit.place a.fit.row b.fit.row a.fit.at b.fit.at
      (ap (ident_eq f.subnet) (sym a.fit.id) ∙ ident_itself f.subnet) (subst (λ i. ident_eq f.subnet i ≡ true) b.fit.id same) in
      false_true _ (sym (w a.fit.row a.passes) ∙ (ap q one ∙ b.passes)))
      (λ fails. fails)

  -- an address of a first subnet with a free one
  first_in : (free held : Addr → Bool) → ((x : Addr) → free x ≡ true → held x ≡ false) → (test : SubnetRow → Bool) → ((s : SubnetRow) → test s ≡ true → is_eui s ≡ false)
      → (ss : List SubnetRow) → Each (λ s. (test s ≡ true) × ((k : ℕ) × (slice_get around k ≡ Some s))) ss → (f : Fixed) → first_free free ss ≡ Some f → IsIn held test f
  first_in free held w test plain [] all f h = none_some f _ h
  first_in free held w test plain (s ∷ ss) all f h = by (least_free_address free s.pools) refl h (λ g. first_in free held w test plain ss (λ k t at. all (suc k) t at) f g)
    where
      by : (o : Option Addr) → least_free_address free s.pools ≡ o → option_or (option_map (fixed_at s.id) o) (first_free free ss) ≡ Some f → (first_free free ss ≡ Some f → IsIn held test f) → IsIn held test f
      by None e h rest = rest h
      by (Some x) e h rest =
          let here = all 0 s refl in
          subst (IsIn held test) (some_equal (fixed_at s.id x) f h) (record {
            fit = record {
              place = here.1.0;
              row = s;
              at = here.1.1;
              id = refl;
              named = pool_named around mac around_prefixes around_forms around_once small here.1.0 s free x here.1.1 (plain s here.0) e;
            };
            passes = here.0;
            free = w x (pool_passes free s.pools x e);
          })

  -- at most one
  pub record IsOneOf (held : Addr → Bool) (test : SubnetRow → Bool) (fs : List Fixed) : Type 0 where
    pub all : Each (IsIn held test) fs
    pub apart : Apart rows network c fs
    pub few : length fs ≤ one_if_any test around

  one_of : (free held : Addr → Bool) → ((x : Addr) → free x ≡ true → held x ≡ false) → (test : SubnetRow → Bool) → ((s : SubnetRow) → test s ≡ true → is_eui s ≡ false) → (fs : List Fixed)
      → any_address free (filter test around) ≡ Some fs → IsOneOf held test fs
  one_of free held w test plain fs h = by (filter test around) refl h
    where
      by : (ss : List SubnetRow) → filter test around ≡ ss → any_address free ss ≡ Some fs → IsOneOf held test fs
      by [] e h = subst (IsOneOf held test) (some_equal [] fs h) (record { all = each_none (IsIn held test); apart = tt; few = omega arith })
      by (s ∷ ss) e h = go (first_free free (s ∷ ss)) refl h
        where
          those : Each (λ t. (test t ≡ true) × ((k : ℕ) × (slice_get around k ≡ Some t))) (s ∷ ss)
          those k t at = let r = at_filter test around k t (ap (λ ts. slice_get ts k) e ∙ at) in (r.2, (r.0, r.1))

          go : (o : Option Fixed) → first_free free (s ∷ ss) ≡ o → option_map (λ f. f ∷ []) o ≡ Some fs → IsOneOf held test fs
          go None e2 h = none_some fs _ h
          go (Some f) e2 h =
              let is = first_in free held w test plain (s ∷ ss) those f e2 in
              let there : list_any test around ≡ true = let here = those 0 s refl in at-any test around here.1.0 s here.1.1 here.0 in
              let one : one_if_any test around ≡ 1 = ap (λ b. if b then 1 else 0) there in
              subst (IsOneOf held test) (some_equal (f ∷ []) fs h) (record {
                all = each_cons (IsIn held test) f [] is (each_none (IsIn held test));
                apart = (each_none (λ (g : Fixed). ident_eq f.subnet g.subnet ≡ false), tt);
                few = omega (arith, one);
              })

  -- the addresses that the MAC address gives
  euis_in : (held : Addr → Bool) (n : ℕ) → find held (addresses_of (take n (all_euis mac around))) ≡ None → Each (IsIn held is_eui) (take n (all_euis mac around))
  euis_in held n free k f at =
      let all = each_take (λ (g : Fixed). (m : ℕ) × (s : SubnetRow) × (slice_get around m ≡ Some s) × (is_eui s ≡ true) × (eui_fixed mac s ≡ g)) n (all_euis mac around)
      (λ l g at_g. let r = map_get (eui_fixed mac) (filter is_eui around) l g at_g in let o = at_filter is_eui around l r.0 r.1 in (o.0, r.0, o.1, o.2, r.2)) in
      let r = all k f at in
      let s : SubnetRow = r.1 in
      record {
        fit = record {
          place = r.0;
          row = s;
          at = r.2;
          id = ap (λ (g : Fixed). g.subnet) (sym r.4);
          named = subst (λ (g : Fixed). may_be_named mac s g.address ≡ true) r.4 (eui_named around mac around_prefixes around_forms around_once small r.0 s r.2 r.3);
        };
        passes = r.3;
        free = unfound held (addresses_of (take n (all_euis mac around))) free k f.address (get_map (λ (g : Fixed). g.address) (take n (all_euis mac around)) k f at);
      }

  -- what a port takes
  pub record AreTaken (held : Addr → Bool) (fs : List Fixed) : Type 0 where
    pub fit : Each (Fits around mac) fs
    pub free : Each (λ (f : Fixed). held f.address ≡ false) fs
    pub differ : are_different (addresses_of fs) ≡ true
    pub few : length fs ≤ 5

  -- where none are asked for
  pub any_taken : (free held : Addr → Bool) → ((x : Addr) → free x ≡ true → held x ≡ false) → (fs : List Fixed) → find held (addresses_of (first_euis mac around)) ≡ None
      → with_euis free around (first_euis mac around) ≡ Some fs → AreTaken held fs
  any_taken free held w fs unheld h = at_four (any_address free (filter is_pool_four around)) refl h
    where
      plain_four : (s : SubnetRow) → is_pool_four s ≡ true → is_eui s ≡ false
      plain_four s h = not_true (is_eui s) (and_both (is_v4 s.prefix.base) (not (is_eui s)) h).1

      plain_six : (s : SubnetRow) → is_pool_six s ≡ true → is_eui s ≡ false
      plain_six s h = not_true (is_eui s) (and_both (not (is_v4 s.prefix.base)) (not (is_eui s)) h).1

      no_six : (s : SubnetRow) → is_pool_four s ≡ true → is_pool_six s ≡ false
      no_six s h = ap (λ b. not b && not (is_eui s)) (and_both (is_v4 s.prefix.base) (not (is_eui s)) h).0

      joined : (fours sixes : List Fixed) → IsOneOf held is_pool_four fours → IsOneOf held is_pool_six sixes → AreTaken held ((fours ++ sixes) ++ first_euis mac around)
      joined fours sixes a b =
          let e = euis_in held (5 - (one_if_any is_pool_four around + one_if_any is_pool_six around)) unheld in
          let euis = first_euis mac around in
          let fit = λ (p : SubnetRow → Bool) (gs : List Fixed) (all : Each (IsIn held p) gs). each-weaker (IsIn held p) (Fits around mac) gs (λ g i. i.fit) all in
          let free = λ (p : SubnetRow → Bool) (gs : List Fixed) (all : Each (IsIn held p) gs). each-weaker (IsIn held p) (λ (g : Fixed). held g.address ≡ false) gs (λ g i. i.free) all in
          let fits = each_append (Fits around mac) (fours ++ sixes) euis (each_append (Fits around mac) fours sixes (fit is_pool_four fours a.all) (fit is_pool_six sixes b.all)) (fit is_eui euis e) in
          let cut : length euis ≤ 5 - (one_if_any is_pool_four around + one_if_any is_pool_six around) = take_few (5 - (one_if_any is_pool_four around + one_if_any is_pool_six around)) (all_euis mac around) in
          record {
            fit = fits;
            free = each_append (λ (g : Fixed). held g.address ≡ false) (fours ++ sixes) euis (each_append (λ (g : Fixed). held g.address ≡ false) fours sixes (free is_pool_four fours a.all) (free is_pool_six sixes b.all)) (free is_eui euis e);
            differ = different_of rows network c mac ((fours ++ sixes) ++ euis) fits
                (apart_append rows network c (fours ++ sixes) euis
                (apart_append rows network c fours sixes a.apart b.apart (λ k f at l g at_g. tests_differ held is_pool_four is_pool_six no_six f g (a.all k f at) (b.all l g at_g)))
                (apart_take rows network c (5 - (one_if_any is_pool_four around + one_if_any is_pool_six around)) (all_euis mac around) (apart_euis rows network c mac is_eui around around_once))
                (each_append (λ (f : Fixed). Each (λ (g : Fixed). ident_eq f.subnet g.subnet ≡ false) euis) fours sixes
                (λ k f at l g at_g. tests_differ held is_pool_four is_eui plain_four f g (a.all k f at) (e l g at_g))
                (λ k f at l g at_g. tests_differ held is_pool_six is_eui plain_six f g (b.all k f at) (e l g at_g))));
            few = let x = length-append (fours ++ sixes) euis in let y = length-append fours sixes in
                let u = one_most (list_any is_pool_four around) in let v = one_most (list_any is_pool_six around) in
                omega (arith, x, y, cut, a.few, b.few, u, v);
          }
        where
          one_most : (b : Bool) → (if b then 1 else 0) ≤ 1
          one_most true = omega arith
          one_most false = omega arith

          take_few : (n : ℕ) (xs : List Fixed) → length (take n xs) ≤ n
          take_few zero xs = omega arith
          take_few (suc n) [] = omega arith
          take_few (suc n) (x ∷ xs) = let r = take_few n xs in omega (arith, r)

      at_six : (fours : List Fixed) → IsOneOf held is_pool_four fours → (o : Option (List Fixed)) → any_address free (filter is_pool_six around) ≡ o
          → option_map (λ chosen. chosen ++ first_euis mac around) (option_map (λ sixes. fours ++ sixes) o) ≡ Some fs → AreTaken held fs
      at_six fours a None e h = none_some fs _ h
      at_six fours a (Some sixes) e h = subst (AreTaken held) (some_equal ((fours ++ sixes) ++ first_euis mac around) fs h) (joined fours sixes a (one_of free held w is_pool_six plain_six sixes e))

      at_four : (o : Option (List Fixed)) → any_address free (filter is_pool_four around) ≡ o
          → option_map (λ chosen. chosen ++ first_euis mac around) (option_and_then (λ fours. option_map (λ sixes. fours ++ sixes) (any_address free (filter is_pool_six around))) o) ≡ Some fs → AreTaken held fs
      at_four None e h = none_some fs _ h
      at_four (Some fours) e h = at_six fours (one_of free held w is_pool_four plain_four fours e) (any_address free (filter is_pool_six around)) refl h
