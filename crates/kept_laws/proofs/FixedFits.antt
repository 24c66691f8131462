-- Addresses that are chosen for a port fit: each is a host address of a subnet of the network, and the port's own there, and is free.
use Rattle.std.proofs.Common.{Bool, List, None, Option, Some, [], ap, arith, cond, false, length, map, not, refl, slice_get, subst, suc, sym, take, true, zero, ℕ, ◌++◌, ◌<◌, ◌^◌, ◌∙◌, ◌∷◌, ◌≡◌, ◌≤◌}
use Rattle.std.specs.Prelude.{filter_map, find, if◌then◌else◌, is_none, option_map, ◌&&◌, ◌==◌, ◌||◌}
use Rattle.std.specs.List.{cons_option, list_all}
use Rattle.std.specs.Option.{option_or}
use Rattle.net_addr.proofs.AddrLemmas.{addr_itself}
use Rattle.net_addr.proofs.PrefixLemmas.{number_decides}
use Rattle.net_addr.specs.Addresses.{addr_eq, is_v4}
use Rattle.net_addr.specs.Prefixes.{IsPrefix, contains, eui}
use Rattle.net_addr.specs.declared.address.Addr.{Addr}
use Rattle.api_types.specs.Consistent.InForm.{is_eui, is_subnet_form, makes_eui}
use Rattle.api_types.specs.Ident.{Ident}
use Rattle.api_types.specs.Lists.{Each, if_some, is_some_so, times}
use Rattle.api_types.specs.Table.{ident_eq}
use Rattle.api_types.specs.declared.form.FixedAsked.{FixedAsked}
use Rattle.api_types.specs.declared.port.Fixed.{Fixed}
use Rattle.api_types.specs.declared.subnet.Ipv6Mode.{Ipv6Mode}
use Rattle.api_types.specs.declared.subnet.SubnetRow.{SubnetRow}
use Rattle.api_types.proofs.ListLemmas.{and_both, both_and, false_true, none_some, one_row, or_true, some_equal}
use Rattle.api_types.proofs.NameLemmas.{all-at, ident_itself, ident_same, must}
use Rattle.row_laws.proofs.SubnetPushed.{unheld}
use Rattle.kept_laws.proofs.ChoiceLemmas.{choices_differ, pool_passes}
use Rattle.kept_laws.proofs.EditedRows.{map_get}
use Rattle.kept_laws.proofs.PoolHosts.{eui_host, pool_host}
use Rattle.kept_laws.proofs.SubnetForms.{parts_of}
use Rattle.api_ipam.specs.Addresses.{least_free_address}
use Rattle.api_ipam.specs.FixedChoice.{are_different, Place, addresses_of, all_filled, are_placed, asked_places, eui_if_any, filled, filled_at, is_in, is_placed, item_subnet, known_addresses, known_at, may_be_named, named_addresses, old_address, places, subnet_for, wish_for, wishes}
use Rattle.api_types.specs.HeldAddresses.{fixed_at}
use Rattle.api_policy.specs.Filtered.{fits}
use Rattle.kept_laws.proofs.OutcomeLemmas.{found_at, unfound}

-- facts on each item, for lists that are built

pub each_none : {X : Type 0} (P : X → Type 0) → Each P []
each_none P k x at = none_some x _ at

pub each_cons : {X : Type 0} (P : X → Type 0) (x : X) (xs : List X) → P x → Each P xs → Each P (x ∷ xs)
each_cons P x xs p rest zero y at = subst P (some_equal x y at) p
each_cons P x xs p rest (suc k) y at = rest k y at

pub each_append : {X : Type 0} (P : X → Type 0) (xs ys : List X) → Each P xs → Each P ys → Each P (xs ++ ys)
each_append P [] ys all more = more
each_append P (x ∷ xs) ys all more = each_cons P x (xs ++ ys) (all 0 x refl) (each_append P xs ys (λ k y at. all (suc k) y at) more)

pub each_tail : {X : Type 0} (P : X → Type 0) (x : X) (xs : List X) → Each P (x ∷ xs) → Each P xs
each_tail P x xs all k y at = all (suc k) y at

pub each_map : {X Y : Type 0} (P : X → Type 0) (Q : Y → Type 0) (f : X → Y) (xs : List X) → ((x : X) → P x → Q (f x)) → Each P xs → Each Q (map f xs)
each_map P Q f xs w all k y at = let r = map_get f xs k y at in subst Q r.2 (w r.0 (all k r.0 r.1))

pub each_take : {X : Type 0} (P : X → Type 0) (n : ℕ) (xs : List X) → Each P xs → Each P (take n xs)
each_take P zero xs all = each_none P
each_take P (suc n) [] all = each_none P
each_take P (suc n) (x ∷ xs) all = each_cons P x (take n xs) (all 0 x refl) (each_take P n xs (each_tail P x xs all))

pub each_made : {X Y : Type 0} (P : X → Type 0) (Q : Y → Type 0) (h : X → Option Y) (xs : List X) → ((x : X) (y : Y) → P x → h x ≡ Some y → Q y) → Each P xs → Each Q (filter_map h xs)
each_made P Q h [] w all = each_none Q
each_made P Q h (x ∷ xs) w all = by (h x) refl (each_made P Q h xs w (each_tail P x xs all))
  where
    by : (o : Option _) → h x ≡ o → Each Q (filter_map h xs) → Each Q (cons_option o (filter_map h xs))
    by None e rest = rest
    by (Some y) e rest = each_cons Q y (filter_map h xs) (w x y (all 0 x refl) e) rest

pub made_few : {X Y : Type 0} (h : X → Option Y) (xs : List X) → length (filter_map h xs) ≤ length xs
made_few h [] = omega arith
made_few h (x ∷ xs) = by (h x) (made_few h xs)
  where
    by : (o : Option _) → length (filter_map h xs) ≤ length xs → length (cons_option o (filter_map h xs)) ≤ length (x ∷ xs)
    by None rest = omega (arith, rest)
    by (Some y) rest = omega (arith, rest)

-- an address of a port with this MAC address
pub record Fits (subnets : List SubnetRow) (mac : ℕ) (f : Fixed) : Type 0 where
  pub place : ℕ
  pub row : SubnetRow
  pub at : slice_get subnets place ≡ Some row
  pub id : f.subnet ≡ row.id
  pub named : may_be_named mac row f.address ≡ true

module _ (subnets : List SubnetRow) (mac : ℕ) (prefixes : Each (λ s. IsPrefix s.prefix) subnets) (forms : Each (λ s. is_subnet_form s ≡ true) subnets)
    (once : (i : Ident) → times (λ (s : SubnetRow). s.id) i subnets ≤ 1) (small : mac < 2 ^ 48) where
  -- the address that the MAC address gives
  pub eui_named : (k : ℕ) (s : SubnetRow) → slice_get subnets k ≡ Some s → is_eui s ≡ true → may_be_named mac s (eui s.prefix mac) ≡ true
  eui_named k s at is =
      let modes = (parts_of s (forms k s at)).modes in
      let a = and_both _ (not (is_eui s) || (s.prefix.len == 64)) modes in
      let b = and_both ((is_none s.address_mode && is_none s.ra_mode) || (not (is_v4 s.prefix.base) && s.dhcp)) _ a.0 in
      let six = by s.address_mode (is_none s.ra_mode) (not (is_v4 s.prefix.base)) s.dhcp is b.0 (is_v4 s.prefix.base) refl in
      let long = (number_decides s.prefix.len 64).0 (must (is_eui s) _ is a.1) in
      both_and _ _ (eui_host s.prefix mac (prefixes k s at) six long small)
      (ap (λ c. not (is_eui s) || c) (addr_itself (eui s.prefix mac)) ∙ or_true (not (is_eui s)))
    where
      by : (am : Option Ipv6Mode) (r v d : Bool) → is_some_so makes_eui am ≡ true → (is_none am && r) || (v && d) ≡ true → (w : Bool) → v ≡ not w → w ≡ false
      by None r v d h g w e = false_true _ h
      by (Some m) r v d h g true e = false_true _ (sym (ap (λ b. b && d) e) ∙ g)
      by (Some m) r v d h g false e = refl

  -- a pool address
  pub pool_named : (k : ℕ) (s : SubnetRow) (free : Addr → Bool) (x : Addr) → slice_get subnets k ≡ Some s → is_eui s ≡ false → least_free_address free s.pools ≡ Some x → may_be_named mac s x ≡ true
  pool_named k s free x at plain h =
      both_and _ _ (pool_host s free s.pools x (prefixes k s at) (parts_of s (forms k s at)).pools h) (ap (λ b. not b || addr_eq x (eui s.prefix mac)) plain)

  -- a place in the list: its subnet is there, what is known fits, and what isn't is no address that the MAC gives
  pub record IsPlace (l : Place) : Type 0 where
    pub place : ℕ
    pub at : slice_get subnets place ≡ Some l.subnet
    pub known : (x : Addr) → l.known ≡ Some x → may_be_named mac l.subnet x ≡ true

  pub record IsFullPlace (l : Place) : Type 0 where
    pub is : IsPlace l
    pub chosen : l.known ≡ None → is_eui l.subnet ≡ false

  -- a known address is the named one, an old one, or the one that the MAC address gives
  known_named : (old : List Fixed) (taken : List Addr) → Each (Fits subnets mac) old → (l : Place) → IsPlace l → (x : Addr) → known_at mac old taken l.known l.subnet ≡ Some x → may_be_named mac l.subnet x ≡ true
  known_named old taken fits l is x h = by l.known refl h
    where
      old_named : (y : Addr) → old_address old taken l.subnet ≡ Some y → may_be_named mac l.subnet y ≡ true
      old_named y h = at_found (find (λ (f : Fixed). ident_eq l.subnet.id f.subnet && not (is_in taken f.address)) old) refl h
        where
          at_found : (o : Option Fixed) → find (λ (f : Fixed). ident_eq l.subnet.id f.subnet && not (is_in taken f.address)) old ≡ o → option_map (λ (f : Fixed). f.address) o ≡ Some y → may_be_named mac l.subnet y ≡ true
          at_found None e h = none_some y _ h
          at_found (Some f) e h =
              let found = found_at (λ (f : Fixed). ident_eq l.subnet.id f.subnet && not (is_in taken f.address)) old f e in
              let fit = fits found.0 f found.1 in
              let same = ident_same l.subnet.id f.subnet (and_both (ident_eq l.subnet.id f.subnet) _ found.2).0 in
              let one = one_row (λ (s : SubnetRow). ident_eq l.subnet.id s.id) subnets (once l.subnet.id) fit.place is.place fit.row l.subnet fit.at is.at
              (ap (λ i. ident_eq l.subnet.id i) (sym (same ∙ fit.id)) ∙ ident_itself l.subnet.id) (ident_itself l.subnet.id) in
              subst (λ s. may_be_named mac s y ≡ true) one (subst (λ z. may_be_named mac fit.row z ≡ true) (some_equal f.address y h) fit.named)

      mac_named : (b : Bool) → is_eui l.subnet ≡ b → (if b then Some (eui l.subnet.prefix mac) else None) ≡ Some x → may_be_named mac l.subnet x ≡ true
      mac_named true e h = subst (λ z. may_be_named mac l.subnet z ≡ true) (some_equal (eui l.subnet.prefix mac) x h) (eui_named is.place l.subnet is.at e)
      mac_named false e h = none_some x _ h

      either : (o : Option Addr) → old_address old taken l.subnet ≡ o → option_or o (eui_if_any mac l.subnet) ≡ Some x → may_be_named mac l.subnet x ≡ true
      either None e h = mac_named (is_eui l.subnet) refl h
      either (Some y) e h = subst (λ z. may_be_named mac l.subnet z ≡ true) (some_equal y x h) (old_named y e)

      by : (o : Option Addr) → l.known ≡ o → known_at mac old taken o l.subnet ≡ Some x → may_be_named mac l.subnet x ≡ true
      by None e h = either (old_address old taken l.subnet) refl h
      by (Some y) e h = subst (λ z. may_be_named mac l.subnet z ≡ true) (some_equal y x h) (is.known y e)

  -- where nothing is known, the MAC address gives nothing
  unknown_plain : (old : List Fixed) (taken : List Addr) (o : Option Addr) (s : SubnetRow) → known_at mac old taken o s ≡ None → is_eui s ≡ false
  unknown_plain old taken (Some x) s h = none_some x _ (sym h)
  unknown_plain old taken None s h = either (old_address old taken s) h
    where
      at_mode : (b : Bool) → (if b then Some (eui s.prefix mac) else None) ≡ None → b ≡ false
      at_mode true h = none_some (eui s.prefix mac) _ (sym h)
      at_mode false h = refl

      either : (o : Option Addr) → option_or o (eui_if_any mac s) ≡ None → is_eui s ≡ false
      either None h = at_mode (is_eui s) h
      either (Some y) h = none_some y _ (sym h)

  pub places_full : (old : List Fixed) → Each (Fits subnets mac) old → (taken : List Addr) (ws : List Place) → Each IsPlace ws → Each IsFullPlace (places mac old taken ws)
  places_full old fits taken [] all = each_none IsFullPlace
  places_full old fits taken (w ∷ ws) all =
      by (known_at mac old taken w.known w.subnet) refl (λ t. places_full old fits t ws (each_tail IsPlace w ws all))
    where
      here : IsPlace w
      here = all 0 w refl

      by : (o : Option Addr) → known_at mac old taken w.known w.subnet ≡ o → ((t : List Addr) → Each IsFullPlace (places mac old t ws))
          → Each IsFullPlace (elim o [ None ↦ w ∷ places mac old taken ws | Some x ↦ record { subnet = w.subnet; known = Some x } ∷ places mac old (x ∷ taken) ws ])
      by None e rest = each_cons IsFullPlace w (places mac old taken ws) (record { is = here; chosen = λ none. unknown_plain old taken w.known w.subnet e }) (rest taken)
      by (Some x) e rest = each_cons IsFullPlace (record { subnet = w.subnet; known = Some x }) (places mac old (x ∷ taken) ws)
          (record {
            is = record { place = here.place; at = here.at; known = λ y h. subst (λ z. may_be_named mac w.subnet z ≡ true) (some_equal x y h) (known_named old taken fits w here x e) };
            chosen = λ none. none_some x _ (sym none);
          }) (rest (x ∷ taken))

  pub places_few : (old : List Fixed) (taken : List Addr) (ws : List Place) → length (places mac old taken ws) ≡ length ws
  places_few old taken [] = refl
  places_few old taken (w ∷ ws) = by (known_at mac old taken w.known w.subnet) (λ t. places_few old t ws)
    where
      by : (o : Option Addr) → ((t : List Addr) → length (places mac old t ws) ≡ length ws)
          → length {A = Place} (elim o [ None ↦ w ∷ places mac old taken ws | Some x ↦ record { subnet = w.subnet; known = Some x } ∷ places mac old (x ∷ taken) ws ]) ≡ length (w ∷ ws)
      by None rest = ap suc (rest taken)
      by (Some x) rest = ap suc (rest (x ∷ taken))

  -- what is chosen at a place
  filled_named : (free : Addr → Bool) (taken : List Addr) (l : Place) (x : Addr) → IsFullPlace l → filled_at free taken l.known l.subnet ≡ Some x → may_be_named mac l.subnet x ≡ true
  filled_named free taken l x full h = by l.known refl h
    where
      by : (o : Option Addr) → l.known ≡ o → filled_at free taken o l.subnet ≡ Some x → may_be_named mac l.subnet x ≡ true
      by None e h = pool_named full.is.place l.subnet (λ y. free y && not (is_in taken y)) x full.is.at (full.chosen e) h
      by (Some y) e h = subst (λ z. may_be_named mac l.subnet z ≡ true) (some_equal y x h) (full.is.known y e)

  filled_free : (free held : Addr → Bool) → ((x : Addr) → free x ≡ true → held x ≡ false) → (taken : List Addr) (l : Place) (x : Addr) → ((y : Addr) → l.known ≡ Some y → held y ≡ false)
      → filled_at free taken l.known l.subnet ≡ Some x → held x ≡ false
  filled_free free held w taken l x known h = by l.known refl h
    where
      by : (o : Option Addr) → l.known ≡ o → filled_at free taken o l.subnet ≡ Some x → held x ≡ false
      by None e h = w x (and_both (free x) (not (is_in taken x)) (pool_passes (λ y. free y && not (is_in taken y)) l.subnet.pools x h)).0
      by (Some y) e h = subst (λ z. held z ≡ false) (some_equal y x h) (known y e)

  -- all places filled: they fit, are free, and are as many
  pub record AreFilled (held : Addr → Bool) (many : ℕ) (fs : List Fixed) : Type 0 where
    pub fit : Each (Fits subnets mac) fs
    pub free : Each (λ (f : Fixed). held f.address ≡ false) fs
    pub few : length fs ≡ many

  pub filled_are : (free held : Addr → Bool) → ((x : Addr) → free x ≡ true → held x ≡ false) → (taken : List Addr) (ls : List Place) (fs : List Fixed) → Each IsFullPlace ls
      → Each (λ (l : Place). (y : Addr) → l.known ≡ Some y → held y ≡ false) ls → filled free taken ls ≡ Some fs → AreFilled held (length ls) fs
  filled_are free held w taken [] fs full known h = subst (AreFilled held 0) (some_equal [] fs h) (record { fit = each_none (Fits subnets mac); free = each_none (λ (f : Fixed). held f.address ≡ false); few = refl })
  filled_are free held w taken (l ∷ ls) fs full known h =
      by (filled_at free taken l.known l.subnet) refl h (λ t gs g. filled_are free held w t ls gs (each_tail IsFullPlace l ls full) (λ k m at. known (suc k) m at) g)
    where
      by : (o : Option Addr) → filled_at free taken l.known l.subnet ≡ o
          → (elim o [ None ↦ None | Some x ↦ option_map (λ gs. fixed_at l.subnet.id x ∷ gs) (filled free (x ∷ taken) ls) ]) ≡ Some fs
          → ((t : List Addr) (gs : List Fixed) → filled free t ls ≡ Some gs → AreFilled held (length ls) gs) → AreFilled held (length (l ∷ ls)) fs
      by None e h rest = none_some fs _ h
      by (Some x) e h rest = go (filled free (x ∷ taken) ls) refl h
        where
          go : (o : Option (List Fixed)) → filled free (x ∷ taken) ls ≡ o → option_map (λ gs. fixed_at l.subnet.id x ∷ gs) o ≡ Some fs → AreFilled held (length (l ∷ ls)) fs
          go None e2 h = none_some fs _ h
          go (Some gs) e2 h =
              let are = rest (x ∷ taken) gs e2 in
              let here = full 0 l refl in
              subst (AreFilled held (length (l ∷ ls))) (some_equal (fixed_at l.subnet.id x ∷ gs) fs h) (record {
                fit = each_cons (Fits subnets mac) (fixed_at l.subnet.id x) gs (record { place = here.is.place; row = l.subnet; at = here.is.at; id = refl; named = filled_named free taken l x here e }) are.fit;
                free = each_cons (λ (f : Fixed). held f.address ≡ false) (fixed_at l.subnet.id x) gs (filled_free free held w taken l x (known 0 l refl) e) are.free;
                few = ap suc are.few;
              })

  -- the places of items
  wish_is : (items : List FixedAsked) → list_all (is_placed subnets mac) items ≡ true → Each IsPlace (wishes subnets items)
  wish_is items all = each_made (λ (item : FixedAsked). is_placed subnets mac item ≡ true) IsPlace (λ (item : FixedAsked). option_map (wish_for item) (item_subnet subnets item)) items
      (λ item l placed h. by item (item_subnet subnets item) refl l placed h) (all-at (is_placed subnets mac) items all)
    where
      in_list : (subnet : Option Ident) (address : Option Addr) (s : SubnetRow) → subnet_for subnets subnet address ≡ Some s → (k : ℕ) × (slice_get subnets k ≡ Some s)
      in_list (Some i) address s h = let r = found_at (λ (t : SubnetRow). ident_eq i t.id) subnets s h in (r.0, r.1)
      in_list None (Some x) s h = let r = found_at (λ (t : SubnetRow). contains t.prefix x) subnets s h in (r.0, r.1)
      in_list None None s h = none_some s _ h

      by : (item : FixedAsked) (o : Option SubnetRow) → item_subnet subnets item ≡ o → (l : Place) → is_placed subnets mac item ≡ true → option_map (wish_for item) o ≡ Some l → IsPlace l
      by item None e l placed h = none_some l _ h
      by item (Some s) e l placed h =
          let r = in_list item.subnet item.address s e in
          let named : if_some (may_be_named mac s) item.address ≡ true = sym (ap (is_some_so (λ (s : SubnetRow). if_some (may_be_named mac s) item.address)) e) ∙ placed in
          subst IsPlace (some_equal (wish_for item s) l h) (record { place = r.0; at = r.1; known = λ x is. sym (ap (if_some (may_be_named mac s)) is) ∙ named })

  -- what is chosen for items that have their places, where what is known is free
  pub items_filled : (free held : Addr → Bool) → ((x : Addr) → free x ≡ true → held x ≡ false) → (old : List Fixed) → Each (Fits subnets mac) old → (items : List FixedAsked) (fs : List Fixed)
      → are_placed subnets mac old items ≡ true → find held (known_addresses (asked_places subnets mac old items)) ≡ None → all_filled free (asked_places subnets mac old items) ≡ Some fs
      → AreFilled held (length (asked_places subnets mac old items)) fs
  items_filled free held w old fits items fs placed unheld h =
      filled_are free held w (known_addresses (asked_places subnets mac old items)) (asked_places subnets mac old items) fs
      (places_full old fits (named_addresses items) (wishes subnets items) (wish_is items (and_both (list_all (is_placed subnets mac) items) _ placed).0))
      (known_free (asked_places subnets mac old items) unheld) h
    where
      known_free : (ls : List Place) → find held (known_addresses ls) ≡ None → Each (λ (l : Place). (y : Addr) → l.known ≡ Some y → held y ≡ false) ls
      known_free [] h = each_none (λ (l : Place). (y : Addr) → l.known ≡ Some y → held y ≡ false)
      known_free (l ∷ ls) h = by l.known refl h (λ g. known_free ls g)
        where
          by : (o : Option Addr) → l.known ≡ o → find held (cons_option o (known_addresses ls)) ≡ None → (find held (known_addresses ls) ≡ None → Each (λ (l : Place). (y : Addr) → l.known ≡ Some y → held y ≡ false) ls)
              → Each (λ (l : Place). (y : Addr) → l.known ≡ Some y → held y ≡ false) (l ∷ ls)
          by None e h rest = each_cons (λ (l : Place). (y : Addr) → l.known ≡ Some y → held y ≡ false) l ls (λ y is. none_some y _ (sym e ∙ is)) (rest h)
          by (Some x) e h rest = each_cons (λ (l : Place). (y : Addr) → l.known ≡ Some y → held y ≡ false) l ls
              (λ y is. subst (λ z. held z ≡ false) (some_equal x y (sym e ∙ is)) (unfound held (x ∷ known_addresses ls) h 0 x refl)) (rest (later x (known_addresses ls) h))
            where
              later : (x : Addr) (xs : List Addr) → find held (x ∷ xs) ≡ None → find held xs ≡ None
              later x xs h = at_test (held x) h
                where
                  at_test : (b : Bool) → cond b (Some x) (find held xs) ≡ None → find held xs ≡ None
                  at_test true h = none_some x _ (sym h)
                  at_test false h = h

  pub asked_few : (old : List Fixed) (items : List FixedAsked) → length (asked_places subnets mac old items) ≤ length items
  asked_few old items =
      let a = places_few old (named_addresses items) (wishes subnets items) in
      let b = made_few (λ (item : FixedAsked). option_map (wish_for item) (item_subnet subnets item)) items in
      omega (arith, a, b)

  -- known addresses differ, so all do
  pub items_differ : (free : Addr → Bool) (old : List Fixed) (items : List FixedAsked) (fs : List Fixed) → are_placed subnets mac old items ≡ true → all_filled free (asked_places subnets mac old items) ≡ Some fs
      → are_different (addresses_of fs) ≡ true
  items_differ free old items fs placed h =
      (choices_differ free (known_addresses (asked_places subnets mac old items)) (asked_places subnets mac old items) fs h (λ x is. is) (and_both (list_all (is_placed subnets mac) items) _ placed).1).apart
