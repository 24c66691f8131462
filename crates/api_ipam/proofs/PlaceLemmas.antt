-- The places of a list, in turn, and addresses for them, by which addresses are taken.
use Rattle.std.proofs.Common.{◌≡◌, ◌∙◌, ℕ, ◌-◌, ◌<◌, zero, suc, Bool, true, false, not, Option, Some, None, List, [], ◌∷◌, ◌++◌, ap, arith, append_assoc, find, option_map, refl, sym, take}
use Rattle.std.specs.Prelude.{◌&&◌, ◌||◌, option_to_list}
use Rattle.std.specs.List.{cons_option}
use Rattle.std.specs.Option.{option_or}
use Rattle.net_addr.specs.Addresses.{addr_eq}
use Rattle.net_addr.specs.declared.address.Addr.{Addr}
use Rattle.api_types.specs.HeldAddresses.{fixed_at}
use Rattle.api_types.specs.Table.{ident_eq}
use Rattle.api_types.specs.declared.form.FixedAsked.{FixedAsked}
use Rattle.api_types.specs.declared.port.Fixed.{Fixed}
use Rattle.api_types.specs.declared.subnet.SubnetRow.{SubnetRow}
use Rattle.api_types.proofs.ListLemmas.{none_some}
use Rattle.api_ipam.specs.Addresses.{least_free_address}
use Rattle.api_ipam.specs.Filling.{given_at, given_in_turn, place_for}
use Rattle.api_ipam.specs.FixedChoice.{Place, eui_if_any, filled, filled_at, is_in, item_subnet, known_addresses, known_at, places, wish_for, wishes}

module _ (mac : ℕ) (old : List Fixed) where
  -- what is known at a place, by which addresses are taken
  abbrev pub known_by : (Addr → Bool) → Option Addr → SubnetRow → Option Addr
  known_by taken (Some x) s = Some x
  known_by taken None s = option_or (option_map (λ (f : Fixed). f.address) (find (λ (f : Fixed). ident_eq s.id f.subnet && not (taken f.address)) old)) (eui_if_any mac s)

  abbrev pub placed : (Addr → Bool) → List Place → List Place
  placed taken [] = []
  placed taken (w ∷ ws) = elim (known_by taken w.known w.subnet) [
    | None ↦ w ∷ placed taken ws
    | Some x ↦ record { subnet = w.subnet; known = Some x } ∷ placed (λ y. addr_eq x y || taken y) ws
  ]

  known_is : (taken : List Addr) (k : Option Addr) (s : SubnetRow) → known_at mac old taken k s ≡ known_by (is_in taken) k s
  known_is taken (Some x) s = refl
  known_is taken None s = refl

  pub placed_is : (taken : List Addr) (ws : List Place) → places mac old taken ws ≡ placed (is_in taken) ws
  placed_is taken [] = refl
  placed_is taken (w ∷ ws) =
      (λ j. elim (known_is taken w.known w.subnet j) [
        | None ↦ w ∷ places mac old taken ws
        | Some x ↦ record { subnet = w.subnet; known = Some x } ∷ places mac old (x ∷ taken) ws
      ]) ∙ by (known_by (is_in taken) w.known w.subnet) (placed_is taken ws) (λ x. placed_is (x ∷ taken) ws)
    where
      by : (o : Option Addr) → places mac old taken ws ≡ placed (is_in taken) ws → ((x : Addr) → places mac old (x ∷ taken) ws ≡ placed (is_in (x ∷ taken)) ws)
          → ◌≡◌ {A = List Place} (elim o [ None ↦ w ∷ places mac old taken ws | Some x ↦ record { subnet = w.subnet; known = Some x } ∷ places mac old (x ∷ taken) ws ])
          (elim o [ None ↦ w ∷ placed (is_in taken) ws | Some x ↦ record { subnet = w.subnet; known = Some x } ∷ placed (λ y. addr_eq x y || is_in taken y) ws ])
      by None none some = ap (λ ls. w ∷ ls) none
      by (Some x) none some = ap (λ ls. record { subnet = w.subnet; known = Some x } ∷ ls) (some x)

  in_front : (taken : List Addr) (x y : Addr) → is_in (taken ++ x ∷ []) y ≡ addr_eq x y || is_in taken y
  in_front [] x y = refl
  in_front (z ∷ taken) x y = ap (λ b. addr_eq z y || b) (in_front taken x y) ∙ swap (addr_eq z y) (addr_eq x y) (is_in taken y)
    where
      swap : (a b c : Bool) → a || (b || c) ≡ b || (a || c)
      swap true true c = refl
      swap true false c = refl
      swap false true c = refl
      swap false false c = refl

  nothing_more : (xs : List Addr) → xs ++ [] ≡ xs
  nothing_more [] = refl
  nothing_more (x ∷ xs) = ap (λ ys. x ∷ ys) (nothing_more xs)

  module _ (subnets : List SubnetRow) (taken : List Addr) (item : FixedAsked) (rest : List FixedAsked) where
    -- an item without a subnet has no place
    pub no_turn : item_subnet subnets item ≡ None → placed (is_in taken) (wishes subnets (item ∷ rest)) ≡ placed (is_in taken) (wishes subnets rest)
    no_turn none = λ j. placed (is_in taken) (cons_option (option_map (wish_for item) (none j)) (wishes subnets rest))

    -- the next item
    pub one_turn : (s : SubnetRow) (o : Option Addr) → item_subnet subnets item ≡ Some s → o ≡ known_at mac old taken item.address s
        → placed (is_in taken) (wishes subnets (item ∷ rest)) ≡ record { subnet = s; known = o } ∷ placed (is_in (taken ++ option_to_list o)) (wishes subnets rest)
    one_turn s o found is =
        (λ j. placed (is_in taken) (cons_option (option_map (wish_for item) (found j)) (wishes subnets rest)))
        ∙ ((λ j. turn_by (sym known j)) ∙ by o refl)
      where
        known : o ≡ known_by (is_in taken) item.address s
        known = is ∙ known_is taken item.address s

        turn_by : Option Addr → List Place
        turn_by None = wish_for item s ∷ placed (is_in taken) (wishes subnets rest)
        turn_by (Some x) = record { subnet = s; known = Some x } ∷ placed (λ y. addr_eq x y || is_in taken y) (wishes subnets rest)

        none_named : (a : Option Addr) → None ≡ known_by (is_in taken) a s → a ≡ None
        none_named None h = refl
        none_named (Some x) h = none_some x _ h

        by : (p : Option Addr) → o ≡ p → turn_by p ≡ record { subnet = s; known = p } ∷ placed (is_in (taken ++ option_to_list p)) (wishes subnets rest)
        by None e = λ j. record { subnet = s; known = none_named item.address (sym e ∙ known) j } ∷ placed (is_in (sym (nothing_more taken) j)) (wishes subnets rest)
        by (Some x) e = λ j. record { subnet = s; known = Some x } ∷ placed (λ y. sym (in_front taken x y) j) (wishes subnets rest)

module _ (mac : ℕ) (old : List Fixed) (subnets : List SubnetRow) (taken : List Addr) (item : FixedAsked) (rest : List FixedAsked) where
  abbrev here : Option SubnetRow → List Place
  here o = place_for mac old taken item o

  one_known : (s : SubnetRow) (p : Option Addr) → option_to_list p ≡ known_addresses (record { subnet = s; known = p } ∷ [])
  one_known s None = refl
  one_known s (Some x) = refl

  -- the next item has its place in front of the others
  pub next_turn : placed mac old (is_in taken) (wishes subnets (item ∷ rest))
      ≡ here (item_subnet subnets item) ++ placed mac old (is_in (taken ++ known_addresses (here (item_subnet subnets item)))) (wishes subnets rest)
  next_turn = by (item_subnet subnets item) refl
    where
      by : (o : Option SubnetRow) → item_subnet subnets item ≡ o
          → placed mac old (is_in taken) (wishes subnets (item ∷ rest)) ≡ here o ++ placed mac old (is_in (taken ++ known_addresses (here o))) (wishes subnets rest)
      by None e = no_turn mac old subnets taken item rest e ∙ (λ j. placed mac old (is_in (sym (nothing_more mac old taken) j)) (wishes subnets rest))
      by (Some s) e =
          one_turn mac old subnets taken item rest s (known_at mac old taken item.address s) e refl
          ∙ (λ j. record { subnet = s; known = known_at mac old taken item.address s } ∷ placed mac old (is_in (taken ++ one_known s (known_at mac old taken item.address s) j)) (wishes subnets rest))

more_held : (f e i h : Bool) → (f && not i) ≡ not h → (f && not (e || i)) ≡ not (h || e)
more_held true true i h is = by h
  where
    by : (h : Bool) → false ≡ not (h || true)
    by true = refl
    by false = refl
more_held false true i h is = by h
  where
    by : (h : Bool) → false ≡ not (h || true)
    by true = refl
    by false = refl
more_held f false i h is = is ∙ ap not (by h)
  where
    by : (h : Bool) → h ≡ h || false
    by true = refl
    by false = refl

filled_at_is : (free : Addr → Bool) (taken : List Addr) (held : Addr → Bool) → ((x : Addr) → (free x && not (is_in taken x)) ≡ not (held x))
    → (k : Option Addr) (s : SubnetRow) → filled_at free taken k s ≡ given_at held k s
filled_at_is free taken held h (Some x) s = refl
filled_at_is free taken held h None s = λ j. least_free_address (λ x. h x j) s.pools

-- addresses are chosen by what is free and not taken, or by what is held
pub filled_is : (free : Addr → Bool) (taken : List Addr) (held : Addr → Bool) (ls : List Place) → ((x : Addr) → (free x && not (is_in taken x)) ≡ not (held x))
    → filled free taken ls ≡ given_in_turn held ls
filled_is free taken held [] h = refl
filled_is free taken held (l ∷ ls) h =
    (λ j. elim (filled_at_is free taken held h l.known l.subnet j) [
      | None ↦ None
      | Some x ↦ option_map (λ fs. fixed_at l.subnet.id x ∷ fs) (filled free (x ∷ taken) ls)
    ]) ∙ by (given_at held l.known l.subnet)
    (λ x. filled_is free (x ∷ taken) (λ y. held y || addr_eq x y) ls (λ y. more_held (free y) (addr_eq x y) (is_in taken y) (held y) (h y)))
  where
    by : (o : Option Addr) → ((x : Addr) → filled free (x ∷ taken) ls ≡ given_in_turn (λ y. held y || addr_eq x y) ls)
        → ◌≡◌ {A = Option (List Fixed)} (elim o [ None ↦ None | Some x ↦ option_map (λ fs. fixed_at l.subnet.id x ∷ fs) (filled free (x ∷ taken) ls) ])
        (elim o [ None ↦ None | Some x ↦ option_map (λ fs. fixed_at l.subnet.id x ∷ fs) (given_in_turn (λ y. held y || addr_eq x y) ls) ])
    by None on = refl
    by (Some x) on = ap (option_map (λ fs. fixed_at l.subnet.id x ∷ fs)) (on x)

-- what is neither held nor known isn't held then
pub neither : (a b c : Bool) → c ≡ a || b → (not a && not b) ≡ not c
neither true b c is = ap not (sym is)
neither false b c is = ap not (sym is)

onto : (fixed : List Fixed) (f : Fixed) (o : Option (List Fixed)) → option_map (λ fs. fixed ++ fs) (option_map (λ fs. f ∷ fs) o) ≡ option_map (λ fs. (fixed ++ f ∷ []) ++ fs) o
onto fixed f None = refl
onto fixed f (Some fs) = ap Some (sym (append_assoc fixed (f ∷ []) fs))

module _ (held : Addr → Bool) (l : Place) (ls : List Place) where
  -- the next place
  pub given_next : (x : Addr) (after : Addr → Bool) (fixed : List Fixed) → given_at held l.known l.subnet ≡ Some x → ((y : Addr) → after y ≡ held y || addr_eq x y)
      → option_map (λ fs. (fixed ++ fixed_at l.subnet.id x ∷ []) ++ fs) (given_in_turn after ls) ≡ option_map (λ fs. fixed ++ fs) (given_in_turn held (l ∷ ls))
  given_next x after fixed is more =
      sym ((λ j. option_map (λ fs. fixed ++ fs) (elim (is j) [
        | None ↦ None
        | Some z ↦ option_map (λ fs. fixed_at l.subnet.id z ∷ fs) (given_in_turn (λ y. held y || addr_eq z y) ls)
      ])) ∙ (onto fixed (fixed_at l.subnet.id x) (given_in_turn (λ y. held y || addr_eq x y) ls)
      ∙ (λ j. option_map (λ fs. (fixed ++ fixed_at l.subnet.id x ∷ []) ++ fs) (given_in_turn (λ y. sym (more y) j) ls))))

  -- a place for which there is none
  pub given_none : (fixed : List Fixed) → given_at held l.known l.subnet ≡ None → None ≡ option_map (λ fs. fixed ++ fs) (given_in_turn held (l ∷ ls))
  given_none fixed is = sym (λ j. option_map (λ fs. fixed ++ fs) (elim (is j) [
    | None ↦ None
    | Some z ↦ option_map (λ fs. fixed_at l.subnet.id z ∷ fs) (given_in_turn (λ y. held y || addr_eq z y) ls)
  ]))

pub take_cons : {X : Type 0} (k : ℕ) (x : X) (xs : List X) → 0 < k → take k (x ∷ xs) ≡ x ∷ take (k - 1) xs
take_cons zero x xs h = absurd (omega arith)
take_cons (suc k) x xs h = let e : k ≡ suc k - 1 = omega arith in ap (λ n. x ∷ take n xs) e
