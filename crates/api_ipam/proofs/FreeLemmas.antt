-- Addresses where none are asked for, case by case.
use Rattle.std.proofs.Common.{◌≡◌, ◌∙◌, ℕ, ◌+◌, ◌-◌, ◌<◌, Bool, true, false, Option, Some, None, List, [], ◌∷◌, ◌++◌, ap, arith, append_assoc, cond, length, option_map, refl, sym, take}
use Rattle.std.specs.Prelude.{filter, map, option_and_then}
use Rattle.net_addr.specs.declared.address.Addr.{Addr}
use Rattle.api_types.specs.Consistent.InForm.{is_eui}
use Rattle.api_types.specs.declared.port.Fixed.{Fixed}
use Rattle.api_types.specs.declared.subnet.SubnetRow.{SubnetRow}
use Rattle.api_ipam.specs.FixedChoice.{all_euis, any_address, any_of_each, eui_fixed, first_free, gateway_addresses, gateway_euis, is_pool_four, is_pool_six, with_euis}
use Rattle.api_ipam.proofs.PlaceLemmas.{take_cons}

module _ (free : Addr → Bool) where
  pub any_nowhere : (subnets : List SubnetRow) → length subnets ≡ 0 → any_address free subnets ≡ Some []
  any_nowhere [] h = refl
  any_nowhere (s ∷ subnets) h = absurd (omega arith)

  pub any_somewhere : (subnets : List SubnetRow) → (length subnets ≡ 0 → ⊥) → any_address free subnets ≡ option_map (λ f. f ∷ []) (first_free free subnets)
  any_somewhere [] h = absurd (h refl)
  any_somewhere (s ∷ subnets) h = refl

  module _ (subnets : List SubnetRow) where
    abbrev fours : Option (List Fixed)
    fours = any_address free (filter is_pool_four subnets)

    abbrev sixes : Option (List Fixed)
    sixes = any_address free (filter is_pool_six subnets)

    abbrev each : Option (List Fixed) → Option (List Fixed) → Option (List Fixed)
    each o p = option_and_then (λ xs. option_map (λ ys. xs ++ ys) p) o

    pub no_four : None ≡ fours → None ≡ any_of_each free subnets
    no_four none = ap (λ o. each o sixes) none

    pub no_six : (xs : List Fixed) → Some xs ≡ fours → None ≡ sixes → None ≡ any_of_each free subnets
    no_six xs some none = λ j. each (some j) (none j)

    pub each_there : (xs ys : List Fixed) → Some xs ≡ fours → Some ys ≡ sixes → Some (xs ++ ys) ≡ any_of_each free subnets
    each_there xs ys some more = λ j. each (some j) (more j)

    pub no_gateway : length subnets ≡ 0 → (mac : ℕ) → None ≡ gateway_addresses free subnets mac
    no_gateway h mac = by subnets h
      where
        by : (xs : List SubnetRow) → length xs ≡ 0 → None ≡ gateway_addresses free xs mac
        by [] h = refl
        by (s ∷ xs) h = absurd (omega arith)

    pub some_gateway : (length subnets ≡ 0 → ⊥) → (mac : ℕ) → with_euis free subnets (gateway_euis mac subnets) ≡ gateway_addresses free subnets mac
    some_gateway h mac = by subnets h
      where
        by : (xs : List SubnetRow) → (length xs ≡ 0 → ⊥) → with_euis free xs (gateway_euis mac xs) ≡ gateway_addresses free xs mac
        by [] h = absurd (h refl)
        by (s ∷ xs) h = refl

pub length_last : (xs : List Fixed) (f : Fixed) → length (xs ++ f ∷ []) ≡ length xs + 1
length_last [] f = refl
length_last (x ∷ xs) f = let e = length_last xs f in omega (arith, e)

-- as many of the next ones as are left
module _ (mac : ℕ) (s : SubnetRow) (rest : List SubnetRow) (euis : List Fixed) (most : ℕ) where
  pub one_more : is_eui s ≡ true → length euis < most
      → (euis ++ eui_fixed mac s ∷ []) ++ take (most - length (euis ++ eui_fixed mac s ∷ [])) (all_euis mac rest) ≡ euis ++ take (most - length euis) (all_euis mac (s ∷ rest))
  one_more is less =
      let longer : length (euis ++ eui_fixed mac s ∷ []) ≡ length euis + 1 = length_last euis (eui_fixed mac s) in
      append_assoc euis (eui_fixed mac s ∷ []) (take (most - length (euis ++ eui_fixed mac s ∷ [])) (all_euis mac rest))
      ∙ ap (λ xs. euis ++ xs)
      (ap (λ k. eui_fixed mac s ∷ take k (all_euis mac rest)) (omega (arith, longer))
      ∙ (sym (take_cons (most - length euis) (eui_fixed mac s) (all_euis mac rest) (omega (arith, less)))
      ∙ ap (λ (b : Bool). take (most - length euis) (map (eui_fixed mac) (cond b (s ∷ filter is_eui rest) (filter is_eui rest)))) (sym is)))

  pub none_more : is_eui s ≡ false → euis ++ take (most - length euis) (all_euis mac rest) ≡ euis ++ take (most - length euis) (all_euis mac (s ∷ rest))
  none_more is = ap (λ (b : Bool). euis ++ take (most - length euis) (map (eui_fixed mac) (cond b (s ∷ filter is_eui rest) (filter is_eui rest)))) (sym is)
