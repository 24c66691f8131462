-- Two searches, one inside the other, find the same in either order.
use Rattle.std.proofs.Common.{◌≡◌, ◌∙◌, Bool, true, false, List, [], ◌∷◌, ap, refl, sym}
use Rattle.std.specs.Prelude.{◌||◌}
use Rattle.std.specs.List.{list_any}
use Rattle.api_types.proofs.ListLemmas.{or_true}
use Rattle.api_types.specs.HeldAddresses.{subnets_on}
use Rattle.api_types.specs.RouterWays.{touches}
use Rattle.api_types.specs.RowLists.{RowLists}
use Rattle.api_types.specs.declared.network.NetworkRow.{NetworkRow}
use Rattle.api_types.specs.declared.port.PortRow.{PortRow}
use Rattle.api_types.specs.declared.subnet.SubnetRow.{SubnetRow}
use Rattle.api_router.specs.RouterRules.{overlaps_interface}
use Rattle.api_router.specs.Ways.{meets_network}

module _ {X : Type 0} where
  pub any_never : (xs : List X) → list_any (λ x. false) xs ≡ false
  any_never [] = refl
  any_never (x ∷ xs) = any_never xs

  any_or : (f g : X → Bool) (xs : List X) → list_any (λ x. f x || g x) xs ≡ list_any f xs || list_any g xs
  any_or f g [] = refl
  any_or f g (x ∷ xs) = by (f x) (g x) (list_any f xs) (list_any g xs) (list_any (λ y. f y || g y) xs) (any_or f g xs)
    where
      by : (a b c d e : Bool) → e ≡ c || d → (a || b) || e ≡ (a || c) || (b || d)
      by true b c d e h = refl
      by false true c d e h = sym (or_true c)
      by false false c d e h = h

any_swapped : {X Y : Type 0} (f : X → Y → Bool) (xs : List X) (ys : List Y) → list_any (λ y. list_any (λ x. f x y) xs) ys ≡ list_any (λ x. list_any (f x) ys) xs
any_swapped f xs [] = sym (any_never xs)
any_swapped f xs (y ∷ ys) = ap (λ b. list_any (λ x. f x y) xs || b) (any_swapped f xs ys) ∙ sym (any_or (λ x. f x y) (λ x. list_any (f x) ys) xs)

pub met_overlaps : (rows : RowLists) (interfaces : List PortRow) (n : NetworkRow) → list_any (meets_network rows.subnets n.id) interfaces ≡ overlaps_interface rows interfaces n
met_overlaps rows interfaces n = any_swapped (λ (s : SubnetRow) (p : PortRow). touches rows.subnets s.prefix p) (subnets_on rows.subnets n.id) interfaces

pub none_overlaps : (rows : RowLists) (n : NetworkRow) → overlaps_interface rows [] n ≡ false
none_overlaps rows n = any_never (subnets_on rows.subnets n.id)
