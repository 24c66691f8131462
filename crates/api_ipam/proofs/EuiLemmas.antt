-- Subnets of consistent rows in which addresses are made of MAC addresses have 64 bits of version 6.
use Rattle.std.proofs.Common.{◌≡◌, ◌∙◌, suc, cond, Bool, true, false, not, Option, Some, None, List, [], ◌∷◌, ap, refl, sym}
use Rattle.std.specs.Prelude.{◌&&◌, ◌==◌, ◌||◌, find, is_none}
use Rattle.net_addr.specs.Addresses.{is_v4}
use Rattle.net_addr.specs.Prefixes.{contains}
use Rattle.net_addr.specs.declared.address.Addr.{Addr}
use Rattle.api_types.specs.Consistent.{IsConsistent}
use Rattle.api_types.specs.Consistent.InForm.{is_subnet_form, makes_eui, mode_eq}
use Rattle.api_types.specs.HeldAddresses.{subnets_on}
use Rattle.api_types.specs.Ident.{Ident}
use Rattle.api_types.specs.Lists.{Pass, if_some, is_some_so}
use Rattle.api_types.specs.RowLists.{RowLists}
use Rattle.api_types.specs.Table.{ident_eq}
use Rattle.api_types.specs.declared.form.FixedAsked.{FixedAsked}
use Rattle.api_types.specs.declared.subnet.Ipv6Mode.{Ipv6Mode}
use Rattle.api_types.specs.declared.subnet.SubnetRow.{SubnetRow}
use Rattle.api_types.proofs.ListLemmas.{and_both, each-filter, none_some, some_equal}
use Rattle.api_ipam.specs.Euis.{fits_eui}
use Rattle.api_ipam.specs.FixedChoice.{item_subnet, subnet_for}

modes_fit : (am rm : Option Ipv6Mode) (six dhcp whole : Bool)
    → (((is_none am && is_none rm) || (six && dhcp)) && if_some (λ a. if_some (mode_eq a) rm) am) && (not (is_some_so makes_eui am) || whole) ≡ true
    → not (is_some_so makes_eui am) || (six && whole) ≡ true
modes_fit None rm six dhcp whole h = refl
modes_fit (Some m) rm six dhcp whole h =
    let both = and_both (((false && is_none rm) || (six && dhcp)) && if_some (λ a. if_some (mode_eq a) rm) (Some m)) (not (makes_eui m) || whole) h in
    let first = and_both ((false && is_none rm) || (six && dhcp)) (if_some (λ a. if_some (mode_eq a) rm) (Some m)) both.0 in
    let six_is = (and_both six dhcp first.0).0 in
    by (makes_eui m) both.1 six_is
  where
    by : (e : Bool) → not e || whole ≡ true → six ≡ true → not e || (six && whole) ≡ true
    by true w s = λ j. s j && w j
    by false w s = refl

pub fits_if_formed : (s : SubnetRow) → is_subnet_form s ≡ true → fits_eui s ≡ true
fits_if_formed s h =
    let a = (and_both _ _ h).0 in
    let b = (and_both _ _ a).0 in
    let c = (and_both _ _ b).0 in
    let d = (and_both _ _ c).0 in
    let e = (and_both _ _ d).0 in
    let f = (and_both _ _ e).0 in
    let g = (and_both _ _ f).0 in
    modes_fit s.address_mode s.ra_mode (not (is_v4 s.prefix.base)) s.dhcp (s.prefix.len == 64) (and_both _ _ g).1

-- so do those of a network
pub fits_on : (rows : RowLists) (network : Ident) → IsConsistent rows → Pass fits_eui (subnets_on rows.subnets network)
fits_on rows network c = each-filter (λ (s : SubnetRow). ident_eq network s.network) (λ s. is_subnet_form s ≡ true) (λ s. fits_eui s ≡ true) rows.subnets (λ s kept h. fits_if_formed s h) c.in_form.subnet_forms

-- the one that is found does
pub found_fits : (test : SubnetRow → Bool) (subnets : List SubnetRow) → Pass fits_eui subnets → if_some fits_eui (find test subnets) ≡ true
found_fits test [] all = refl
found_fits test (s ∷ subnets) all = by (test s) (found_fits test subnets (λ k r at. all (suc k) r at))
  where
    by : (b : Bool) → if_some fits_eui (find test subnets) ≡ true → if_some fits_eui (cond b (Some s) (find test subnets)) ≡ true
    by true rest = all 0 s refl
    by false rest = rest

there : (o : Option SubnetRow) → if_some fits_eui o ≡ true → (s : SubnetRow) → o ≡ Some s → fits_eui s ≡ true
there None h s e = none_some s _ e
there (Some t) h s e = ap fits_eui (sym (some_equal t s e)) ∙ h

pub item_fits : (subnets : List SubnetRow) (item : FixedAsked) → Pass fits_eui subnets → (s : SubnetRow) → item_subnet subnets item ≡ Some s → fits_eui s ≡ true
item_fits subnets item all s e = there (item_subnet subnets item) (by item.subnet item.address) s e
  where
    by : (i : Option Ident) (a : Option Addr) → if_some fits_eui (subnet_for subnets i a) ≡ true
    by (Some i) a = found_fits (λ (t : SubnetRow). ident_eq i t.id) subnets all
    by None (Some x) = found_fits (λ (t : SubnetRow). contains t.prefix x) subnets all
    by None None = refl
