-- What the reading of a port's body has made sure of, and what holds where its values aren't refused.
use Rattle.std.proofs.Common.{Bool, List, None, Option, Some, [], ap, arith, cond, false, length, map, not, refl, suc, sym, true, ℕ, ◌∙◌, ◌∷◌, ◌≡◌, ◌≤◌}
use Rattle.std.specs.Prelude.{codes, count_by, find, unwrap_or, ◌&&◌, ◌||◌}
use Rattle.std.proofs.lemmas.List.Sums.{sum_by-cons}
use Rattle.std.specs.List.{list_all}
use Rattle.std.specs.Str.{bytes_eq}
use Rattle.net_addr.proofs.AddrLemmas.{addr_same}
use Rattle.net_addr.specs.Addresses.{addr_eq}
use Rattle.net_addr.specs.Macs.{is_unicast}
use Rattle.net_addr.specs.declared.address.Addr.{Addr}
use Rattle.api_types.proofs.TableLemmas.{seen}
use Rattle.api_types.specs.Consistent.InForm.{is_group_of}
use Rattle.api_types.specs.Ident.{Ident}
use Rattle.api_types.specs.Lists.{if_some, is_empty, is_some_so}
use Rattle.api_types.specs.RowLists.{RowLists}
use Rattle.api_types.specs.Table.{ident_eq}
use Rattle.api_types.specs.declared.call.Caller.{Caller}
use Rattle.api_types.specs.declared.form.FixedAsked.{FixedAsked}
use Rattle.api_types.specs.declared.form.Given.{Given}
use Rattle.api_types.specs.declared.form.Given.TheVariants.{Absent, Is, Null}
use Rattle.api_types.specs.declared.form.PairAsked.{PairAsked}
use Rattle.api_types.specs.declared.form.PortForm.{PortForm}
use Rattle.api_types.specs.declared.group.GroupRow.{GroupRow}
use Rattle.api_types.specs.declared.kind.Kind.TheVariants.{Group as GroupKind, Subnet as SubnetKind}
use Rattle.api_types.specs.declared.port.Fixed.{Fixed}
use Rattle.api_types.specs.declared.port.Pair.{Pair}
use Rattle.api_types.specs.declared.refusal.Refusal.TheVariants.{Invalid}
use Rattle.api_types.specs.declared.subnet.SubnetRow.{SubnetRow}
use Rattle.api_types.proofs.ListLemmas.{and_both, at-any, both_and, count-none, false_true, none-any}
use Rattle.api_types.proofs.NameLemmas.{all-at, at-all, by_test, ident_itself, not_false, not_true}
use Rattle.kept_laws.proofs.EditedRows.{get_map}
use Rattle.kept_laws.proofs.FixedFits.{each_map}
use Rattle.kept_laws.proofs.GatewayStays.{unmapped}
use Rattle.call_parts.specs.BodyNames.{unless_all}
use Rattle.api_ipam.specs.FixedChoice.{addresses_of, are_different, are_placed, is_in, named_subnets}
use Rattle.call_parts.specs.InForm.{are_owners, if_value, is_few, is_item, is_no_service, is_pair, is_port_body, not_null}
use Rattle.plan_ports.specs.PortCalls.{is_group_for, mac_taken, pair_of}
use Rattle.plan_ports.specs.PortRules.{bad_bare, bad_fixed, is_subnet_seen}
use Rattle.api_policy.specs.Seen.{group_seen}
use Rattle.api_types.specs.Owners.{is_service}
use Rattle.api_policy.specs.Visibility.{is_own}
use Rattle.kept_laws.proofs.OutcomeLemmas.{named_is, not_when, unfound}
use Rattle.api_types.specs.Given.{value_or}

pub record PortBodyParts (form : PortForm) : Type 0 where
  pub owners : are_owners form.project_id form.tenant_id ≡ true
  pub unicast : if_value is_unicast form.mac_address ≡ true
  pub few_fixed : is_few 5 form.fixed_ips ≡ true
  pub few_pairs : is_few 10 form.allowed_address_pairs ≡ true
  pub pairs : if_value (list_all is_pair) form.allowed_address_pairs ≡ true
  pub few_groups : is_few 20 form.security_groups ≡ true
  pub no_service : if_value is_no_service form.device_owner ≡ true

pub port_parts : (form : PortForm) → is_port_body form ≡ true → PortBodyParts form
port_parts form h =
    let a = and_both _ (if_value is_no_service form.device_owner) h in
    let b = and_both _ (is_few 20 form.security_groups) a.0 in
    let d = and_both _ (if_value (list_all is_pair) form.allowed_address_pairs) b.0 in
    let e = and_both _ (is_few 10 form.allowed_address_pairs) d.0 in
    let f = and_both _ (if_value (list_all is_item) form.fixed_ips) e.0 in
    let g = and_both _ (is_few 5 form.fixed_ips) f.0 in
    let i = and_both _ (if_value is_unicast form.mac_address) g.0 in
    let k = and_both (are_owners form.project_id form.tenant_id) (not_null form.mac_address) i.0 in
    record { owners = k.0; unicast = i.1; few_fixed = g.1; few_pairs = e.1; pairs = d.1; few_groups = b.1; no_service = a.1 }

-- a device owner that is given is no service's
pub owner_plain : (old : List ℕ) (g : Given (List ℕ)) → is_service old ≡ false → if_value is_no_service g ≡ true → is_service (value_or old g) ≡ false
owner_plain old Absent was h = was
owner_plain old Null was h = was
owner_plain old (Is owner) was h = not_true (is_service owner) h

-- pairs have unicast MAC addresses, as the port has
pub pairs_unicast : (mac : ℕ) (asked : List PairAsked) → is_unicast mac ≡ true → list_all is_pair asked ≡ true → list_all (λ (p : Pair). is_unicast p.mac) (map (pair_of mac) asked) ≡ true
pairs_unicast mac asked unicast all = at-all (λ (p : Pair). is_unicast p.mac) (map (pair_of mac) asked)
    (each_map (λ (a : PairAsked). is_pair a ≡ true) (λ (p : Pair). is_unicast p.mac ≡ true) (pair_of mac) asked (λ a h. by a.mac h) (all-at is_pair asked all))
  where
    by : (o : Option ℕ) → if_some is_unicast o ≡ true → is_unicast (unwrap_or o mac) ≡ true
    by None h = unicast
    by (Some m) h = h

pub map_few : {X Y : Type 0} (f : X → Y) (xs : List X) → length (map f xs) ≡ length xs
map_few f [] = refl
map_few f (x ∷ xs) = ap suc (map_few f xs)

-- addresses that differ are held once
pub counted_once : (fs : List Fixed) (x : Addr) → are_different (addresses_of fs) ≡ true → count_by (λ (f : Fixed). addr_eq f.address x) fs ≤ 1
counted_once [] x h = omega arith
counted_once (f ∷ fs) x h =
    let both = and_both (not (is_in (addresses_of fs) f.address)) (are_different (addresses_of fs)) h in
    let rest = counted_once fs x both.1 in
    let all = sum_by-cons (λ (g : Fixed). cond {A = ℕ} (addr_eq g.address x) 1 0) f fs in
    by_test (addr_eq f.address x) (count_by (λ (g : Fixed). addr_eq g.address x) (f ∷ fs) ≤ 1)
    (λ is.
    let one : cond {A = ℕ} (addr_eq f.address x) 1 0 ≡ 1 = ap (λ (b : Bool). cond {A = ℕ} b 1 0) is in
    let zeros = count-none (λ (g : Fixed). addr_eq g.address x) fs (λ k g at. ap (addr_eq g.address) (sym (addr_same f.address x is))
    ∙ none-any (λ y. addr_eq y f.address) (addresses_of fs) (not_true _ both.0) k g.address (get_map (λ (g : Fixed). g.address) fs k g at)) in
    omega (arith, all, one, zeros))
    (λ other. let zero : cond {A = ℕ} (addr_eq f.address x) 1 0 ≡ 0 = ap (λ (b : Bool). cond {A = ℕ} b 1 0) other in omega (arith, all, zero, rest))

-- the rules on a body's addresses

-- where each subnet that is named is seen, the rule of the addresses holds
pub is_placed_so : (rows : RowLists) (caller : Caller) (subnets : List SubnetRow) (mac : ℕ) (old : List Fixed) (items : List FixedAsked)
    → bad_fixed rows caller subnets mac old items ≡ None → unless_all SubnetKind (is_subnet_seen rows caller) (named_subnets items) ≡ None → are_placed subnets mac old items ≡ true
is_placed_so rows caller subnets mac old items good seen =
    let all : list_all (is_subnet_seen rows caller) (named_subnets items) ≡ true = at-all (is_subnet_seen rows caller) (named_subnets items)
    (λ k i at. not_false (is_subnet_seen rows caller i) (unfound (λ i. not (is_subnet_seen rows caller i)) (named_subnets items) (unmapped _ (find (λ i. not (is_subnet_seen rows caller i)) (named_subnets items)) seen) k i at)) in
    by (list_all (is_subnet_seen rows caller) (named_subnets items)) (are_placed subnets mac old items) all (not_when _ (Invalid (codes "fixed_ips")) good)
  where
    by : (a b : Bool) → a ≡ true → a && not b ≡ false → b ≡ true
    by true true e h = refl
    by true false e h = cc
    by false b e h = false_true _ e

-- a MAC address that is named and isn't refused
pub mac_unheld : (held : ℕ → Bool) (network : Ident) (mac : ℕ) → mac_taken held network (Some mac) ≡ None → held mac ≡ false
mac_unheld held network mac h = not_when (held mac) _ h

-- a port without port security has neither groups nor pairs
pub bare_so : {G P : Type 0} (secured : Bool) (groups : List G) (pairs : List P) → bad_bare secured groups pairs ≡ None → secured || (is_empty groups && is_empty pairs) ≡ true
bare_so true groups pairs h = refl
bare_so false [] [] h = refl
bare_so false [] (p ∷ pairs) h = cc
bare_so false (g ∷ groups) pairs h = cc

pub map_empty : {X Y : Type 0} (f : X → Y) (xs : List X) → is_empty (map f xs) ≡ is_empty xs
map_empty f [] = refl
map_empty f (x ∷ xs) = refl

-- groups that a body names, and that aren't refused, are the project's
pub groups_named : (rows : RowLists) (caller : Caller) (project : List ℕ) (names : List Ident) → unless_all GroupKind (is_group_for rows caller project) names ≡ None → list_all (is_group_of rows.groups project) names ≡ true
groups_named rows caller project names h = at-all (is_group_of rows.groups project) names (λ k i at.
    by i (group_seen rows caller (Some i)) refl (not_false _ (unfound (λ i. not (is_group_for rows caller project i)) names (unmapped _ (find (λ i. not (is_group_for rows caller project i)) names) h) k i at)))
  where
    by : (i : Ident) (o : Option GroupRow) → group_seen rows caller (Some i) ≡ o → is_some_so (λ (g : GroupRow). bytes_eq g.project project) o ≡ true → is_group_of rows.groups project i ≡ true
    by i None e h = false_true _ h
    by i (Some g) e h =
        let here = named_is (λ (g : GroupRow). g.id) (λ (g : GroupRow). is_own caller g.project) rows.groups (Some i) g e in
        at-any (λ (m : GroupRow). ident_eq i m.id && bytes_eq m.project project) rows.groups here.place g here.at
        (both_and _ _ (ap (λ (o : Option Ident). is_some_so (λ j. ident_eq j g.id) o) here.name_is ∙ ident_itself g.id) h)
