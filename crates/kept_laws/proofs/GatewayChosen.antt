-- The addresses of a gateway's port: at most one of version 4 from a pool, and one of version 6 from a pool or of its MAC address.
use Rattle.std.proofs.Common.{◌≡◌, ◌≤◌, ◌<◌, ◌+◌, ◌∙◌, ◌++◌, ℕ, zero, suc, List, [], ◌∷◌, Bool, true, false, Option, Some, None, slice_get, map, length, refl, ap, sym, subst}
use Rattle.std.specs.Prelude.{filter, find, if◌then◌else◌, option_map, not, nat_le, ◌&&◌, ◌||◌, ◌^◌, take}
use Rattle.std.specs.List.{list_any, list_all}
use Rattle.net_addr.specs.Addresses.{addr_eq, is_v4}
use Rattle.net_addr.specs.Prefixes.{is_host_of, IsPrefix, eui}
use Rattle.net_addr.specs.declared.address.Addr.{Addr}
use Rattle.net_addr.specs.declared.address.Addr.TheVariants.{V4, V6}
use Rattle.api_types.specs.Ident.{Ident}
use Rattle.api_types.specs.Lists.{Each, Pass, is_empty, is_some_so}
use Rattle.api_types.specs.Owners.{is_interface}
use Rattle.api_types.specs.Table.{ident_eq}
use Rattle.api_types.specs.declared.port.Fixed.{Fixed}
use Rattle.api_types.specs.declared.port.PortRow.{PortRow}
use Rattle.api_types.specs.declared.subnet.SubnetRow.{SubnetRow}
use Rattle.kept_laws.proofs.OutcomeLemmas.{unfound}
use Rattle.api_types.specs.Consistent.Hosts.{is_host_in, is_own_address}
use Rattle.api_types.specs.Consistent.InForm.{is_eui, is_subnet_form}
use Rattle.api_types.specs.Consistent.Named.{names_subnet}
use Rattle.api_types.specs.declared.refusal.Refusal.TheVariants.{Taken}
use Rattle.api_types.specs.declared.refusal.Value.TheVariants.{Address as AddressValue}
use Rattle.api_types.proofs.ListLemmas.{and_both, any-at, at-any, at_filter, both_and, false_true, filter-any, none-any, none_some, some_equal}
use Rattle.api_types.proofs.NameLemmas.{at-all, by_test, ident_itself, ident_sym, not_true, or_weaker}
use Rattle.api_ipam.specs.FixedChoice.{addresses_of, all_euis, any_address, any_of_each, are_different, eui_fixed, first_free, gateway_addresses, gateway_euis, is_pool_four, is_pool_six, with_euis}
use Rattle.api_types.specs.HeldAddresses.{address_taken, subnets_on}
use Rattle.api_ipam.specs.MacChoice.{first_mac}
use Rattle.kept_laws.proofs.CallLemmas.{mapped, thence, unmapped}
use Rattle.kept_laws.proofs.ChosenLemmas.{IsChosen, eui_chosen, host_version, pool_chosen}

abbrev opt : Option Fixed → List Fixed
opt None = []
opt (Some f) = f ∷ []

-- what is kept of no row is passed by none
kept_none : {R : Type 0} (test : R → Bool) (xs : List R) → filter test xs ≡ [] → list_any test xs ≡ false
kept_none test xs is = by_test (list_any test xs) (list_any test xs ≡ false)
    (λ h. let found = any-at test xs h in
    false_true _ (sym (ap (list_any (λ x. true)) is) ∙ filter-any test (λ x. true) xs found.0 found.1 found.2 found.3 refl))
    (λ none. none)

-- one pool address, where a subnet passes the test
record IsAny (free : Addr → Bool) (test : SubnetRow → Bool) (ss : List SubnetRow) (fs : List Fixed) : Type 0 where
  pub one : Option Fixed
  pub is : opt one ≡ fs
  pub none : one ≡ None → list_any test ss ≡ false
  pub some : (f : Fixed) → one ≡ Some f → first_free free (filter test ss) ≡ Some f

any_is : (free : Addr → Bool) (test : SubnetRow → Bool) (ss : List SubnetRow) (fs : List Fixed) → any_address free (filter test ss) ≡ Some fs → IsAny free test ss fs
any_is free test ss fs h = by (filter test ss) refl h
  where
    by : (xs : List SubnetRow) → filter test ss ≡ xs → any_address free xs ≡ Some fs → IsAny free test ss fs
    by [] is h = record { one = None; is = some_equal [] fs h; none = λ e. kept_none test ss is; some = λ f e. none_some f _ e }
    by (s ∷ xs) is h =
        let found = mapped (λ f. f ∷ []) (first_free free (s ∷ xs)) fs h in
        record { one = Some found.0; is = found.2; none = λ e. none_some found.0 _ (sym e); some = λ f e. ap (first_free free) is ∙ (found.1 ∙ e) }

-- one address of the MAC address, where there is no pool of version 6
record IsEui (ss : List SubnetRow) (mac : ℕ) (euis : List Fixed) : Type 0 where
  pub one : Option Fixed
  pub is : opt one ≡ euis
  pub none : one ≡ None → list_any is_pool_six ss || not (list_any is_eui ss) ≡ true
  pub some : (f : Fixed) → one ≡ Some f → (list_any is_pool_six ss ≡ false) × (k : ℕ) × (s : SubnetRow) × (slice_get ss k ≡ Some s) × (is_eui s ≡ true) × (eui_fixed mac s ≡ f)

euis_is : (ss : List SubnetRow) (mac : ℕ) → IsEui ss mac (gateway_euis mac ss)
euis_is ss mac = by (list_any is_pool_six ss) refl
  where
    first : (xs : List SubnetRow) → filter is_eui ss ≡ xs → list_any is_pool_six ss ≡ false → IsEui ss mac (take 1 (map (eui_fixed mac) xs))
    first [] is six = record { one = None; is = refl; none = λ e. (λ j. six j || not (kept_none is_eui ss is j)); some = λ f e. none_some f _ e }
    first (s ∷ xs) is six =
        let here = at_filter is_eui ss 0 s (ap (λ ys. slice_get ys 0) is) in
        record {
          one = Some (eui_fixed mac s);
          is = refl;
          none = λ e. none_some (eui_fixed mac s) _ (sym e);
          some = λ f e. (six, here.0, s, here.1, here.2, some_equal (eui_fixed mac s) f e);
        }

    by : (b : Bool) → list_any is_pool_six ss ≡ b → IsEui ss mac (if b then [] else take 1 (all_euis mac ss))
    by true six = record { one = None; is = refl; none = λ e. ap (λ b. b || not (list_any is_eui ss)) six; some = λ f e. none_some f _ e }
    by false six = first (filter is_eui ss) refl six

-- addresses that may be a gateway port's
pub record AreChosen (subnets : List SubnetRow) (network : Ident) (held : Addr → Bool) (mac : ℕ) (fs : List Fixed) : Type 0 where
  pub each : Each (IsChosen subnets network held mac) fs
  pub few : nat_le (length fs) 5 ≡ true
  pub differ : are_different (addresses_of fs) ≡ true
  pub some : not (is_empty fs) ≡ true

versions_differ : (x y : Addr) → is_v4 x ≡ true → is_v4 y ≡ false → addr_eq y x ≡ false
versions_differ (V4 m) (V4 n) h g = false_true _ (sym g)
versions_differ (V4 m) (V6 n) h g = refl
versions_differ (V6 m) y h g = false_true _ h

module _ (subnets : List SubnetRow) (network : Ident) (held : Addr → Bool) (mac : ℕ) where
  abbrev IsOne : Bool → Option Fixed → Type 0
  IsOne four o = (f : Fixed) → o ≡ Some f → IsChosen subnets network held mac f × (is_v4 f.address ≡ four)

  pub just : (f : Fixed) → IsChosen subnets network held mac f → AreChosen subnets network held mac (f ∷ [])
  just f is = record { each = one; few = refl; differ = refl; some = refl }
    where
      one : Each (IsChosen subnets network held mac) (f ∷ [])
      one zero g at = subst (IsChosen subnets network held mac) (some_equal f g at) is
      one (suc k) g at = none_some g _ at

  two : (f g : Fixed) → IsChosen subnets network held mac f → IsChosen subnets network held mac g → addr_eq g.address f.address ≡ false → AreChosen subnets network held mac (f ∷ g ∷ [])
  two f g a b differ = record { each = both; few = refl; differ = λ j. not (differ j || false) && true; some = refl }
    where
      both : Each (IsChosen subnets network held mac) (f ∷ g ∷ [])
      both zero e at = subst (IsChosen subnets network held mac) (some_equal f e at) a
      both (suc zero) e at = subst (IsChosen subnets network held mac) (some_equal g e at) b
      both (suc (suc k)) e at = none_some e _ at

  assembled : (a b e : Option Fixed) → IsOne true a → IsOne false b → IsOne false e → ((f : Fixed) → e ≡ Some f → b ≡ None) → (a ≡ None → b ≡ None → e ≡ None → ⊥)
      → AreChosen subnets network held mac ((opt a ++ opt b) ++ opt e)
  assembled None None None x y z alone any = absurd (any refl refl refl)
  assembled (Some f) None None x y z alone any = just f (x f refl).0
  assembled None (Some g) None x y z alone any = just g (y g refl).0
  assembled None None (Some g) x y z alone any = just g (z g refl).0
  assembled (Some f) (Some g) None x y z alone any = two f g (x f refl).0 (y g refl).0 (versions_differ f.address g.address (x f refl).1 (y g refl).1)
  assembled (Some f) None (Some g) x y z alone any = two f g (x f refl).0 (z g refl).0 (versions_differ f.address g.address (x f refl).1 (z g refl).1)
  assembled a (Some g) (Some e) x y z alone any = none_some g _ (sym (alone e refl))

covered : (v u : Bool) → v && not u ≡ false → not v && not u ≡ false → u ≡ false → ⊥
covered v true four six none = false_true ⊥ (sym none)
covered true false four six none = false_true ⊥ (sym four)
covered false false four six none = false_true ⊥ (sym six)

second_true : (a b : Bool) → a || not b ≡ true → a ≡ false → b ≡ false
second_true true b h e = false_true _ (sym e)
second_true false true h e = false_true _ h
second_true false false h e = refl

some_subnet : (free : Addr → Bool) (ss : List SubnetRow) (mac : ℕ) (fs : List Fixed) → gateway_addresses free ss mac ≡ Some fs → (with_euis free ss (gateway_euis mac ss) ≡ Some fs) × (s : SubnetRow) × (slice_get ss 0 ≡ Some s)
some_subnet free [] mac fs h = none_some fs _ h
some_subnet free (s ∷ ss) mac fs h = (h, s, refl)

pub gateway_chosen : (subnets : List SubnetRow) → Each (λ (s : SubnetRow). IsPrefix s.prefix) subnets → Pass is_subnet_form subnets → (network : Ident) (held : Addr → Bool) (mac : ℕ) → first_mac ≤ mac → mac < first_mac + 2 ^ 24
    → (fixed : List Fixed) → gateway_addresses (λ x. not (held x)) (subnets_on subnets network) mac ≡ Some fixed → address_taken held network (addresses_of (gateway_euis mac (subnets_on subnets network))) ≡ None → AreChosen subnets network held mac fixed
gateway_chosen subnets prefixes forms network held mac low high fixed h untaken =
    let free : Addr → Bool = λ x. not (held x) in
    let ss : List SubnetRow = subnets_on subnets network in
    let start = some_subnet free ss mac fixed h in
    let e = euis_is ss mac in
    let whole = mapped (λ chosen. chosen ++ gateway_euis mac ss) (any_of_each free ss) fixed start.0 in
    let fours = thence (λ fs. option_map (λ gs. fs ++ gs) (any_address free (filter is_pool_six ss))) (any_address free (filter is_pool_four ss)) whole.0 whole.1 in
    let sixes = mapped (λ gs. fours.0 ++ gs) (any_address free (filter is_pool_six ss)) whole.0 fours.2 in
    let a = any_is free is_pool_four ss fours.0 fours.1 in
    let b = any_is free is_pool_six ss sixes.0 sixes.1 in
    let is : (opt a.one ++ opt b.one) ++ opt e.one ≡ fixed = (λ j. (a.is j ++ b.is j) ++ e.is j) ∙ ((λ j. sixes.2 j ++ gateway_euis mac ss) ∙ whole.2) in
    subst (AreChosen subnets network held mac) is
    (assembled subnets network held mac a.one b.one e.one
    (λ f one. let c = pool_chosen subnets prefixes forms network held mac is_pool_four (λ s t. not_true (is_eui s) (and_both (is_v4 s.prefix.base) (not (is_eui s)) t).1) f (a.some f one) in
    (c.0, host_version c.0.subnet.prefix f.address (prefixes c.0.place c.0.subnet c.0.at) c.0.host ∙ (and_both (is_v4 c.0.subnet.prefix.base) (not (is_eui c.0.subnet)) c.1).0))
    (λ f one. let c = pool_chosen subnets prefixes forms network held mac is_pool_six (λ s t. not_true (is_eui s) (and_both (not (is_v4 s.prefix.base)) (not (is_eui s)) t).1) f (b.some f one) in
    (c.0, host_version c.0.subnet.prefix f.address (prefixes c.0.place c.0.subnet c.0.at) c.0.host ∙ not_true (is_v4 c.0.subnet.prefix.base) (and_both (not (is_v4 c.0.subnet.prefix.base)) (not (is_eui c.0.subnet)) c.1).0))
    (λ f one. let s = e.some f one in
    let euis_are : addresses_of (gateway_euis mac ss) ≡ f.address ∷ [] = ap addresses_of (sym e.is ∙ ap opt one) in
    let unheld : held f.address ≡ false = unfound held (f.address ∷ []) (ap (find held) (sym euis_are) ∙ unmapped (λ x. Taken (AddressValue x) network) (find held (addresses_of (gateway_euis mac ss))) untaken) 0 f.address refl in
    let c = eui_chosen subnets prefixes forms network held mac low high s.1 s.2 s.3 s.4 (ap (λ (g : Fixed). held g.address) s.5 ∙ unheld) in
    subst (λ g. IsChosen subnets network held mac g × (is_v4 g.address ≡ false)) s.5
    (c.0, host_version c.0.subnet.prefix (eui_fixed mac s.2).address (prefixes c.0.place c.0.subnet c.0.at) c.0.host ∙ c.1))
    (λ f one. no_six (e.some f one).0 b.one b.some)
    (λ x y z.
    let head : SubnetRow = start.1 in
    let four = none-any is_pool_four ss (a.none x) 0 head start.2 in
    let six = b.none y in
    let plain = second_true (list_any is_pool_six ss) (list_any is_eui ss) (e.none z) six in
    covered (is_v4 head.prefix.base) (is_eui head) four (none-any is_pool_six ss six 0 head start.2) (none-any is_eui ss plain 0 head start.2)))
  where
    -- no pool of version 6 gives no address of one
    no_six : list_any is_pool_six (subnets_on subnets network) ≡ false → (o : Option Fixed) → ((f : Fixed) → o ≡ Some f → first_free (λ x. not (held x)) (filter is_pool_six (subnets_on subnets network)) ≡ Some f) → o ≡ None
    no_six none None some = refl
    no_six none (Some f) some =
        let c = pool_chosen subnets prefixes forms network held mac is_pool_six (λ s t. not_true (is_eui s) (and_both (not (is_v4 s.prefix.base)) (not (is_eui s)) t).1) f (some f refl) in
        false_true _ (sym none ∙ filter-any (λ (s : SubnetRow). ident_eq network s.network) is_pool_six subnets c.0.place c.0.subnet c.0.at c.0.on c.1)

-- what a port with such addresses names and holds

module _ (subnets : List SubnetRow) (held : Addr → Bool) (fs : List Fixed) (p : PortRow) (each : Each (IsChosen subnets p.network held p.mac) fs) where
  pub chosen_named : list_all (names_subnet subnets p) fs ≡ true
  chosen_named = at-all (names_subnet subnets p) fs (λ k f at.
      let is = each k f at in
      let s : SubnetRow = is.subnet in
      at-any (λ t. ident_eq f.subnet t.id && ident_eq t.network p.network) subnets is.place s is.at
      (both_and (ident_eq f.subnet s.id) _ (ap (λ i. ident_eq i s.id) is.names ∙ ident_itself s.id) (ident_sym p.network s.network is.on)))

  pub chosen_hosts : list_all (is_host_in subnets p) fs ≡ true
  chosen_hosts = at-all (is_host_in subnets p) fs (λ k f at.
      let is = each k f at in
      let s : SubnetRow = is.subnet in
      at-any (λ t. ident_eq f.subnet t.id && (is_host_of t.prefix f.address && is_own_address p f.address t)) subnets is.place s is.at
      (both_and (ident_eq f.subnet s.id) _ (ap (λ i. ident_eq i s.id) is.names ∙ ident_itself s.id)
      (both_and (is_host_of s.prefix f.address) _ is.host
      (or_weaker (not (is_eui s)) (addr_eq f.address (eui s.prefix p.mac)) _ (λ h. ap (λ b. b || (is_interface p.owner && is_some_so (addr_eq f.address) s.gateway)) h) is.own))))

-- what fewer ports hold
pub chosen_less : (subnets : List SubnetRow) (network : Ident) (held less : Addr → Bool) (mac : ℕ) (fs : List Fixed) → ((x : Addr) → held x ≡ false → less x ≡ false) → AreChosen subnets network held mac fs → AreChosen subnets network less mac fs
chosen_less subnets network held less mac fs w are = record {
  each = λ k f at. let is = are.each k f at in record { place = is.place; subnet = is.subnet; at = is.at; on = is.on; names = is.names; host = is.host; own = is.own; free = w f.address is.free };
  few = are.few;
  differ = are.differ;
  some = are.some;
}
