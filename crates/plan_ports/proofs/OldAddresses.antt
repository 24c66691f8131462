-- The addresses that a port of no router holds fit, and still do where those that its MAC address gave are renewed.
use Rattle.std.proofs.Common.{Bool, List, None, Option, Some, [], ap, arith, cond, false, map, not, refl, slice_get, subst, suc, sym, true, ℕ, ◌<◌, ◌^◌, ◌∙◌, ◌∷◌, ◌≡◌, ◌≤◌}
use Rattle.std.specs.Prelude.{count_by, if◌then◌else◌, ◌&&◌, ◌||◌}
use Rattle.std.proofs.lemmas.List.Sums.{sum_by-cons}
use Rattle.net_addr.proofs.AddrLemmas.{addr_itself, addr_same}
use Rattle.net_addr.specs.Addresses.{addr_eq}
use Rattle.net_addr.specs.Prefixes.{IsPrefix, eui, is_host_of}
use Rattle.net_addr.specs.declared.address.Addr.{Addr}
use Rattle.api_types.proofs.TableLemmas.{differs}
use Rattle.api_types.specs.Consistent.{IsConsistent}
use Rattle.api_types.specs.Consistent.Hosts.{is_host_in, is_own_address}
use Rattle.api_types.specs.Consistent.InForm.{is_eui}
use Rattle.api_types.specs.Consistent.Named.{names_subnet}
use Rattle.api_types.specs.Ident.{Ident}
use Rattle.api_types.specs.Lists.{Each, is_some_so, times}
use Rattle.api_types.specs.Owners.{is_interface}
use Rattle.api_types.specs.RowLists.{RowLists}
use Rattle.api_types.specs.Table.{ident_eq, row_of}
use Rattle.api_types.specs.declared.port.Fixed.{Fixed}
use Rattle.api_types.specs.declared.port.PortRow.{PortRow}
use Rattle.api_types.specs.declared.subnet.SubnetRow.{SubnetRow}
use Rattle.row_laws.proofs.Service.DhcpLemmas.{holds_once}
use Rattle.api_types.proofs.ListLemmas.{and_both, any-at, any-none, both_and, both_of, false_true, none-any, none-counted, one_row, uncounted}
use Rattle.api_types.proofs.NameLemmas.{all-at, by_test, first_fails, ident_itself, ident_same, ident_sym, must, not_true, or_weaker}
use Rattle.kept_laws.proofs.EditedRows.{filter_has, get_map, map_get}
use Rattle.plan_ports.proofs.FixedApart.{around_forms, around_prefixes, hosts_apart, on_network_once}
use Rattle.kept_laws.proofs.FixedFits.{Fits, each_map, each_tail, eui_named}
use Rattle.api_ipam.specs.FixedChoice.{addresses_of, all_renewed, are_different, eui_fixed, is_in, old_renewed, renewed}
use Rattle.api_types.specs.HeldAddresses.{subnets_on}
use Rattle.api_policy.specs.Filtered.{fits}
use Rattle.kept_laws.proofs.OutcomeLemmas.{found_at, unfound}

-- addresses of which each is held once differ
pub different_by_count : (fs : List Fixed) → ((x : Addr) → count_by (λ (f : Fixed). addr_eq f.address x) fs ≤ 1) → are_different (addresses_of fs) ≡ true
different_by_count [] once = refl
different_by_count (f ∷ fs) once =
    both_and (not (is_in (addresses_of fs) f.address)) _
    (ap not (any-none (λ y. addr_eq y f.address) (addresses_of fs) (λ k y at.
    let r = map_get (λ (g : Fixed). g.address) fs k y at in
    let zeros = uncounted (λ (g : Fixed). addr_eq g.address f.address) f fs (once f.address) (addr_itself f.address) in
    subst (λ z. addr_eq z f.address ≡ false) r.2 (none-any (λ (g : Fixed). addr_eq g.address f.address) fs (none-counted (λ (g : Fixed). addr_eq g.address f.address) fs zeros) k r.0 r.1))))
    (different_by_count fs (λ x. omega (arith, once x, sum_by-cons (λ (g : Fixed). cond {A = ℕ} (addr_eq g.address x) 1 0) f fs)))

-- two of a list that differs, the second behind the first
pub later_differs : (f : Fixed) (fs : List Fixed) → are_different (addresses_of (f ∷ fs)) ≡ true → (k : ℕ) (g : Fixed) → slice_get fs k ≡ Some g → addr_eq g.address f.address ≡ false
later_differs f fs h k g at =
    none-any (λ y. addr_eq y f.address) (addresses_of fs) (not_true _ (and_both (not (is_in (addresses_of fs) f.address)) (are_different (addresses_of fs)) h).0) k g.address (get_map (λ (g : Fixed). g.address) fs k g at)

module _ (rows : RowLists) (c : IsConsistent rows) (k : ℕ) (p : PortRow) (at : slice_get rows.ports k ≡ Some p) (no_interface : is_interface p.owner ≡ false) where
  abbrev pub subnets : List SubnetRow
  subnets = subnets_on rows.subnets p.network

  pub old_fits : Each (Fits subnets p.mac) p.fixed
  old_fits m f at_f =
      let joined = both_of (λ (t : SubnetRow). ident_eq f.subnet t.id) (λ t. ident_eq t.network p.network) (λ t. is_host_of t.prefix f.address && is_own_address p f.address t) rows.subnets (omega (arith, c.numbered.ids f.subnet))
      (all-at (names_subnet rows.subnets p) p.fixed (c.named.subnets.of_ports k p at) m f at_f)
      (all-at (is_host_in rows.subnets p) p.fixed (c.hosts.addresses k p at) m f at_f) in
      let row = any-at (λ (t : SubnetRow). ident_eq f.subnet t.id && (ident_eq t.network p.network && (is_host_of t.prefix f.address && is_own_address p f.address t))) rows.subnets joined in
      let t : SubnetRow = row.1 in
      let first = and_both (ident_eq f.subnet t.id) _ row.3 in
      let second = and_both (ident_eq t.network p.network) _ first.1 in
      let third = and_both (is_host_of t.prefix f.address) _ second.1 in
      let near = filter_has (λ (s : SubnetRow). ident_eq p.network s.network) rows.subnets row.0 t row.2 (ident_sym t.network p.network second.0) in
      record {
        place = near.0;
        row = t;
        at = near.1;
        id = ident_same f.subnet t.id first.0;
        named = both_and _ _ third.0 (or_weaker (not (is_eui t)) _ _ (λ h. own (addr_eq f.address (eui t.prefix p.mac)) (is_some_so (addr_eq f.address) t.gateway) h) third.1);
      }
    where
      own : (a b : Bool) → a || (is_interface p.owner && b) ≡ true → a ≡ true
      own true b h = refl
      own false b h = false_true _ (sym (first_fails (is_interface p.owner) b no_interface) ∙ h)

  pub old_differ : are_different (addresses_of p.fixed) ≡ true
  old_differ = different_by_count p.fixed (holds_once rows c k p at)

  -- with another MAC address
  module _ (mac : ℕ) (prefixes : Each (λ s. IsPrefix s.prefix) rows.subnets) (small : mac < 2 ^ 48) where
    abbrev again : Fixed → Fixed
    again f = renewed p.mac mac f (row_of (λ (s : SubnetRow). s.id) f.subnet subnets)

    once : (i : Ident) → times (λ (s : SubnetRow). s.id) i subnets ≤ 1
    once = on_network_once rows p.network c

    -- the subnet of an address is found
    found_row : (f : Fixed) (fit : Fits subnets p.mac f) → row_of (λ (s : SubnetRow). s.id) f.subnet subnets ≡ Some fit.row
    found_row f fit = by (row_of (λ (s : SubnetRow). s.id) f.subnet subnets) refl
      where
        mine : ident_eq f.subnet fit.row.id ≡ true
        mine = ap (ident_eq f.subnet) (sym fit.id) ∙ ident_itself f.subnet

        by : (o : Option SubnetRow) → row_of (λ (s : SubnetRow). s.id) f.subnet subnets ≡ o → o ≡ Some fit.row
        by None e = false_true _ (sym (unfound (λ (s : SubnetRow). ident_eq f.subnet s.id) subnets e fit.place fit.row fit.at) ∙ mine)
        by (Some s) e =
            let r = found_at (λ (s : SubnetRow). ident_eq f.subnet s.id) subnets s e in
            ap Some (one_row (λ (s : SubnetRow). ident_eq f.subnet s.id) subnets (once f.subnet) r.0 fit.place s fit.row r.1 fit.at r.2 mine)

    -- an address of a subnet without such addresses stays, and the others are renewed
    stays : (f : Fixed) (fit : Fits subnets p.mac f) → is_eui fit.row ≡ false → again f ≡ f
    stays f fit plain = ap (renewed p.mac mac f) (found_row f fit) ∙ ap (λ b. if b && addr_eq f.address (eui fit.row.prefix p.mac) then eui_fixed mac fit.row else f) plain

    renews : (f : Fixed) (fit : Fits subnets p.mac f) → is_eui fit.row ≡ true → (again f ≡ eui_fixed mac fit.row) × (f.address ≡ eui fit.row.prefix p.mac)
    renews f fit is =
        let named = must (is_eui fit.row) _ is (and_both (is_host_of fit.row.prefix f.address) _ fit.named).1 in
        (ap (renewed p.mac mac f) (found_row f fit) ∙ ap (λ b. if b then eui_fixed mac fit.row else f) (both_and _ _ is named), addr_same f.address (eui fit.row.prefix p.mac) named)

    fit_again : (f : Fixed) → Fits subnets p.mac f → Fits subnets mac (again f)
    fit_again f fit = by (is_eui fit.row) refl
      where
        by : (b : Bool) → is_eui fit.row ≡ b → Fits subnets mac (again f)
        by true is = subst (Fits subnets mac) (sym (renews f fit is).0) (record {
          place = fit.place;
          row = fit.row;
          at = fit.at;
          id = refl;
          named = eui_named subnets mac (around_prefixes rows p.network c mac prefixes small) (around_forms rows p.network c mac prefixes small) once small fit.place fit.row fit.at is;
        })
        by false plain = subst (Fits subnets mac) (sym (stays f fit plain)) (record {
          place = fit.place;
          row = fit.row;
          at = fit.at;
          id = fit.id;
          named = both_and _ _ (and_both (is_host_of fit.row.prefix f.address) _ fit.named).0 (ap (λ b. not b || addr_eq f.address (eui fit.row.prefix mac)) plain);
        })

    -- it stays in its subnet
    same_subnet : (f : Fixed) → Fits subnets p.mac f → (again f).subnet ≡ f.subnet
    same_subnet f fit = by (is_eui fit.row) refl
      where
        by : (b : Bool) → is_eui fit.row ≡ b → (again f).subnet ≡ f.subnet
        by true is = ap (λ (g : Fixed). g.subnet) (renews f fit is).0 ∙ sym fit.id
        by false plain = ap (λ (g : Fixed). g.subnet) (stays f fit plain)

    -- two addresses that differed still do
    differ_again : (f g : Fixed) → Fits subnets p.mac f → Fits subnets p.mac g → addr_eq g.address f.address ≡ false → addr_eq (again g).address (again f).address ≡ false
    differ_again f g a b differs = by_test (ident_eq g.subnet f.subnet) (addr_eq (again g).address (again f).address ≡ false)
        (λ same.
        let one : b.row ≡ a.row = one_row (λ (s : SubnetRow). ident_eq g.subnet s.id) subnets (once g.subnet) b.place a.place b.row a.row b.at a.at
        (ap (ident_eq g.subnet) (sym b.id) ∙ ident_itself g.subnet) (subst (λ i. ident_eq g.subnet i ≡ true) a.id same) in
        by one (is_eui a.row) refl)
        (λ other. hosts_apart rows p.network c mac mac (again g) (again f) (fit_again g b) (fit_again f a) ((λ j. ident_eq (same_subnet g b j) (same_subnet f a j)) ∙ other))
      where
        by : b.row ≡ a.row → (e : Bool) → is_eui a.row ≡ e → addr_eq (again g).address (again f).address ≡ false
        by one true is =
            let first = (renews f a is).1 in
            let second = (renews g b (ap is_eui one ∙ is)).1 in
            let equal : g.address ≡ f.address = second ∙ (ap (λ (s : SubnetRow). eui s.prefix p.mac) one ∙ sym first) in
            false_true _ (sym differs ∙ (ap (λ x. addr_eq x f.address) equal ∙ addr_itself f.address))
        by one false plain = (λ j. addr_eq (stays g b (ap is_eui one ∙ plain) j).address (stays f a plain j).address) ∙ differs

    pub renewed_fit : Each (Fits subnets mac) (old_renewed subnets p mac)
    renewed_fit = each_map (Fits subnets p.mac) (Fits subnets mac) again p.fixed fit_again old_fits

    pub renewed_differ : are_different (addresses_of (old_renewed subnets p mac)) ≡ true
    renewed_differ = by p.fixed old_fits old_differ
      where
        by : (fs : List Fixed) → Each (Fits subnets p.mac) fs → are_different (addresses_of fs) ≡ true → are_different (addresses_of (map again fs)) ≡ true
        by [] fits h = refl
        by (f ∷ fs) fits h =
            both_and (not (is_in (addresses_of (map again fs)) (again f).address)) _
            (ap not (any-none (λ y. addr_eq y (again f).address) (addresses_of (map again fs)) (λ m y at_y.
            let r = map_get (λ (g : Fixed). g.address) (map again fs) m y at_y in
            let s = map_get again fs m r.0 r.1 in
            subst (λ z. addr_eq z (again f).address ≡ false) (ap (λ (g : Fixed). g.address) s.2 ∙ r.2)
            (differ_again f s.0 (fits 0 f refl) (fits (suc m) s.0 s.1) (later_differs f fs h m s.0 s.1)))))
            (by fs (each_tail (Fits subnets p.mac) f fs fits) (and_both _ _ h).1)

-- an equal MAC address changes nothing
pub same_renewed : (near : List SubnetRow) (mac : ℕ) (fixed : List Fixed) → all_renewed near mac mac fixed ≡ fixed
same_renewed near mac [] = refl
same_renewed near mac (f ∷ fixed) = λ j. one (row_of (λ (s : SubnetRow). s.id) f.subnet near) refl j ∷ same_renewed near mac fixed j
  where
    one : (o : Option SubnetRow) → row_of (λ (s : SubnetRow). s.id) f.subnet near ≡ o → renewed mac mac f o ≡ f
    one None e = refl
    one (Some s) e = by (is_eui s) (addr_eq f.address (eui s.prefix mac)) refl
      where
        by : (a b : Bool) → addr_eq f.address (eui s.prefix mac) ≡ b → (if a && b then eui_fixed mac s else f) ≡ f
        by true true h =
            let r = found_at (λ (t : SubnetRow). ident_eq f.subnet t.id) near s e in
            let i = ident_same f.subnet s.id r.2 in
            let x = addr_same f.address (eui s.prefix mac) h in
            λ j. record { subnet = sym i j; address = sym x j }
        by true false h = refl
        by false b h = refl
