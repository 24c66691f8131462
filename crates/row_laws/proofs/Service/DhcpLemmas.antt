-- A network's DHCP port is the only one there, and holds addresses in subnets that are leased alone.
use Rattle.std.proofs.Common.{◌≡◌, ◌≤◌, ◌∙◌, ℕ, List, Bool, true, false, cond, Some, slice_get, refl, ap, sym, arith, subst}
use Rattle.std.specs.Prelude.{◌&&◌, ◌||◌, count_by, sum_by}
use Rattle.std.specs.List.{list_any}
use Rattle.net_addr.specs.Addresses.{addr_eq}
use Rattle.net_addr.specs.declared.address.Addr.{Addr}
use Rattle.api_types.specs.Ident.{Ident}
use Rattle.api_types.specs.Table.{ident_eq}
use Rattle.api_types.specs.RowLists.{RowLists}
use Rattle.api_types.specs.Owners.{is_dhcp, is_dhcp_of}
use Rattle.api_types.specs.Consistent.{IsConsistent}
use Rattle.api_types.specs.Consistent.HeldOnce.{holds_times}
use Rattle.api_types.specs.Consistent.Named.{is_network, names_subnet}
use Rattle.api_types.specs.Consistent.Services.{is_leased, wants_dhcp}
use Rattle.api_types.specs.declared.network.NetworkRow.{NetworkRow}
use Rattle.api_types.specs.declared.subnet.SubnetRow.{SubnetRow}
use Rattle.api_types.specs.declared.port.PortRow.{PortRow}
use Rattle.api_types.specs.declared.port.Fixed.{Fixed}
use Rattle.row_laws.specs.Leased.{is_held}
use Rattle.api_types.proofs.ListLemmas.{and_both, any-at, both_and, both_of, count-none, false_true, none-any, none-counted, one_row, or_true, sum-none, sum-remove}
use Rattle.api_types.proofs.NameLemmas.{all-at, by_test, ident_itself, ident_same, must}

pub one_at_most : (b : Bool) (n : ℕ) → n ≡ cond b 1 0 → n ≤ 1
one_at_most true n h = omega (arith, h)
one_at_most false n h = omega (arith, h)

-- a DHCP port may hold any number of addresses
pub any_number : (a b m n d e f : Bool) → d ≡ true → a && b && (m || d) && e && f ≡ true → a && b && (n || d) && e && f ≡ true
any_number a b m n d e f is h =
    let same : n || d ≡ m || d = (λ j. n || is j) ∙ (or_true n ∙ (sym (or_true m) ∙ sym (λ j. m || is j))) in
    (λ j. a && b && same j && e && f) ∙ h

-- an address that no port of the network holds is counted nowhere
pub free_sum : (ports : List PortRow) (network : Ident) (x : Addr) → is_held ports network x ≡ false → sum_by (holds_times network x) ports ≡ 0
free_sum ports network x free = sum-none (holds_times network x) ports (λ k q at.
    let none = none-any (λ p. ident_eq network p.network && list_any (λ (f : Fixed). addr_eq f.address x) p.fixed) ports free k q at in
    by (ident_eq network q.network) q none)
  where
    by : (b : Bool) (q : PortRow) → b && list_any (λ (f : Fixed). addr_eq f.address x) q.fixed ≡ false → cond {A = ℕ} b (count_by (λ (f : Fixed). addr_eq f.address x) q.fixed) 0 ≡ 0
    by true q none = count-none (λ (f : Fixed). addr_eq f.address x) q.fixed (none-any (λ (f : Fixed). addr_eq f.address x) q.fixed none)
    by false q none = refl

module _ (rows : RowLists) (c : IsConsistent rows) where
  -- what the rows say of a network's DHCP ports, by its id
  pub dhcp_there : (i : Ident) → is_network rows.networks i ≡ true → count_by (is_dhcp_of i) rows.ports ≡ cond (wants_dhcp rows.subnets i) 1 0
  dhcp_there i stands =
      let found = any-at (λ (n : NetworkRow). ident_eq i n.id) rows.networks stands in
      let n : NetworkRow = found.1 in
      subst (λ m. count_by (is_dhcp_of m) rows.ports ≡ cond (wants_dhcp rows.subnets m) 1 0) (sym (ident_same i n.id found.3)) (c.services.dhcp.there found.0 n found.2)

  pub dhcp_once : (i : Ident) → is_network rows.networks i ≡ true → count_by (is_dhcp_of i) rows.ports ≤ 1
  dhcp_once i stands = one_at_most (wants_dhcp rows.subnets i) _ (dhcp_there i stands)

  module _ (k : ℕ) (p : PortRow) (at : slice_get rows.ports k ≡ Some p) where
    pub on_network : is_network rows.networks p.network ≡ true
    on_network = c.named.networks.of_ports k p at

    -- where its DHCP port is, a subnet is leased
    pub wanted : (i : Ident) → is_dhcp_of i p ≡ true → wants_dhcp rows.subnets i ≡ true
    wanted i is =
        let same = ident_same i p.network (and_both (ident_eq i p.network) (is_dhcp p.owner) is).0 in
        let there = dhcp_there i (subst (λ m. is_network rows.networks m ≡ true) (sym same) on_network) in
        by_test (wants_dhcp rows.subnets i) (wants_dhcp rows.subnets i ≡ true) (λ h. h)
        (λ none. let zeros : count_by (is_dhcp_of i) rows.ports ≡ 0 = there ∙ ap (λ b. cond b 1 0) none in
        false_true _ (sym (none-any (is_dhcp_of i) rows.ports (none-counted (is_dhcp_of i) rows.ports zeros) k p at) ∙ is))

    -- another DHCP port is on another network
    pub only : (i : Ident) → is_dhcp_of i p ≡ true → (l : ℕ) (q : PortRow) → slice_get rows.ports l ≡ Some q → ident_eq p.id q.id ≡ false → is_dhcp q.owner ≡ true → ident_eq i q.network ≡ false
    only i is l q at_q other dhcp =
        let same = ident_same i p.network (and_both (ident_eq i p.network) (is_dhcp p.owner) is).0 in
        let once = dhcp_once i (subst (λ m. is_network rows.networks m ≡ true) (sym same) on_network) in
        by_test (ident_eq i q.network) (ident_eq i q.network ≡ false)
        (λ there. let one = one_row (is_dhcp_of i) rows.ports once k l p q at at_q is (both_and (ident_eq i q.network) (is_dhcp q.owner) there dhcp) in
        false_true _ (sym other ∙ (ap (λ (r : PortRow). ident_eq p.id r.id) (sym one) ∙ ident_itself p.id)))
        (λ fails. fails)

    -- the subnet of an address that a DHCP port holds is leased, and is on its network
    pub is_there : is_dhcp p.owner ≡ true → (m : ℕ) (f : Fixed) → slice_get p.fixed m ≡ Some f
        → list_any (λ (s : SubnetRow). ident_eq f.subnet s.id && (ident_eq s.network p.network && s.dhcp)) rows.subnets ≡ true
    is_there dhcp m f at_f = both_of (λ (s : SubnetRow). ident_eq f.subnet s.id) (λ s. ident_eq s.network p.network) (λ s. s.dhcp) rows.subnets (omega (arith, c.numbered.ids f.subnet))
        (all-at (names_subnet rows.subnets p) p.fixed (c.named.subnets.of_ports k p at) m f at_f)
        (all-at (is_leased rows.subnets) p.fixed (must (is_dhcp p.owner) _ dhcp (c.services.dhcp.no_other k p at)) m f at_f)

    -- no address is held by it twice
    pub holds_once : (x : Addr) → count_by (λ (f : Fixed). addr_eq f.address x) p.fixed ≤ 1
    holds_once x =
        let all = c.held_once.addresses p.network x in
        let mine = sum-remove (holds_times p.network x) rows.ports k p at in
        let is : holds_times p.network x p ≡ count_by (λ (f : Fixed). addr_eq f.address x) p.fixed = λ j. cond {A = ℕ} (ident_itself p.network j) (count_by (λ (f : Fixed). addr_eq f.address x) p.fixed) 0 in
        omega (arith, all, mine, is)

    -- a port of its id is the port
    pub itself : (l : ℕ) (q : PortRow) → slice_get rows.ports l ≡ Some q → ident_eq p.id q.id ≡ true → p ≡ q
    itself l q at_q same = one_row (λ (r : PortRow). ident_eq p.id r.id) rows.ports (omega (arith, c.numbered.ids p.id)) k l p q at at_q (ident_itself p.id) same
