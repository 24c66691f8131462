-- Keys of rows: equal where the rows hold the same, and so held once where they are distinct.
use Rattle.std.proofs.Common.{◌≡◌, ◌≤◌, ◌∙◌, ◌++◌, ℕ, ◌+◌, ◌*◌, ◌^◌, List, [], ◌∷◌, Bool, true, false, cond, Option, Some, None, map, refl, ap, sym, arith, flat_map}
use Rattle.std.specs.Prelude.{◌==◌, ◌&&◌, count_by, sum_by, option_map, if◌then◌else◌}
use Rattle.std.specs.List.{IsDistinct, cons_option, filter_map}
use Rattle.std.specs.Str.{bytes_eq}
use Rattle.std.proofs.lemmas.Bool.Decides.{nat_tests, Decides-eqb}
use Rattle.std.proofs.lemmas.List.Sums.{sum_by-cons, sum_by-append}
use Rattle.net_addr.specs.Addresses.{addr_eq, number}
use Rattle.net_addr.specs.declared.address.Addr.{Addr}
use Rattle.net_addr.proofs.AddrLemmas.{addr_same}
use Rattle.api_types.specs.Ident.{Ident}
use Rattle.api_types.specs.Table.{ident_eq}
use Rattle.api_types.specs.RowLists.{RowLists}
use Rattle.api_types.specs.Lists.{is_some_so, times}
use Rattle.api_types.specs.Registration.{is_named}
use Rattle.api_types.specs.Owners.{is_dhcp, is_dhcp_of}
use Rattle.api_types.specs.Consistent.Numbered.{times_in}
use Rattle.api_types.specs.Consistent.HeldOnce.{has_mac, holds_times}
use Rattle.api_types.specs.Consistent.Segments.{same_segment}
use Rattle.api_types.specs.Consistent.Floating.{stands_for}
use Rattle.api_types.specs.Consistent.Groups.{is_default_of}
use Rattle.api_types.specs.Consistent.Permitted.{same_policy}
use Rattle.api_types.specs.Sharing.{is_action}
use Rattle.api_types.specs.declared.project.ProjectRow.{ProjectRow}
use Rattle.api_types.specs.declared.network.NetworkRow.{NetworkRow}
use Rattle.api_types.specs.declared.network.Segment.{Segment}
use Rattle.api_types.specs.declared.network.Segment.TheVariants.{Local, Flat, Vlan, Vxlan}
use Rattle.api_types.specs.declared.port.PortRow.{PortRow}
use Rattle.api_types.specs.declared.port.Fixed.{Fixed}
use Rattle.api_types.specs.declared.group.GroupRow.{GroupRow}
use Rattle.api_types.specs.declared.floating.FloatingRow.{FloatingRow}
use Rattle.api_types.specs.declared.floating.Target.{Target}
use Rattle.api_types.specs.declared.policy.PolicyRow.{PolicyRow}
use Rattle.api_types.specs.declared.policy.Action.{Action}
use Rattle.api_types.specs.declared.policy.Action.TheVariants.{Shared, External}
use Rattle.api_types.proofs.ListLemmas.{and_both, false_true, none_some, some_equal}
use Rattle.api_types.proofs.NameLemmas.{ident_same, bytes_same, by_test}
use Rattle.api_consistency.specs.Stretches.{meet}
use Rattle.api_consistency.specs.Numbers.{id_number, mixed, version_group, single}
use Rattle.api_consistency.specs.Keys.{of_name, of_id, of_ids, of_mac, of_fixed, of_segment, of_dhcp, of_own_port, of_target, of_default, of_policy, action_number}
use Rattle.api_consistency.specs.declared.stretch.Stretch.{Stretch}
use Rattle.api_consistency.proofs.OnceLemmas.{counts_one, counts_none, once, key_once, weighed, counted}

equal : (a b : ℕ) → (a == b) ≡ true → a ≡ b
equal a b h = (Decides-eqb a b).0 h

-- two of one number meet
meets_itself : (g n : ℕ) → meet (single g n) (single g n) ≡ true
meets_itself g n = grind (arith, nat_tests)

pub met : (g n : ℕ) (a b : Stretch) → a ≡ single g n → b ≡ single g n → meet a b ≡ true
met g n a b p q = (λ j. meet (p j) (q j)) ∙ meets_itself g n

-- whether a stretch is that of one number
abbrev pub is_single : ℕ → ℕ → Stretch → Bool
is_single g n s = (s.group == g) && ((s.first == n) && (s.last == n))

singles_meet : (g n : ℕ) (a b : Stretch) → is_single g n a ≡ true → is_single g n b ≡ true → meet a b ≡ true
singles_meet g n a b h k = grind (arith, nat_tests)

single_itself : (g n : ℕ) → is_single g n (single g n) ≡ true
single_itself g n = grind (arith, nat_tests)

single_is : (g n : ℕ) (s : Stretch) → s ≡ single g n → is_single g n s ≡ true
single_is g n s e = ap (is_single g n) e ∙ single_itself g n

-- distinct stretches have one of a number at most
pub single_once : (g n : ℕ) (xs : List Stretch) → IsDistinct meet xs → count_by (is_single g n) xs ≤ 1
single_once g n xs h = key_once meet (is_single g n) (singles_meet g n) xs h

-- projects' names

pub names_once : (projects : List ProjectRow) → IsDistinct meet (map of_name projects) → (name : List ℕ) → count_by (is_named name) projects ≤ 1
names_once projects h name = once meet of_name (is_named name) (λ p q hp hq. met 0 (mixed 0 name) (of_name p) (of_name q) (key p hp) (key q hq)) projects h
  where
    key : (p : ProjectRow) → is_named name p ≡ true → of_name p ≡ single 0 (mixed 0 name)
    key p h = ap (λ (t : List ℕ). single 0 (mixed 0 t)) (bytes_same p.name name h)

-- ids

module _ (rows : RowLists) (h : IsDistinct meet (of_ids rows)) (i : Ident) where
  here : {R : Type 0} (id_of : R → Ident) (xs : List R) → times id_of i xs ≤ count_by (is_single 0 (id_number i)) (map (λ r. of_id (id_of r)) xs)
  here id_of xs = counted (λ r. of_id (id_of r)) (λ r. ident_eq i (id_of r)) (is_single 0 (id_number i))
      (λ r same. single_is 0 (id_number i) (of_id (id_of r)) (ap of_id (sym (ident_same i (id_of r) same)))) xs

  both : (xs ys : List Stretch) → count_by (is_single 0 (id_number i)) (xs ++ ys) ≡ count_by (is_single 0 (id_number i)) xs + count_by (is_single 0 (id_number i)) ys
  both xs ys = sum_by-append (λ s. cond {A = ℕ} (is_single 0 (id_number i) s) 1 0) xs ys

  pub ids_once : times_in rows i ≤ 1
  ids_once =
      let a = map (λ r. of_id r.id) rows.networks in
      let b = map (λ r. of_id r.id) rows.subnets in
      let c = map (λ r. of_id r.id) rows.ports in
      let d = map (λ r. of_id r.id) rows.groups in
      let e = map (λ r. of_id r.id) rows.rules in
      let f = map (λ r. of_id r.id) rows.routers in
      let g = map (λ r. of_id r.id) rows.floatings in
      let k = map (λ r. of_id r.id) rows.policies in
      let s2 = both a b in
      let s3 = both (a ++ b) c in
      let s4 = both ((a ++ b) ++ c) d in
      let s5 = both (((a ++ b) ++ c) ++ d) e in
      let s6 = both ((((a ++ b) ++ c) ++ d) ++ e) f in
      let s7 = both (((((a ++ b) ++ c) ++ d) ++ e) ++ f) g in
      let s8 = both ((((((a ++ b) ++ c) ++ d) ++ e) ++ f) ++ g) k in
      let all = single_once 0 (id_number i) (of_ids rows) h in
      omega (
        arith,
        s2,
        s3,
        s4,
        s5,
        s6,
        s7,
        s8,
        all,
        here (λ r. r.id) rows.networks,
        here (λ r. r.id) rows.subnets,
        here (λ r. r.id) rows.ports,
        here (λ r. r.id) rows.groups,
        here (λ r. r.id) rows.rules,
        here (λ r. r.id) rows.routers,
        here (λ r. r.id) rows.floatings,
        here (λ r. r.id) rows.policies,
      )

-- MACs and addresses

module _ (ports : List PortRow) where
  pub macs_once : IsDistinct meet (map of_mac ports) → (network : Ident) (mac : ℕ) → count_by (has_mac network mac) ports ≤ 1
  macs_once h network mac = once meet of_mac (has_mac network mac) (λ p q hp hq. met (id_number network) mac (of_mac p) (of_mac q) (key p hp) (key q hq)) ports h
    where
      key : (p : PortRow) → has_mac network mac p ≡ true → of_mac p ≡ single (id_number network) mac
      key p h =
          let parts = and_both (ident_eq network p.network) (p.mac == mac) h in
          let n : network ≡ p.network = ident_same network p.network parts.0 in
          let m : p.mac ≡ mac = equal p.mac mac parts.1 in
          λ j. single (id_number (sym n j)) (m j)

  pub addresses_once : IsDistinct meet (flat_map (λ (p : PortRow). map (of_fixed p.network) p.fixed) ports) → (network : Ident) (x : Addr) → sum_by (holds_times network x) ports ≤ 1
  addresses_once h network x =
      let g = version_group (id_number network) x in
      let all = single_once g (number x) (flat_map (λ (p : PortRow). map (of_fixed p.network) p.fixed) ports) h in
      let few = weighed (holds_times network x) (λ (p : PortRow). map (of_fixed p.network) p.fixed) (is_single g (number x)) each ports in
      omega (arith, all, few)
    where
      key : (p : PortRow) → network ≡ p.network → (f : Fixed) → addr_eq f.address x ≡ true → is_single (version_group (id_number network) x) (number x) (of_fixed p.network f) ≡ true
      key p n f same =
          let e : f.address ≡ x = addr_same f.address x same in
          single_is (version_group (id_number network) x) (number x) (of_fixed p.network f) (λ j. single (version_group (id_number (sym n j)) (e j)) (number (e j)))

      none : (p : PortRow) → ident_eq network p.network ≡ false → holds_times network x p ≡ 0
      none p e = ap (λ b. cond b (count_by (λ (f : Fixed). addr_eq f.address x) p.fixed) 0) e

      some : (p : PortRow) → ident_eq network p.network ≡ true → holds_times network x p ≡ count_by (λ (f : Fixed). addr_eq f.address x) p.fixed
      some p e = ap (λ b. cond b (count_by (λ (f : Fixed). addr_eq f.address x) p.fixed) 0) e

      each : (p : PortRow) → holds_times network x p ≤ count_by (is_single (version_group (id_number network) x) (number x)) (map (of_fixed p.network) p.fixed)
      each p = by_test (ident_eq network p.network) (holds_times network x p ≤ count_by (is_single (version_group (id_number network) x) (number x)) (map (of_fixed p.network) p.fixed))
          (λ is. omega (arith, some p is, counted (of_fixed p.network) (λ (f : Fixed). addr_eq f.address x) (is_single (version_group (id_number network) x) (number x)) (key p (ident_same network p.network is)) p.fixed))
          (λ fails. omega (arith, none p fails))

-- rows of which some have a key: at most one passes a test, where all that pass have one number
module _ {R : Type 0} (key : R → Option Stretch) (test : R → Bool) (g n : ℕ) (same : (x : R) → test x ≡ true → key x ≡ Some (single g n)) where
  some_counted : (xs : List R) → count_by test xs ≤ count_by (is_single g n) (filter_map key xs)
  some_counted [] = omega arith
  some_counted (x ∷ xs) = by (key x) refl (some_counted xs)
    where
      by : (o : Option Stretch) → key x ≡ o → count_by test xs ≤ count_by (is_single g n) (filter_map key xs) → count_by test (x ∷ xs) ≤ count_by (is_single g n) (cons_option o (filter_map key xs))
      by None e rest = by_test (test x) (count_by test (x ∷ xs) ≤ count_by (is_single g n) (filter_map key xs))
          (λ passes. none_some (single g n) _ (sym e ∙ same x passes))
          (λ fails. omega (arith, counts_none test x xs fails, rest))
      by (Some s) e rest =
          let more : count_by (is_single g n) (filter_map key xs) ≤ count_by (is_single g n) (s ∷ filter_map key xs) = omega (arith, sum_by-cons (λ t. cond {A = ℕ} (is_single g n t) 1 0) s (filter_map key xs)) in
          by_test (test x) (count_by test (x ∷ xs) ≤ count_by (is_single g n) (s ∷ filter_map key xs))
          (λ passes. omega (arith, counts_one test x xs passes, counts_one (is_single g n) s (filter_map key xs) (single_is g n s (some_equal s (single g n) (sym e ∙ same x passes))), rest))
          (λ fails. omega (arith, counts_none test x xs fails, rest, more))

  pub some_once : (xs : List R) → IsDistinct meet (filter_map key xs) → count_by test xs ≤ 1
  some_once xs h = omega (arith, some_counted xs, single_once g n (filter_map key xs) h)

-- segments

abbrev segment_group : Segment → ℕ
segment_group Local = 0
segment_group (Flat physical) = 0
segment_group (Vlan physical tag) = 2 + tag
segment_group (Vxlan n) = 1

abbrev segment_number : Segment → ℕ
segment_number Local = 0
segment_number (Flat physical) = mixed 0 physical
segment_number (Vlan physical tag) = mixed 0 physical
segment_number (Vxlan n) = n

segment_key : (s t : Segment) → same_segment s t ≡ true → of_segment t ≡ Some (single (segment_group s) (segment_number s))
segment_key (Flat a) (Flat b) h = ap (λ (t : List ℕ). Some (single 0 (mixed 0 t))) (sym (bytes_same a b h))
segment_key (Vlan a s) (Vlan b t) h =
    let parts = and_both (bytes_eq a b) (s == t) h in
    let text : a ≡ b = bytes_same a b parts.0 in
    let tag : s ≡ t = equal s t parts.1 in
    λ j. Some (single (2 + sym tag j) (mixed 0 (sym text j)))
segment_key (Vxlan m) (Vxlan n) h = ap (λ (k : ℕ). Some (single 1 k)) (sym (equal m n h))
segment_key Local Local h = cc
segment_key Local (Flat b) h = cc
segment_key Local (Vlan b t) h = cc
segment_key Local (Vxlan n) h = cc
segment_key (Flat a) Local h = cc
segment_key (Flat a) (Vlan b t) h = cc
segment_key (Flat a) (Vxlan n) h = cc
segment_key (Vlan a s) Local h = cc
segment_key (Vlan a s) (Flat b) h = cc
segment_key (Vlan a s) (Vxlan n) h = cc
segment_key (Vxlan m) Local h = cc
segment_key (Vxlan m) (Flat b) h = cc
segment_key (Vxlan m) (Vlan b t) h = cc

pub segments_once : (networks : List NetworkRow) → IsDistinct meet (filter_map (λ (n : NetworkRow). of_segment n.segment) networks) → (s : Segment) → count_by (λ (n : NetworkRow). same_segment s n.segment) networks ≤ 1
segments_once networks h s = some_once (λ (n : NetworkRow). of_segment n.segment) (λ (n : NetworkRow). same_segment s n.segment) (segment_group s) (segment_number s) (λ n is. segment_key s n.segment is) networks h

-- networks with a DHCP port

dhcp_key : (network : Ident) (p : PortRow) → is_dhcp_of network p ≡ true → of_dhcp p ≡ Some (single 0 (id_number network))
dhcp_key network p is =
    let parts = and_both (ident_eq network p.network) (is_dhcp p.owner) is in
    ap (λ (b : Bool). if b then Some (single 0 (id_number p.network)) else None) parts.1
    ∙ ap (λ (i : Ident). Some (single 0 (id_number i))) (sym (ident_same network p.network parts.0))

pub dhcp_once : (ports : List PortRow) → IsDistinct meet (filter_map of_dhcp ports) → (network : Ident) → count_by (is_dhcp_of network) ports ≤ 1
dhcp_once ports h network = some_once of_dhcp (is_dhcp_of network) 0 (id_number network) (dhcp_key network) ports h

-- floating addresses

pub own_ports_once : (floatings : List FloatingRow) → IsDistinct meet (map of_own_port floatings) → (i : Ident) → count_by (λ (f : FloatingRow). ident_eq i f.own_port) floatings ≤ 1
own_ports_once floatings h i = once meet of_own_port (λ (f : FloatingRow). ident_eq i f.own_port) (λ f g hf hg. met 0 (id_number i) (of_own_port f) (of_own_port g) (key f hf) (key g hg)) floatings h
  where
    key : (f : FloatingRow) → ident_eq i f.own_port ≡ true → of_own_port f ≡ single 0 (id_number i)
    key f is = ap of_id (sym (ident_same i f.own_port is))

target_key : (network port : Ident) (x : ℕ) (f : FloatingRow) → stands_for network port x f ≡ true → of_target f ≡ Some (single (id_number network) (id_number port * 2 ^ 32 + x))
target_key network port x f is = by f.target refl
  where
    parts : (ident_eq network f.network ≡ true) × (is_some_so (λ (t : Target). ident_eq port t.port && (t.fixed == x)) f.target ≡ true)
    parts = and_both (ident_eq network f.network) (is_some_so (λ (t : Target). ident_eq port t.port && (t.fixed == x)) f.target) is

    by : (o : Option Target) → f.target ≡ o → of_target f ≡ Some (single (id_number network) (id_number port * 2 ^ 32 + x))
    by None e = false_true _ (sym (ap (is_some_so (λ (t : Target). ident_eq port t.port && (t.fixed == x))) e) ∙ parts.1)
    by (Some t) e =
        let both = and_both (ident_eq port t.port) (t.fixed == x) (sym (ap (is_some_so (λ (t : Target). ident_eq port t.port && (t.fixed == x))) e) ∙ parts.1) in
        let n : network ≡ f.network = ident_same network f.network parts.0 in
        let p : port ≡ t.port = ident_same port t.port both.0 in
        let q : t.fixed ≡ x = equal t.fixed x both.1 in
        ap (option_map (λ (t : Target). single (id_number f.network) (id_number t.port * 2 ^ 32 + t.fixed))) e
        ∙ (λ j. Some (single (id_number (sym n j)) (id_number (sym p j) * 2 ^ 32 + q j)))

pub targets_once : (floatings : List FloatingRow) → IsDistinct meet (filter_map of_target floatings) → (network port : Ident) (x : ℕ) → count_by (stands_for network port x) floatings ≤ 1
targets_once floatings h network port x = some_once of_target (stands_for network port x) (id_number network) (id_number port * 2 ^ 32 + x) (target_key network port x) floatings h

-- default groups

default_key : (name : List ℕ) (g : GroupRow) → is_default_of name g ≡ true → of_default g ≡ Some (single 0 (mixed 0 name))
default_key name g is =
    let parts = and_both g.is_default (bytes_eq g.project name) is in
    ap (λ (b : Bool). if b then Some (single 0 (mixed 0 g.project)) else None) parts.0
    ∙ ap (λ (t : List ℕ). Some (single 0 (mixed 0 t))) (bytes_same g.project name parts.1)

pub defaults_once : (groups : List GroupRow) → IsDistinct meet (filter_map of_default groups) → (name : List ℕ) → count_by (is_default_of name) groups ≤ 1
defaults_once groups h name = some_once of_default (is_default_of name) 0 (mixed 0 name) (default_key name) groups h

-- policies

action_same : (a b : Action) → is_action a b ≡ true → a ≡ b
action_same Shared Shared h = refl
action_same External External h = refl
action_same Shared External h = cc
action_same External Shared h = cc

pub policies_once : (policies : List PolicyRow) → IsDistinct meet (map of_policy policies) → (p : PolicyRow) → count_by (same_policy p) policies ≤ 1
policies_once policies h p = once meet of_policy (same_policy p)
    (λ q r hq hr. met (id_number p.object) (mixed 0 (action_number p.action ∷ mixed 0 p.target ∷ [])) (of_policy q) (of_policy r) (key q hq) (key r hr)) policies h
  where
    key : (q : PolicyRow) → same_policy p q ≡ true → of_policy q ≡ single (id_number p.object) (mixed 0 (action_number p.action ∷ mixed 0 p.target ∷ []))
    key q is =
        let parts = and_both (ident_eq p.object q.object) (is_action p.action q.action && bytes_eq p.target q.target) is in
        let both = and_both (is_action p.action q.action) (bytes_eq p.target q.target) parts.1 in
        let o : p.object ≡ q.object = ident_same p.object q.object parts.0 in
        let a : p.action ≡ q.action = action_same p.action q.action both.0 in
        let t : p.target ≡ q.target = bytes_same p.target q.target both.1 in
        λ j. single (id_number (sym o j)) (mixed 0 (action_number (sym a j) ∷ mixed 0 (sym t j) ∷ []))
