-- What a footing tells: near networks, seen rows, and outcomes that are told alike.
use Rattle.std.proofs.Common.{◌≡◌, ℕ, List, ◌∷◌, Bool, true, false, Option, Some, None, slice_get, refl, ap, sym, ◌∙◌, arith, map, not}
use Rattle.std.specs.Prelude.{◌&&◌, ◌||◌, filter, is_some, option_map}
use Rattle.std.specs.Str.{bytes_eq}
use Rattle.api_types.specs.Consistent.{IsConsistent}
use Rattle.api_types.specs.Consistent.Carried.{is_bound}
use Rattle.api_types.specs.Ident.{Ident}
use Rattle.api_types.specs.Lists.{stands_so}
use Rattle.api_types.specs.Outcome.{Outcome}
use Rattle.api_types.specs.RowLists.{RowLists}
use Rattle.api_types.specs.Table.{ident_eq}
use Rattle.api_types.specs.declared.call.Caller.{Caller}
use Rattle.api_types.specs.declared.form.Given.{Given}
use Rattle.api_types.specs.declared.form.Given.TheVariants.{Absent, Is, Null}
use Rattle.api_types.specs.declared.network.NetworkRow.{NetworkRow}
use Rattle.api_types.specs.declared.port.PortRow.{PortRow}
use Rattle.api_types.specs.declared.refusal.Refusal.{Refusal}
use Rattle.api_types.specs.declared.subnet.SubnetRow.{SubnetRow}
use Rattle.net_settings.specs.Settings.{SettingsParts}
use Rattle.api_policy.specs.Visibility.{owns_network, seen_networks, seen_ports, seen_subnets, sees_network, sees_port, sees_subnet}
use Rattle.api_policy.specs.Networks.{subnets_of}
use Rattle.apart_laws.specs.Footing.{blank, blank_port, footing, guard, is_close, is_near, near_of}
use Rattle.api_types.specs.Given.{is_for_other, is_other, owner_of, value_or}
use Rattle.api_types.specs.Refusing.{at_name, first_refusal, needing, answer_alone, unless, when}
use Rattle.call_parts.specs.State.{State}
use Rattle.api_types.proofs.ListLemmas.{and_both, any-filter_kept, at-any, at_filter, both_and, false_true, none_some, or_none, some_equal}
use Rattle.api_types.proofs.NameLemmas.{bytes_same, count-filter, ident_itself, not_false}
use Rattle.apart_laws.proofs.ApartLemmas.{stands_there}
use Rattle.apart_laws.proofs.ListLemmas.{filter-both, name-map, name_here, or_cases, or_left, or_right}

abbrev pub network_id : NetworkRow → Ident
network_id n = n.id

abbrev pub port_id : PortRow → Ident
port_id p = p.id

-- outcomes

pub unless_alike : (o : Option Refusal) (x y : Outcome) → (o ≡ None → answer_alone x ≡ answer_alone y) → answer_alone (unless o x) ≡ answer_alone (unless o y)
unless_alike None x y same = same refl
unless_alike (Some refusal) x y same = refl

pub needing_alike : {X Y : Type 0} (refusal : Refusal) (o : Option X) (p : Option Y) (f : X → Outcome) (g : Y → Outcome) → is_some o ≡ is_some p
    → ((x : X) (y : Y) → o ≡ Some x → p ≡ Some y → answer_alone (f x) ≡ answer_alone (g y)) → answer_alone (needing refusal o f) ≡ answer_alone (needing refusal p g)
needing_alike refusal None None f g alike same = refl
needing_alike refusal None (Some y) f g alike same = false_true _ alike
needing_alike refusal (Some x) None f g alike same = false_true _ (sym alike)
needing_alike refusal (Some x) (Some y) f g alike same = same x y refl refl

-- the same where what is found is told alike by a view of it
pub needing_by : {X V : Type 0} (refusal : Refusal) (o p : Option X) (f g : X → Outcome) (view : X → V) → option_map view o ≡ option_map view p
    → ((x y : X) → o ≡ Some x → p ≡ Some y → view x ≡ view y → answer_alone (f x) ≡ answer_alone (g y)) → answer_alone (needing refusal o f) ≡ answer_alone (needing refusal p g)
needing_by refusal None None f g view alike same = refl
needing_by refusal None (Some y) f g view alike same = none_some (view y) _ alike
needing_by refusal (Some x) None f g view alike same = none_some (view x) _ (sym alike)
needing_by refusal (Some x) (Some y) f g view alike same = same x y refl refl (some_equal (view x) (view y) alike)

-- refusals in order

pub first_none : (fails : Bool) (refusal : Refusal) (rest : List (Option Refusal)) → first_refusal (when fails refusal ∷ rest) ≡ None → fails ≡ false
first_none true refusal rest h = none_some refusal _ (sym h)
first_none false refusal rest h = refl

pub rest_none : (o : Option Refusal) (rest : List (Option Refusal)) → first_refusal (o ∷ rest) ≡ None → first_refusal rest ≡ None
rest_none None rest h = h
rest_none (Some refusal) rest h = none_some refusal _ (sym h)

pub guard_same : {X : Type 0} (a b : Bool) (x y : X) → guard a x ≡ guard b y → a ≡ true → x ≡ y
guard_same true true x y h e = cc
guard_same true false x y h e = cc
guard_same false b x y h e = cc

-- a tenant makes rows for its own project

pub not_admin : (a b : Bool) → a ≡ false → not a && b ≡ false → b ≡ false
not_admin true b e h = cc
not_admin false b e h = h

name_own : (caller : Caller) (name : Given (List ℕ)) (or : List ℕ) → or ≡ caller.project → is_other caller name ≡ false → value_or or name ≡ caller.project
name_own caller Absent or e h = e
name_own caller Null or e h = e
name_own caller (Is name) or e h = bytes_same name caller.project (not_false (bytes_eq name caller.project) h)

pub owner_own : (caller : Caller) (project tenant : Given (List ℕ)) → is_for_other caller project tenant ≡ false → owner_of caller project tenant ≡ caller.project
owner_own caller project tenant h = let both = or_none (is_other caller project) (is_other caller tenant) h in
    name_own caller project (value_or caller.project tenant) (name_own caller tenant caller.project refl both.1) both.0

-- rows that are seen, and networks that are near
module _ (rows : RowLists) (caller : Caller) where
  pub seen_here : (name : Option Ident) (n : NetworkRow) → at_name network_id name (seen_networks rows caller) ≡ Some n
      → (k : ℕ) × (slice_get rows.networks k ≡ Some n) × (sees_network rows caller n ≡ true)
  seen_here name n found =
      let here = name_here network_id name (seen_networks rows caller) n found in
      at_filter (sees_network rows caller) rows.networks here.0 n here.1

  pub seen_near : (k : ℕ) (n : NetworkRow) → slice_get (seen_networks rows caller) k ≡ Some n → is_near rows caller n.id ≡ true
  seen_near k n at = or_left _ _ (at-any (λ (m : NetworkRow). ident_eq n.id m.id) (seen_networks rows caller) k n at (ident_itself n.id))

  pub named_near : (name : Option Ident) (n : NetworkRow) → at_name network_id name (seen_networks rows caller) ≡ Some n → is_near rows caller n.id ≡ true
  named_near name n found = let here = name_here network_id name (seen_networks rows caller) n found in seen_near here.0 n here.1

  -- a network that the caller owns is seen, and so is each port on it
  pub own_sees_port : (k : ℕ) (n : NetworkRow) → slice_get rows.networks k ≡ Some n → bytes_eq n.project caller.project ≡ true
      → (p : PortRow) → ident_eq p.network n.id ≡ true → sees_port rows caller p ≡ true
  own_sees_port k n at own p on = or_right _ _ (at-any (λ (m : NetworkRow). ident_eq p.network m.id && bytes_eq m.project caller.project) rows.networks k n at
      (both_and _ _ on own))

  -- the network of a port that a tenant sees is near
  pub port_near : caller.admin ≡ false → (k : ℕ) (p : PortRow) → slice_get (seen_ports rows caller) k ≡ Some p → is_near rows caller p.network ≡ true
  port_near tenant k p at =
      let here = at_filter (sees_port rows caller) rows.ports k p at in
      or_cases (bytes_eq p.project caller.project) (owns_network rows caller.project p.network) (is_near rows caller p.network ≡ true)
      (sym (ap (λ b. (b || bytes_eq p.project caller.project) || owns_network rows caller.project p.network) tenant) ∙ here.2)
      (λ mine. or_right _ _ (at-any (λ (q : PortRow). ident_eq p.network q.network && is_close rows caller.project q) rows.ports here.0 p here.1
      (both_and _ _ (ident_itself p.network) (or_left _ _ mine))))
      (λ owned. or_left _ _ (any-filter_kept (sees_network rows caller) (λ (n : NetworkRow). ident_eq p.network n.id && bytes_eq n.project caller.project) (λ (n : NetworkRow). ident_eq p.network n.id) rows.networks
      (λ m n at_n h. let both = and_both (ident_eq p.network n.id) (bytes_eq n.project caller.project) h in (or_left _ _ (or_right caller.admin _ both.1), both.0)) owned))

  -- the ports that are seen tell of each of them whether it is bound
  pub bound_here : IsConsistent rows → (k : ℕ) (p : PortRow) → slice_get (seen_ports rows caller) k ≡ Some p
      → stands_so port_id p.id (λ (q : PortRow). is_bound q.vif) (seen_ports rows caller) ≡ is_bound p.vif
  bound_here c k p at = stands_there port_id (λ (q : PortRow). is_bound q.vif) (seen_ports rows caller)
      (λ i. count-filter (sees_port rows caller) (λ (q : PortRow). ident_eq i q.id) rows.ports 1 (omega (arith, c.numbered.ids i))) k p at

  -- the subnets of a network that are printed are among those that the caller sees
  pub subnets_seen : (i : Ident) → subnets_of rows caller i ≡ map (λ (r : SubnetRow). r.id) (filter (λ (r : SubnetRow). ident_eq i r.network) (seen_subnets rows caller))
  subnets_seen i = ap (map (λ (r : SubnetRow). r.id)) (filter-both (λ (r : SubnetRow). ident_eq i r.network) (sees_subnet rows caller) rows.subnets)

module _ (settings : SettingsParts) (caller : Caller) (s t : State) (same : footing settings s caller ≡ footing settings t caller) where
  pub near_same : (i : Ident) → is_near s.rows caller i ≡ true → near_of s.rows caller.project i ≡ near_of t.rows caller.project i
  near_same i near = guard_same (is_near s.rows caller i) (is_near t.rows caller i) _ _ (ap (λ f. f.near i) same) near

  -- of two networks that differ in their number alone the same is near
  pub near_alike : (n m : NetworkRow) → is_near s.rows caller n.id ≡ true → blank n ≡ blank m → near_of s.rows caller.project n.id ≡ near_of t.rows caller.project m.id
  near_alike n m near alike = near_same n.id near ∙ ap (λ x. near_of t.rows caller.project x.id) alike

  pub subnets_same : (i : Ident) → subnets_of s.rows caller i ≡ subnets_of t.rows caller i
  subnets_same i = subnets_seen s.rows caller i ∙ (ap (λ f. map (λ (r : SubnetRow). r.id) (filter (λ (r : SubnetRow). ident_eq i r.network) f.subnets)) same ∙ sym (subnets_seen t.rows caller i))

  -- the same networks are found, but for their numbers
  pub named_same : (name : Option Ident)
      → option_map blank (at_name network_id name (seen_networks s.rows caller)) ≡ option_map blank (at_name network_id name (seen_networks t.rows caller))
  named_same name = sym (name-map blank network_id network_id (λ r. refl) name (seen_networks s.rows caller))
      ∙ (ap (λ f. at_name network_id name f.networks) same
      ∙ name-map blank network_id network_id (λ r. refl) name (seen_networks t.rows caller))

  -- the same ports are seen, but for their hosts and bindings, and the same of them are bound
  pub ports_same : (name : Option Ident)
      → option_map blank_port (at_name port_id name (seen_ports s.rows caller)) ≡ option_map blank_port (at_name port_id name (seen_ports t.rows caller))
  ports_same name = sym (name-map blank_port port_id port_id (λ r. refl) name (seen_ports s.rows caller))
      ∙ (ap (λ f. at_name port_id name f.ports) same
      ∙ name-map blank_port port_id port_id (λ r. refl) name (seen_ports t.rows caller))

  pub bound_same : IsConsistent s.rows → IsConsistent t.rows → (k l : ℕ) (p q : PortRow) → slice_get (seen_ports s.rows caller) k ≡ Some p → slice_get (seen_ports t.rows caller) l ≡ Some q
      → blank_port p ≡ blank_port q → is_bound p.vif ≡ is_bound q.vif
  bound_same c d k l p q at_s at_t alike = sym (bound_here s.rows caller c k p at_s)
      ∙ (ap (λ f. f.bound p.id) same
      ∙ (ap (λ (x : PortRow). stands_so port_id x.id (λ (r : PortRow). is_bound r.vif) (seen_ports t.rows caller)) alike
      ∙ bound_here t.rows caller d l q at_t))

  -- what goes on with a named network is told alike, where it is so for two networks that differ in their number alone
  pub named_alike : (refusal : Refusal) (name : Option Ident) (f g : NetworkRow → Outcome)
      → ((n m : NetworkRow) → at_name network_id name (seen_networks s.rows caller) ≡ Some n → at_name network_id name (seen_networks t.rows caller) ≡ Some m
      → blank n ≡ blank m → answer_alone (f n) ≡ answer_alone (g m))
      → answer_alone (needing refusal (at_name network_id name (seen_networks s.rows caller)) f) ≡ answer_alone (needing refusal (at_name network_id name (seen_networks t.rows caller)) g)
  named_alike refusal name f g here =
      needing_by refusal (at_name network_id name (seen_networks s.rows caller)) (at_name network_id name (seen_networks t.rows caller)) f g blank (named_same name) here
