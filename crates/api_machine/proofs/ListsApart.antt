-- A tenant is listed the same networks and ports wherever its footing is the same.
use Rattle.std.proofs.Common.{◌≡◌, suc, ◌≤◌, List, [], ◌∷◌, Bool, true, false, cond, Option, Some, None, refl, ap, sym, ◌∙◌, arith, map, not}
use Rattle.std.specs.Prelude.{◌&&◌, filter, if◌then◌else◌}
use Rattle.api_types.specs.Consistent.{IsConsistent}
use Rattle.api_types.specs.Consistent.Carried.{is_bound}
use Rattle.api_types.specs.Ident.{Ident}
use Rattle.api_types.specs.Lists.{Each, is_some_so, stands, stands_so, times}
use Rattle.api_types.specs.Live.{is_live}
use Rattle.api_types.specs.Outcome.{Told}
use Rattle.api_types.specs.Printed.{ManyRows, NamedTree, ShownRow}
use Rattle.api_types.specs.RowLists.{RowLists}
use Rattle.api_types.specs.Table.{ident_eq}
use Rattle.api_types.specs.declared.call.Caller.{Caller}
use Rattle.api_types.specs.declared.call.IdText.{IdText}
use Rattle.api_types.specs.declared.call.Query.{Query}
use Rattle.api_types.specs.declared.kind.Kind.{Kind}
use Rattle.api_types.specs.declared.kind.Kind.TheVariants.{Network as NetworkKind, Port as PortKind}
use Rattle.api_types.specs.declared.network.NetworkRow.{NetworkRow}
use Rattle.api_types.specs.declared.port.PortRow.{PortRow}
use Rattle.api_types.specs.declared.refusal.Refusal.{Refusal}
use Rattle.net_settings.specs.Settings.{SettingsParts}
use Rattle.api_policy.specs.Visibility.{seen_networks, seen_ports, sees_network, sees_port}
use Rattle.api_policy.specs.Filtered.{meets}
use Rattle.api_policy.specs.Listed.{behind, behind_id, behind_marker, cut, has_marker, listed, listed_of}
use Rattle.api_policy.specs.Networks.{network_members}
use Rattle.api_policy.specs.Ports.{port_members}
use Rattle.api_policy.specs.Shown.{shown_as}
use Rattle.apart_laws.specs.Footing.{Near, blank, blank_port, footing, is_near}
use Rattle.api_machine.specs.Reads.{marker_text, rows_listed}
use Rattle.api_types.specs.Refusing.{not_found, answer_alone, unless, when}
use Rattle.call_parts.specs.State.{State}
use Rattle.api_types.proofs.ListLemmas.{and_both, any-at, none_some, one_row}
use Rattle.apart_laws.proofs.FootingLemmas.{bound_here, near_same, network_id, port_id, port_near, seen_near, subnets_same, unless_alike}
use Rattle.apart_laws.proofs.ListLemmas.{any-map, any-then, at_map, filter-map, filter-then, map-each, map-twice}
use Rattle.apart_laws.proofs.ShownAlike.{is_up, live_by, network_printed, port_printed, up_at}

-- the rows behind one

pub behind-map : {A B : Type 0} (change : A → B) (id_of : A → Ident) (id_of' : B → Ident) → ((x : A) → id_of' (change x) ≡ id_of x) → (i : Ident) (xs : List A)
    → behind id_of' i (map change xs) ≡ map change (behind id_of i xs)
behind-map change id_of id_of' keeps i [] = refl
behind-map change id_of id_of' keeps i (a ∷ xs) = by (ident_eq i (id_of a)) (ident_eq i (id_of' (change a))) (ap (ident_eq i) (keeps a)) (behind-map change id_of id_of' keeps i xs)
  where
    by : (b c : Bool) → c ≡ b → behind id_of' i (map change xs) ≡ map change (behind id_of i xs)
        → (if c then map change xs else behind id_of' i (map change xs)) ≡ map change (if b then xs else behind id_of i xs)
    by true c e h = ap (λ (c : Bool). if c then map change xs else behind id_of' i (map change xs)) e
    by false c e h = ap (λ (c : Bool). if c then map change xs else behind id_of' i (map change xs)) e ∙ h

-- where each row with the id is kept, what is kept behind it is behind it among the kept
pub behind-filter : {A : Type 0} (keep : A → Bool) (id_of : A → Ident) (i : Ident) (xs : List A) → Each (λ x. ident_eq i (id_of x) ≡ true → keep x ≡ true) xs
    → filter keep (behind id_of i xs) ≡ behind id_of i (filter keep xs)
behind-filter keep id_of i [] e = refl
behind-filter keep id_of i (x ∷ xs) e = by (ident_eq i (id_of x)) refl (keep x) refl (behind-filter keep id_of i xs (λ k y at. e (suc k) y at))
  where
    first : (b : Bool) → ident_eq i (id_of x) ≡ b → behind id_of i (x ∷ filter keep xs) ≡ (if b then filter keep xs else behind id_of i (filter keep xs))
    first b f = ap (λ (b : Bool). if b then filter keep xs else behind id_of i (filter keep xs)) f

    by : (b : Bool) → ident_eq i (id_of x) ≡ b → (c : Bool) → keep x ≡ c → filter keep (behind id_of i xs) ≡ behind id_of i (filter keep xs)
        → filter keep (if b then xs else behind id_of i xs) ≡ behind id_of i (cond c (x ∷ filter keep xs) (filter keep xs))
    by true f true g h = sym (first true f)
    by true f false g h = let clash : true ≡ false = sym (e 0 x refl f) ∙ g in cc
    by false f true g h = h ∙ sym (first false f)
    by false f false g h = h

pub each-behind : {A : Type 0} (P : A → Type 0) (id_of : A → Ident) (i : Ident) (xs : List A) → Each P xs → Each P (behind id_of i xs)
each-behind P id_of i [] e = e
each-behind P id_of i (x ∷ xs) e = by (ident_eq i (id_of x)) (each-behind P id_of i xs (λ k y at. e (suc k) y at))
  where
    by : (b : Bool) → Each P (behind id_of i xs) → Each P (if b then xs else behind id_of i xs)
    by true rest = λ k y at. e (suc k) y at
    by false rest = rest

-- the same behind a marker, which is seen where it is no cause of refusal

pub marker-map : {A B : Type 0} (change : A → B) (id_of : A → Ident) (id_of' : B → Ident) → ((x : A) → id_of' (change x) ≡ id_of x) → (marker : Option IdText) (xs : List A)
    → behind_marker id_of' marker (map change xs) ≡ map change (behind_marker id_of marker xs)
marker-map change id_of id_of' keeps None xs = refl
marker-map change id_of id_of' keeps (Some m) xs = by m.id
  where
    by : (name : Option Ident) → behind_id id_of' name (map change xs) ≡ map change (behind_id id_of name xs)
    by None = refl
    by (Some i) = behind-map change id_of id_of' keeps i xs

pub marker-filter : {A : Type 0} (keep : A → Bool) (id_of : A → Ident) (xs : List A) → ((i : Ident) → times id_of i xs ≤ 1) → (m : IdText) → is_some_so (λ i. stands_so id_of i keep xs) m.id ≡ true
    → filter keep (behind_id id_of m.id xs) ≡ behind_id id_of m.id (filter keep xs)
marker-filter {A} keep id_of xs once m seen = by m.id seen
  where
    by : (name : Option Ident) → is_some_so (λ i. stands_so id_of i keep xs) name ≡ true → filter keep (behind_id id_of name xs) ≡ behind_id id_of name (filter keep xs)
    by None h = refl
    by (Some i) h = behind-filter keep id_of i xs (λ k x at same. let r = any-at (λ y. ident_eq i (id_of y) && keep y) xs h in
        let y : A = r.1 in let both = and_both (ident_eq i (id_of y)) (keep y) r.3 in
        ap keep (one_row (λ y. ident_eq i (id_of y)) xs (once i) k r.0 x y at r.2 same both.0) ∙ both.1)

marker-each : {A : Type 0} (P : A → Type 0) (id_of : A → Ident) (marker : Option IdText) (xs : List A) → Each P xs → Each P (behind_marker id_of marker xs)
marker-each P id_of None xs e = e
marker-each P id_of (Some m) xs e = by m.id
  where
    by : (name : Option Ident) → Each P (behind_id id_of name xs)
    by None = λ k y at. none_some y _ at
    by (Some i) = each-behind P id_of i xs e

-- the rows that are listed

-- of seen rows
abbrev pub cards : {R : Type 0} → (R → List NamedTree) → Kind → Bool → Query → List R → List ShownRow
cards members kind admin q xs = map (λ r. shown_as kind admin q.fields (members r)) (filter (λ r. meets admin q.filters (members r)) xs)

-- of printed rows
abbrev pub cards_of : Kind → Bool → Query → List (List NamedTree) → List ShownRow
cards_of kind admin q printed = map (λ m. shown_as kind admin q.fields m) (filter (λ m. meets admin q.filters m) printed)

pub cards_printed : {R : Type 0} (members : R → List NamedTree) (kind : Kind) (admin : Bool) (q : Query) (xs : List R) → cards members kind admin q xs ≡ cards_of kind admin q (map members xs)
cards_printed members kind admin q xs = sym (ap (map (λ m. shown_as kind admin q.fields m)) (filter-map (λ m. meets admin q.filters m) members xs)
    ∙ map-twice members (λ m. shown_as kind admin q.fields m) (filter (λ r. meets admin q.filters (members r)) xs))

pub seen_cards : {R : Type 0} (seen : R → Bool) (members : R → List NamedTree) (kind : Kind) (admin : Bool) (q : Query) (xs : List R)
    → listed_of seen members kind admin q xs ≡ cards members kind admin q (filter seen xs)
seen_cards seen members kind admin q xs = ap (map (λ r. shown_as kind admin q.fields (members r))) (filter-then seen (λ r. meets admin q.filters (members r)) xs)

-- a tenant is listed no network's number, nor by it
cards_blank : (rows : RowLists) (caller : Caller) (q : Query) (xs : List NetworkRow)
    → cards (network_members rows caller) NetworkKind false q xs ≡ cards_of NetworkKind false q (map (network_members rows caller) (map blank xs))
cards_blank rows caller q xs = cards_printed (λ n. network_members rows caller (blank n)) NetworkKind false q xs
    ∙ ap (cards_of NetworkKind false q) (sym (map-twice blank (network_members rows caller) xs))

-- nor any port's host or binding, but whether it is bound
abbrev told_port : RowLists → (Ident → Bool) → PortRow → List NamedTree
told_port rows bound p = port_printed p (p.up && bound p.id && is_up (up_at p.network rows.networks))

cards_port : (rows : RowLists) (bound : Ident → Bool) (q : Query) (xs : List PortRow) → Each (λ (p : PortRow). bound p.id ≡ is_bound p.vif) xs
    → cards (port_members rows) PortKind false q xs ≡ cards_of PortKind false q (map (told_port rows bound) (map blank_port xs))
cards_port rows bound q xs e = cards_printed (λ (p : PortRow). port_printed (blank_port p) (is_live rows p)) PortKind false q xs
    ∙ ap (cards_of PortKind false q) (map-each (λ (p : PortRow). port_printed (blank_port p) (is_live rows p)) (λ p. told_port rows bound (blank_port p)) xs
    (λ k p at. ap (port_printed (blank_port p)) (live_by rows p ∙ (λ j. p.up && sym (e k p at) j && is_up (up_at p.network rows.networks))))
    ∙ sym (map-twice blank_port (told_port rows bound) xs))

when_none : (b : Bool) (refusal : Refusal) → when (not b) refusal ≡ None → b ≡ true
when_none true refusal h = refl
when_none false refusal h = none_some refusal _ (sym h)

module _ (rows : RowLists) (caller : Caller) (c : IsConsistent rows) where
  networks_behind : (marker : Option IdText) → has_marker rows caller NetworkKind marker ≡ true
      → filter (sees_network rows caller) (behind_marker network_id marker rows.networks) ≡ behind_marker network_id marker (seen_networks rows caller)
  networks_behind None h = refl
  networks_behind (Some m) h = marker-filter (sees_network rows caller) network_id rows.networks (λ i. omega (arith, c.numbered.ids i)) m h

  ports_behind : (marker : Option IdText) → has_marker rows caller PortKind marker ≡ true
      → filter (sees_port rows caller) (behind_marker port_id marker rows.ports) ≡ behind_marker port_id marker (seen_ports rows caller)
  ports_behind None h = refl
  ports_behind (Some m) h = marker-filter (sees_port rows caller) port_id rows.ports (λ i. omega (arith, c.numbered.ids i)) m h

  networks_told : caller.admin ≡ false → (q : Query) → has_marker rows caller NetworkKind q.marker ≡ true
      → listed rows caller NetworkKind q ≡ cut q.limit (cards_of NetworkKind false q (map (network_members rows caller) (behind_marker network_id q.marker (map blank (seen_networks rows caller)))))
  networks_told tenant q h = ap (cut q.limit) (ap (λ b. listed_of (sees_network rows caller) (network_members rows caller) NetworkKind b q (behind_marker network_id q.marker rows.networks)) tenant
      ∙ (seen_cards (sees_network rows caller) (network_members rows caller) NetworkKind false q (behind_marker network_id q.marker rows.networks)
      ∙ (ap (cards (network_members rows caller) NetworkKind false q) (networks_behind q.marker h)
      ∙ (cards_blank rows caller q (behind_marker network_id q.marker (seen_networks rows caller))
      ∙ ap (λ xs. cards_of NetworkKind false q (map (network_members rows caller) xs)) (sym (marker-map blank network_id network_id (λ r. refl) q.marker (seen_networks rows caller)))))))

  -- whether a port that is seen is bound
  abbrev bound_seen : Ident → Bool
  bound_seen i = stands_so port_id i (λ (p : PortRow). is_bound p.vif) (seen_ports rows caller)

  ports_told : caller.admin ≡ false → (q : Query) → has_marker rows caller PortKind q.marker ≡ true
      → listed rows caller PortKind q ≡ cut q.limit (cards_of PortKind false q (map (told_port rows bound_seen) (behind_marker port_id q.marker (map blank_port (seen_ports rows caller)))))
  ports_told tenant q h = ap (cut q.limit) (ap (λ b. listed_of (sees_port rows caller) (port_members rows) PortKind b q (behind_marker port_id q.marker rows.ports)) tenant
      ∙ (seen_cards (sees_port rows caller) (port_members rows) PortKind false q (behind_marker port_id q.marker rows.ports)
      ∙ (ap (cards (port_members rows) PortKind false q) (ports_behind q.marker h)
      ∙ (cards_port rows bound_seen q (behind_marker port_id q.marker (seen_ports rows caller))
      (marker-each (λ (p : PortRow). bound_seen p.id ≡ is_bound p.vif) port_id q.marker (seen_ports rows caller) (bound_here rows caller c))
      ∙ ap (λ xs. cards_of PortKind false q (map (told_port rows bound_seen) xs)) (sym (marker-map blank_port port_id port_id (λ r. refl) q.marker (seen_ports rows caller)))))))

module _ (settings : SettingsParts) (caller : Caller) (tenant : caller.admin ≡ false) (s t : State) (c : IsConsistent s.rows) (d : IsConsistent t.rows) (same : footing settings s caller ≡ footing settings t caller) where
  -- markers

  seen_network : (state : State) (i : Ident)
      → stands_so network_id i (sees_network state.rows caller) state.rows.networks ≡ stands network_id i (map blank (seen_networks state.rows caller))
  seen_network state i = any-then (λ (r : NetworkRow). ident_eq i r.id) (sees_network state.rows caller) state.rows.networks
      ∙ sym (any-map (λ (r : NetworkRow). ident_eq i r.id) blank (seen_networks state.rows caller))

  seen_port : (state : State) (i : Ident) → stands_so port_id i (sees_port state.rows caller) state.rows.ports ≡ stands port_id i (map blank_port (seen_ports state.rows caller))
  seen_port state i = any-then (λ (r : PortRow). ident_eq i r.id) (sees_port state.rows caller) state.rows.ports
      ∙ sym (any-map (λ (r : PortRow). ident_eq i r.id) blank_port (seen_ports state.rows caller))

  network_marker_same : (marker : Option IdText) → has_marker s.rows caller NetworkKind marker ≡ has_marker t.rows caller NetworkKind marker
  network_marker_same None = refl
  network_marker_same (Some m) = ap (λ sees. is_some_so sees m.id) (λ j i. (seen_network s i ∙ (ap (λ f. stands network_id i f.networks) same ∙ sym (seen_network t i))) j)

  port_marker_same : (marker : Option IdText) → has_marker s.rows caller PortKind marker ≡ has_marker t.rows caller PortKind marker
  port_marker_same None = refl
  port_marker_same (Some m) = ap (λ sees. is_some_so sees m.id) (λ j i. (seen_port s i ∙ (ap (λ f. stands port_id i f.ports) same ∙ sym (seen_port t i))) j)

  -- what is printed of near rows

  members_same : Each (λ n. network_members s.rows caller n ≡ network_members t.rows caller n) (map blank (seen_networks s.rows caller))
  members_same k n at =
      let from = at_map blank (seen_networks s.rows caller) k n at in
      let near : is_near s.rows caller n.id ≡ true = ap (λ (x : NetworkRow). is_near s.rows caller x.id) (sym from.2) ∙ seen_near s.rows caller k from.0 from.1 in
      let told_near = near_same settings caller s t same n.id near in
      λ j. network_printed n (told_near j).external_to_all (told_near j).shared_to_all (subnets_same settings caller s t same n.id j)

  abbrev told_s : PortRow → List NamedTree
  told_s = told_port s.rows (bound_seen s.rows caller c)

  abbrev told_t : PortRow → List NamedTree
  told_t = told_port t.rows (bound_seen t.rows caller d)

  told_same : Each (λ p. told_s p ≡ told_t p) (map blank_port (seen_ports s.rows caller))
  told_same k p at =
      let from = at_map blank_port (seen_ports s.rows caller) k p at in
      let near : is_near s.rows caller p.network ≡ true = ap (λ (x : PortRow). is_near s.rows caller x.network) (sym from.2) ∙ port_near s.rows caller tenant k from.0 from.1 in
      let up : up_at p.network s.rows.networks ≡ up_at p.network t.rows.networks = ap (λ (x : Near). x.up) (near_same settings caller s t same p.network near) in
      λ j. port_printed p (p.up && (same j).bound p.id && is_up (up j))

  networks_same : (q : Query) → has_marker s.rows caller NetworkKind q.marker ≡ true → has_marker t.rows caller NetworkKind q.marker ≡ true → listed s.rows caller NetworkKind q ≡ listed t.rows caller NetworkKind q
  networks_same q h l = networks_told s.rows caller c tenant q h
      ∙ (ap (λ xs. cut q.limit (cards_of NetworkKind false q xs)) (map-each (network_members s.rows caller) (network_members t.rows caller)
      (behind_marker network_id q.marker (map blank (seen_networks s.rows caller))) (marker-each (λ n. network_members s.rows caller n ≡ network_members t.rows caller n) network_id q.marker (map blank (seen_networks s.rows caller)) members_same)
      ∙ ap (λ f. map (network_members t.rows caller) (behind_marker network_id q.marker f.networks)) same)
      ∙ sym (networks_told t.rows caller d tenant q l))

  ports_same : (q : Query) → has_marker s.rows caller PortKind q.marker ≡ true → has_marker t.rows caller PortKind q.marker ≡ true → listed s.rows caller PortKind q ≡ listed t.rows caller PortKind q
  ports_same q h l = ports_told s.rows caller c tenant q h
      ∙ (ap (λ xs. cut q.limit (cards_of PortKind false q xs)) (map-each told_s told_t
      (behind_marker port_id q.marker (map blank_port (seen_ports s.rows caller))) (marker-each (λ p. told_s p ≡ told_t p) port_id q.marker (map blank_port (seen_ports s.rows caller)) told_same)
      ∙ ap (λ f. map told_t (behind_marker port_id q.marker f.ports)) same)
      ∙ sym (ports_told t.rows caller d tenant q l))

  -- where the marker is the same to both, and so is what is listed behind it
  listed_alike : (kind : Kind) (q : Query) → has_marker s.rows caller kind q.marker ≡ has_marker t.rows caller kind q.marker
      → (has_marker s.rows caller kind q.marker ≡ true → has_marker t.rows caller kind q.marker ≡ true → listed s.rows caller kind q ≡ listed t.rows caller kind q)
      → answer_alone (rows_listed s.rows caller kind q) ≡ answer_alone (rows_listed t.rows caller kind q)
  listed_alike kind q marker alike =
      ap (λ b. answer_alone (unless (when (not b) (not_found kind (marker_text q.marker))) (Told (ManyRows kind (listed s.rows caller kind q))))) marker
      ∙ unless_alike (when (not (has_marker t.rows caller kind q.marker)) (not_found kind (marker_text q.marker))) (Told (ManyRows kind (listed s.rows caller kind q))) (Told (ManyRows kind (listed t.rows caller kind q)))
      (λ passes. let there = when_none (has_marker t.rows caller kind q.marker) (not_found kind (marker_text q.marker)) passes in
      ap (λ rows. Told (ManyRows kind rows)) (alike (marker ∙ there) there))

  pub networks_listed_apart : (q : Query) → answer_alone (rows_listed s.rows caller NetworkKind q) ≡ answer_alone (rows_listed t.rows caller NetworkKind q)
  networks_listed_apart q = listed_alike NetworkKind q (network_marker_same q.marker) (networks_same q)

  pub ports_listed_apart : (q : Query) → answer_alone (rows_listed s.rows caller PortKind q) ≡ answer_alone (rows_listed t.rows caller PortKind q)
  ports_listed_apart q = listed_alike PortKind q (port_marker_same q.marker) (ports_same q)
