-- What the wider footing says, it says of the narrower one too.
use Rattle.std.proofs.Common.{◌≡◌, ◌∙◌, ℕ, List, [], ◌∷◌, Bool, true, false, None, cond, ap, refl, sym, map, if◌then◌else◌}
use Rattle.std.specs.Prelude.{◌&&◌, ◌||◌, filter, option_map}
use Rattle.std.specs.List.{list_any}
use Rattle.std.specs.Str.{bytes_eq}
use Rattle.api_types.specs.Consistent.Carried.{is_bound}
use Rattle.api_types.specs.Ident.{Ident}
use Rattle.api_types.specs.Lists.{stands, stands_so}
use Rattle.api_types.specs.Owners.{is_port_of}
use Rattle.api_types.specs.RowLists.{RowLists}
use Rattle.api_types.specs.Table.{ident_eq}
use Rattle.api_types.specs.Outcome.{Outcome}
use Rattle.api_types.specs.declared.call.Call.{Call}
use Rattle.api_types.specs.declared.call.Caller.{Caller}
use Rattle.api_types.specs.declared.network.NetworkRow.{NetworkRow}
use Rattle.api_types.specs.declared.port.PortRow.{PortRow}
use Rattle.api_types.specs.declared.router.RouterRow.{RouterRow}
use Rattle.api_types.proofs.ListLemmas.{and_both, any-filter, both_and}
use Rattle.net_settings.specs.Settings.{SettingsParts}
use Rattle.api_policy.specs.Visibility.{seen_networks, seen_ports, sees_port}
use Rattle.call_parts.specs.State.{State}
use Rattle.apart_laws.specs.Alike.{KeepsApart}
use Rattle.apart_laws.specs.Footing.{Footing, blank, blank_port, blank_router, footing, guard, is_close, is_near, is_of_router, near_of, owned}
use Rattle.api_machine.specs.WholeStep.{api_step}
use Rattle.api_machine.specs.WiderFooting.{NearSegment, WiderFooting, is_closer, is_nearer, is_of_floating, near_segment_of, wider_footing, without_number}
use Rattle.apart_laws.proofs.ApartLemmas.{filter-kept}
use Rattle.apart_laws.proofs.ListLemmas.{any-map, filter-each, or_cases, or_left, or_right}
use Rattle.api_machine.proofs.WholeStepApart.{step_apart}

-- lists and tests

blank-without : (xs : List NetworkRow) → map blank (map without_number xs) ≡ map blank xs
blank-without [] = refl
blank-without (n ∷ xs) = ap (λ ys. blank n ∷ ys) (blank-without xs)

any-of_kept : {R : Type 0} (keep test : R → Bool) (xs : List R) → list_any (λ r. keep r && test r) xs ≡ list_any test (filter keep xs)
any-of_kept keep test [] = refl
any-of_kept keep test (x ∷ xs) = by (keep x) (any-of_kept keep test xs)
  where
    by : (b : Bool) → list_any (λ r. keep r && test r) xs ≡ list_any test (filter keep xs)
        → (b && test x) || list_any (λ r. keep r && test r) xs ≡ list_any test (cond b (x ∷ filter keep xs) (filter keep xs))
    by true rest = ap (λ b. test x || b) rest
    by false rest = rest

parted : (e a b c d : Bool) → (e && (a || b)) || (c || d) ≡ ((e && a) || c) || ((e && b) || d)
parted false a b c d = refl
parted true false false c d = refl
parted true false true false d = refl
parted true false true true d = refl
parted true true b c d = refl

any-either : {R : Type 0} (on one other : R → Bool) (xs : List R) → list_any (λ r. on r && (one r || other r)) xs ≡ list_any (λ r. on r && one r) xs || list_any (λ r. on r && other r) xs
any-either on one other [] = refl
any-either on one other (x ∷ xs) =
    ap (λ b. (on x && (one x || other x)) || b) (any-either on one other xs)
    ∙ parted (on x) (one x) (other x) (list_any (λ r. on r && one r) xs) (list_any (λ r. on r && other r) xs)

-- a test that fails where the row isn't kept
fails_with : (a b keep : Bool) → (b ≡ true → keep ≡ true) → keep ≡ false → a && b ≡ false
fails_with false b keep kept h = refl
fails_with true true keep kept h = sym (kept refl) ∙ h
fails_with true false keep kept h = refl

any-weaker : {R : Type 0} (test weaker : R → Bool) (xs : List R) → ((x : R) → test x ≡ true → weaker x ≡ true) → list_any test xs ≡ true → list_any weaker xs ≡ true
any-weaker test weaker [] w h = h
any-weaker test weaker (x ∷ xs) w h = or_cases (test x) (list_any test xs) (list_any weaker (x ∷ xs) ≡ true) h (λ here. or_left _ _ (w x here)) (λ rest. or_right _ _ (any-weaker test weaker xs w rest))

narrowed : {X Y : Type 0} (view : Y → X) (near nearer : Bool) (y : Y) → (near ≡ true → nearer ≡ true) → guard near (view y) ≡ (if near then option_map view (guard nearer y) else None)
narrowed view false nearer y wider = refl
narrowed view true nearer y wider = sym (ap (λ b. option_map view (guard b y)) (wider refl))

-- the narrower footing, by the wider one

-- the port is of one of these routers
abbrev serves : List RouterRow → PortRow → Bool
serves routers p = list_any (λ (r : RouterRow). is_port_of r p) routers

abbrev is_near_by : WiderFooting → List ℕ → Ident → Bool
is_near_by w project i =
    stands (λ (n : NetworkRow). n.id) i w.networks
    || (list_any (λ (p : PortRow). ident_eq i p.network && bytes_eq p.project project) w.ports
    || list_any (λ (p : PortRow). ident_eq i p.network && serves w.routers p) w.served_ports)

abbrev narrow : List ℕ → WiderFooting → Footing
narrow project w = record {
  networks = map blank w.networks;
  subnets = w.subnets;
  ports = map blank_port w.ports;
  bound = λ i. stands_so (λ (p : PortRow). p.id) i (λ p. is_bound p.vif) w.ports;
  groups = w.groups;
  rules = w.rules;
  routers = map blank_router w.routers;
  floatings = w.floatings;
  policies = w.policies;
  served_ports = map blank_port (filter (serves w.routers) w.served_ports);
  near = λ i. if is_near_by w project i then option_map (λ (n : NearSegment). n.near) (w.near i) else None;
  held = w.held;
  drawer = w.drawer;
  has_number = w.has_number;
  is_full = w.is_full;
  is_last = w.is_last;
}

serves_own : (routers : List RouterRow) (project : List ℕ) (p : PortRow) → is_of_router routers project p ≡ serves (owned (λ r. r.project) project routers) p
serves_own routers project p = any-of_kept (λ (r : RouterRow). bytes_eq r.project project) (λ r. is_port_of r p) routers

module _ (rows : RowLists) (caller : Caller) where
  served_by : filter (is_of_router rows.routers caller.project) rows.ports
      ≡ filter (serves (owned (λ r. r.project) caller.project rows.routers)) (filter (λ p. is_of_router rows.routers caller.project p || is_of_floating rows.floatings caller.project p) rows.ports)
  served_by =
      sym (filter-kept (λ p. is_of_router rows.routers caller.project p || is_of_floating rows.floatings caller.project p) (is_of_router rows.routers caller.project) rows.ports (λ k p at h. or_left _ _ h))
      ∙ filter-each (is_of_router rows.routers caller.project) (serves (owned (λ r. r.project) caller.project rows.routers))
      (filter (λ p. is_of_router rows.routers caller.project p || is_of_floating rows.floatings caller.project p) rows.ports) (λ k p at. serves_own rows.routers caller.project p)

  own_by : (i : Ident) → list_any (λ (p : PortRow). ident_eq i p.network && bytes_eq p.project caller.project) rows.ports
      ≡ list_any (λ (p : PortRow). ident_eq i p.network && bytes_eq p.project caller.project) (seen_ports rows caller)
  own_by i = sym (any-filter (sees_port rows caller) (λ (p : PortRow). ident_eq i p.network && bytes_eq p.project caller.project) rows.ports
      (λ k p at h. fails_with (ident_eq i p.network) (bytes_eq p.project caller.project) (sees_port rows caller p) (λ own. or_left _ _ (or_right caller.admin _ own)) h))

  routed_by : (i : Ident) → list_any (λ (p : PortRow). ident_eq i p.network && is_of_router rows.routers caller.project p) rows.ports
      ≡ list_any (λ (p : PortRow). ident_eq i p.network && serves (owned (λ r. r.project) caller.project rows.routers) p)
      (filter (λ p. is_of_router rows.routers caller.project p || is_of_floating rows.floatings caller.project p) rows.ports)
  routed_by i =
      sym (any-filter (λ p. is_of_router rows.routers caller.project p || is_of_floating rows.floatings caller.project p) (λ (p : PortRow). ident_eq i p.network && is_of_router rows.routers caller.project p) rows.ports
      (λ k p at h. fails_with (ident_eq i p.network) (is_of_router rows.routers caller.project p) _ (λ of_router. or_left _ _ of_router) h))
      ∙ (λ j. list_any (λ (p : PortRow). ident_eq i p.network && serves_own rows.routers caller.project p j)
      (filter (λ p. is_of_router rows.routers caller.project p || is_of_floating rows.floatings caller.project p) rows.ports))

module _ (settings : SettingsParts) (state : State) (caller : Caller) where
  near_by : (i : Ident) → is_near state.rows caller i ≡ is_near_by (wider_footing settings state caller) caller.project i
  near_by i =
      (λ j. sym (any-map (λ (n : NetworkRow). ident_eq i n.id) without_number (seen_networks state.rows caller)) j
      || any-either (λ (p : PortRow). ident_eq i p.network) (λ p. bytes_eq p.project caller.project) (is_of_router state.rows.routers caller.project) state.rows.ports j)
      ∙ (λ j. stands (λ (n : NetworkRow). n.id) i (map without_number (seen_networks state.rows caller)) || (own_by state.rows caller i j || routed_by state.rows caller i j))

  nearer : (i : Ident) → is_near state.rows caller i ≡ true → is_nearer state.rows caller i ≡ true
  nearer i h = or_cases (stands (λ (n : NetworkRow). n.id) i (seen_networks state.rows caller)) (list_any (λ p. ident_eq i p.network && is_close state.rows caller.project p) state.rows.ports)
      (is_nearer state.rows caller i ≡ true) h (λ seen. or_left _ _ seen)
      (λ close. or_right _ _ (any-weaker (λ p. ident_eq i p.network && is_close state.rows caller.project p) (λ p. ident_eq i p.network && is_closer state.rows caller.project p) state.rows.ports
      (λ p both. let parts = and_both (ident_eq i p.network) (is_close state.rows caller.project p) both in both_and _ _ parts.0 (or_left _ _ parts.1)) close))

  narrow_is : footing settings state caller ≡ narrow caller.project (wider_footing settings state caller)
  narrow_is = λ j. record (narrow caller.project (wider_footing settings state caller)) {
    networks = sym (blank-without (seen_networks state.rows caller)) j;
    served_ports = map blank_port (served_by state.rows caller j);
    near = λ i. near_is i j;
  }
    where
      near_is : (i : Ident) → guard (is_near state.rows caller i) (near_of state.rows caller.project i)
          ≡ (if is_near_by (wider_footing settings state caller) caller.project i then option_map (λ (n : NearSegment). n.near) (guard (is_nearer state.rows caller i) (near_segment_of state.rows caller.project i)) else None)
      near_is i =
          narrowed (λ (n : NearSegment). n.near) (is_near state.rows caller i) (is_nearer state.rows caller i) (near_segment_of state.rows caller.project i) (nearer i)
          ∙ ap (λ b. if b then option_map (λ (n : NearSegment). n.near) (guard (is_nearer state.rows caller i) (near_segment_of state.rows caller.project i)) else None) (near_by i)

wider_same : (settings : SettingsParts) (caller : Caller) (s t : State) → wider_footing settings s caller ≡ wider_footing settings t caller → footing settings s caller ≡ footing settings t caller
wider_same settings caller s t same = narrow_is settings s caller ∙ (ap (narrow caller.project) same ∙ sym (narrow_is settings t caller))

pub wider_apart : (settings : SettingsParts) (step : State → Caller → Call → Outcome) → KeepsApart (footing settings) step → KeepsApart (wider_footing settings) step
wider_apart settings step apart caller s t tenant named c d same call = apart caller s t tenant named c d (wider_same settings caller s t same) call

pub whole_keeps_apart : (settings : SettingsParts) → KeepsApart (footing settings) (api_step settings)
whole_keeps_apart settings caller s t tenant named c d same call = step_apart settings caller s t tenant named c d same call
