-- What a tenant's footing tells of its own rows: they are found alike, counted alike, and the ports that it sees use them alike.
use Rattle.std.proofs.Common.{◌≡◌, ℕ, List, Bool, true, false, Option, Some, None, length, slice_get, refl, ap, sym, ◌∙◌, arith, map, not, subst}
use Rattle.std.proofs.lemmas.List.Sums.{length-filter}
use Rattle.std.proofs.lemmas.List.{length-map}
use Rattle.std.specs.Prelude.{◌&&◌, ◌||◌, count_by, filter, find, option_map, if◌then◌else◌}
use Rattle.std.specs.List.{list_any}
use Rattle.std.specs.Str.{bytes_eq}
use Rattle.api_policy.specs.Permits.{admin_only, network_owner, owner_only}
use Rattle.api_policy.specs.Quotas.{limit_of, over_limit, over_quota, used_of}
use Rattle.api_policy.specs.Seen.{own_rows}
use Rattle.api_policy.specs.Uses.{used_by_port}
use Rattle.api_policy.specs.Visibility.{is_own, owns_network, seen_networks, seen_ports, sees_network, sees_port, sees_row, sees_subnet}
use Rattle.apart_laws.specs.Footing.{blank, blank_port, blank_router, footing, owned}
use Rattle.api_types.specs.Refusing.{at_name, needing, answer_alone, when}
use Rattle.call_parts.specs.State.{State, drawing_at}
use Rattle.api_types.specs.Consistent.{IsConsistent}
use Rattle.api_types.specs.Ident.{Ident}
use Rattle.api_types.specs.Lists.{Each}
use Rattle.api_types.specs.Outcome.{Outcome}
use Rattle.api_types.specs.Registration.{Drawing}
use Rattle.api_types.specs.RowLists.{RowLists}
use Rattle.api_types.specs.Table.{ident_eq, owned_count}
use Rattle.api_types.specs.declared.call.Caller.{Caller}
use Rattle.api_types.specs.declared.kind.Kind.TheVariants.{Project as ProjectKind, Network as NetworkKind, Subnet as SubnetKind, Port as PortKind, Group as GroupKind, Rule as RuleKind, Router as RouterKind, Floating as FloatingKind, Policy as PolicyKind}
use Rattle.api_types.specs.declared.kind.Kind.{Kind}
use Rattle.api_types.specs.declared.network.NetworkRow.{NetworkRow}
use Rattle.api_types.specs.declared.port.PortRow.{PortRow}
use Rattle.api_types.specs.declared.refusal.Refusal.TheVariants.{CountersSpent, Forbidden, InUse}
use Rattle.api_types.specs.declared.refusal.PolicyRule.TheVariants.{AdminOnly, NetworkOwner, OwnerOnly}
use Rattle.api_types.specs.declared.refusal.Refusal.{Refusal}
use Rattle.api_types.specs.declared.refusal.UseRule.{UseRule}
use Rattle.api_types.specs.declared.router.RouterRow.{RouterRow}
use Rattle.net_settings.specs.Settings.{SettingsParts}
use Rattle.api_types.proofs.ListLemmas.{at_filter, none_some}
use Rattle.api_types.proofs.NameLemmas.{ident_same}
use Rattle.apart_laws.proofs.FootingLemmas.{needing_by, port_id}
use Rattle.apart_laws.proofs.DrawnAlike.{counts_of, counts_same}
use Rattle.apart_laws.proofs.ListLemmas.{any-map, any-then, filter-map, find-filter, find-map, find_here, name-map, name_here, or_left, or_right}
use Rattle.apart_laws.proofs.ApartLemmas.{filter-kept, option_each, stands_there}

-- a tenant's own rows

module _ (caller : Caller) (tenant : caller.admin ≡ false) where
  pub own_owned : {R : Type 0} (project_of : R → List ℕ) (xs : List R) → own_rows project_of caller xs ≡ owned project_of caller.project xs
  own_owned project_of xs = ap (λ b. filter (λ r. b || bytes_eq (project_of r) caller.project) xs) tenant

  -- a row that is found among them stands in the list, and is the caller's own
  pub own_here : {R : Type 0} (id_of : R → Ident) (project_of : R → List ℕ) (name : Option Ident) (xs : List R) (x : R) → at_name id_of name (own_rows project_of caller xs) ≡ Some x
      → (k : ℕ) × (slice_get xs k ≡ Some x) × (bytes_eq (project_of x) caller.project ≡ true)
  own_here id_of project_of name xs x found =
      let here = name_here id_of name (own_rows project_of caller xs) x found in
      let kept = at_filter (λ r. is_own caller (project_of r)) xs here.0 x here.1 in
      (kept.0, kept.1, sym (ap (λ b. b || bytes_eq (project_of x) caller.project) tenant) ∙ kept.2)

abbrev pub router_id : RouterRow → Ident
router_id r = r.id

-- a port that uses a row of the caller's, where all that do are seen

abbrev pub seen_user : UseRule → Kind → Ident → PortRow → Refusal
seen_user rule kind i p = InUse rule kind i (Some (PortKind, p.id))

-- views, one after the other
pub map-then : {X Y Z : Type 0} (f : X → Y) (g : Y → Z) (o : Option X) → option_map g (option_map f o) ≡ option_map (λ x. g (f x)) o
map-then f g None = refl
map-then f g (Some x) = refl

module _ (rows : RowLists) (caller : Caller) (c : IsConsistent rows) where
  pub sees_there : (k : ℕ) (p : PortRow) → slice_get rows.ports k ≡ Some p → sees_row rows caller PortKind p.id ≡ sees_port rows caller p
  sees_there k p at = stands_there port_id (sees_port rows caller) rows.ports (λ i. omega (arith, c.numbered.ids i)) k p at

  users_seen : (rule : UseRule) (kind : Kind) (i : Ident) (test : PortRow → Bool) → Each (λ p. test p ≡ true → sees_port rows caller p ≡ true) rows.ports
      → option_map (used_by_port rows caller rule kind i) (find test rows.ports) ≡ option_map (seen_user rule kind i) (find test (seen_ports rows caller))
  users_seen rule kind i test seen =
      ap (option_map (used_by_port rows caller rule kind i)) (sym (find-filter (sees_port rows caller) test rows.ports seen))
      ∙ option_each (used_by_port rows caller rule kind i) (seen_user rule kind i) (find test (seen_ports rows caller))
      (λ p found. let here = find_here test (seen_ports rows caller) p found in
      let there = at_filter (sees_port rows caller) rows.ports here.0 p here.1 in
      ap (λ (b : Bool). InUse rule kind i (if b then Some (PortKind, p.id) else None)) (sees_there there.0 p there.1 ∙ there.2))

  -- and found by a test that looks at neither hosts nor bindings
  pub users_told : (rule : UseRule) (kind : Kind) (i : Ident) (test : PortRow → Bool) → ((p : PortRow) → test (blank_port p) ≡ test p) → Each (λ p. test p ≡ true → sees_port rows caller p ≡ true) rows.ports
      → option_map (used_by_port rows caller rule kind i) (find test rows.ports) ≡ option_map (seen_user rule kind i) (find test (map blank_port (seen_ports rows caller)))
  users_told rule kind i test blind seen =
      users_seen rule kind i test seen
      ∙ ((λ j. option_map (seen_user rule kind i) (find (λ p. sym (blind p) j) (seen_ports rows caller)))
      ∙ (sym (map-then blank_port (seen_user rule kind i) (find (λ p. test (blank_port p)) (seen_ports rows caller)))
      ∙ sym (ap (option_map (seen_user rule kind i)) (find-map test blank_port (seen_ports rows caller)))))

-- two states with one footing

module _ (settings : SettingsParts) (caller : Caller) (tenant : caller.admin ≡ false) (s t : State) (same : footing settings s caller ≡ footing settings t caller) where
  pub groups_alike : own_rows (λ r. r.project) caller s.rows.groups ≡ own_rows (λ r. r.project) caller t.rows.groups
  groups_alike = own_owned caller tenant (λ r. r.project) s.rows.groups ∙ (ap (λ f. f.groups) same ∙ sym (own_owned caller tenant (λ r. r.project) t.rows.groups))

  pub rules_alike : own_rows (λ r. r.project) caller s.rows.rules ≡ own_rows (λ r. r.project) caller t.rows.rules
  rules_alike = own_owned caller tenant (λ r. r.project) s.rows.rules ∙ (ap (λ f. f.rules) same ∙ sym (own_owned caller tenant (λ r. r.project) t.rows.rules))

  pub routers_alike : map blank_router (own_rows (λ r. r.project) caller s.rows.routers) ≡ map blank_router (own_rows (λ r. r.project) caller t.rows.routers)
  routers_alike = ap (map blank_router) (own_owned caller tenant (λ r. r.project) s.rows.routers)
      ∙ (ap (λ f. f.routers) same ∙ sym (ap (map blank_router) (own_owned caller tenant (λ r. r.project) t.rows.routers)))

  -- a router of the caller's is found in both states, or in none
  pub routers_found : (name : Option Ident)
      → option_map blank_router (at_name router_id name (own_rows (λ r. r.project) caller s.rows.routers)) ≡ option_map blank_router (at_name router_id name (own_rows (λ r. r.project) caller t.rows.routers))
  routers_found name = sym (name-map blank_router router_id router_id (λ r. refl) name (own_rows (λ r. r.project) caller s.rows.routers))
      ∙ (ap (at_name router_id name) routers_alike
      ∙ name-map blank_router router_id router_id (λ r. refl) name (own_rows (λ r. r.project) caller t.rows.routers))

  pub floatings_alike : own_rows (λ r. r.project) caller s.rows.floatings ≡ own_rows (λ r. r.project) caller t.rows.floatings
  floatings_alike = own_owned caller tenant (λ r. r.project) s.rows.floatings ∙ (ap (λ f. f.floatings) same ∙ sym (own_owned caller tenant (λ r. r.project) t.rows.floatings))

  pub policies_alike : own_rows (λ r. r.project) caller s.rows.policies ≡ own_rows (λ r. r.project) caller t.rows.policies
  policies_alike = own_owned caller tenant (λ r. r.project) s.rows.policies ∙ (ap (λ f. f.policies) same ∙ sym (own_owned caller tenant (λ r. r.project) t.rows.policies))

  -- whether the caller owns a network

  owns_seen : (rows : RowLists) (i : Ident) → owns_network rows caller.project i ≡ list_any (λ (n : NetworkRow). ident_eq i n.id && bytes_eq n.project caller.project) (map blank (seen_networks rows caller))
  owns_seen rows i = any-then (λ (n : NetworkRow). ident_eq i n.id) own rows.networks
      ∙ (ap (list_any (λ (n : NetworkRow). ident_eq i n.id)) (sym (filter-kept (sees_network rows caller) own rows.networks (λ k n at mine. or_left _ _ (or_right caller.admin _ mine))))
      ∙ (sym (any-then (λ (n : NetworkRow). ident_eq i n.id) own (seen_networks rows caller))
      ∙ sym (any-map (λ (n : NetworkRow). ident_eq i n.id && own n) blank (seen_networks rows caller))))
    where
      own : NetworkRow → Bool
      own n = bytes_eq n.project caller.project

  pub owns_alike : (i : Ident) → owns_network s.rows caller.project i ≡ owns_network t.rows caller.project i
  owns_alike i = owns_seen s.rows i ∙ (ap (λ f. list_any (λ (n : NetworkRow). ident_eq i n.id && bytes_eq n.project caller.project) f.networks) same ∙ sym (owns_seen t.rows i))

  -- quotas

  counted : {R : Type 0} (project_of : R → List ℕ) (xs ys : List R) → owned project_of caller.project xs ≡ owned project_of caller.project ys
      → owned_count project_of caller.project xs ≡ owned_count project_of caller.project ys
  counted project_of xs ys alike = sym (length-filter (λ r. bytes_eq (project_of r) caller.project) xs) ∙ (ap length alike ∙ length-filter (λ r. bytes_eq (project_of r) caller.project) ys)

  -- of rows that are seen where they are the caller's own
  counted_seen : {R : Type 0} (project_of : R → List ℕ) (seen seen' : R → Bool) (xs ys : List R) → ((r : R) → bytes_eq (project_of r) caller.project ≡ true → seen r ≡ true)
      → ((r : R) → bytes_eq (project_of r) caller.project ≡ true → seen' r ≡ true) → filter seen xs ≡ filter seen' ys
      → owned_count project_of caller.project xs ≡ owned_count project_of caller.project ys
  counted_seen project_of seen seen' xs ys own own' alike = counted project_of xs ys (sym (filter-kept seen (λ r. bytes_eq (project_of r) caller.project) xs (λ k r at. own r))
      ∙ (ap (owned project_of caller.project) alike ∙ filter-kept seen' (λ r. bytes_eq (project_of r) caller.project) ys (λ k r at. own' r)))

  count-map : {A B : Type 0} (test : B → Bool) (f : A → B) (xs : List A) → count_by test (map f xs) ≡ count_by (λ x. test (f x)) xs
  count-map test f xs = sym (length-filter test (map f xs))
      ∙ (ap length (filter-map test f xs) ∙ (length-map (filter (λ x. test (f x)) xs) f ∙ length-filter (λ x. test (f x)) xs))

  networks_counted : (rows : RowLists) → owned_count (λ (n : NetworkRow). n.project) caller.project rows.networks ≡ count_by (λ (n : NetworkRow). bytes_eq n.project caller.project) (map blank (seen_networks rows caller))
  networks_counted rows = sym (length-filter own rows.networks)
      ∙ (ap length (sym (filter-kept (sees_network rows caller) own rows.networks (λ k n at mine. or_left _ _ (or_right caller.admin _ mine))))
      ∙ (length-filter own (seen_networks rows caller) ∙ sym (count-map own blank (seen_networks rows caller))))
    where
      own : NetworkRow → Bool
      own n = bytes_eq n.project caller.project

  ports_counted : (rows : RowLists) → owned_count (λ (p : PortRow). p.project) caller.project rows.ports ≡ count_by (λ (p : PortRow). bytes_eq p.project caller.project) (map blank_port (seen_ports rows caller))
  ports_counted rows = sym (length-filter own rows.ports)
      ∙ (ap length (sym (filter-kept (sees_port rows caller) own rows.ports (λ k p at mine. or_left _ _ (or_right caller.admin _ mine))))
      ∙ (length-filter own (seen_ports rows caller) ∙ sym (count-map own blank_port (seen_ports rows caller))))
    where
      own : PortRow → Bool
      own p = bytes_eq p.project caller.project

  routers_counted : (rows : RowLists) → owned_count (λ (r : RouterRow). r.project) caller.project rows.routers ≡ length (map blank_router (owned (λ (r : RouterRow). r.project) caller.project rows.routers))
  routers_counted rows = sym (length-filter (λ (r : RouterRow). bytes_eq r.project caller.project) rows.routers)
      ∙ sym (length-map (owned (λ (r : RouterRow). r.project) caller.project rows.routers) blank_router)

  used_alike : (kind : Kind) → used_of s.rows caller.project kind ≡ used_of t.rows caller.project kind
  used_alike NetworkKind = networks_counted s.rows ∙ (ap (λ f. count_by (λ (n : NetworkRow). bytes_eq n.project caller.project) f.networks) same ∙ sym (networks_counted t.rows))
  used_alike SubnetKind = counted_seen (λ r. r.project) (sees_subnet s.rows caller) (sees_subnet t.rows caller) s.rows.subnets t.rows.subnets
      (λ r mine. or_left _ _ (or_right caller.admin _ mine)) (λ r mine. or_left _ _ (or_right caller.admin _ mine)) (ap (λ f. f.subnets) same)
  used_alike PortKind = ports_counted s.rows ∙ (ap (λ f. count_by (λ (p : PortRow). bytes_eq p.project caller.project) f.ports) same ∙ sym (ports_counted t.rows))
  used_alike GroupKind = counted (λ r. r.project) s.rows.groups t.rows.groups (ap (λ f. f.groups) same)
  used_alike RuleKind = counted (λ r. r.project) s.rows.rules t.rows.rules (ap (λ f. f.rules) same)
  used_alike RouterKind = routers_counted s.rows ∙ (ap (λ f. length f.routers) same ∙ sym (routers_counted t.rows))
  used_alike FloatingKind = counted (λ r. r.project) s.rows.floatings t.rows.floatings (ap (λ f. f.floatings) same)
  used_alike PolicyKind = counted (λ r. r.project) s.rows.policies t.rows.policies (ap (λ f. f.policies) same)
  used_alike ProjectKind = refl

  pub quota_alike : (kind : Kind) → over_quota settings s.rows caller.project kind ≡ over_quota settings t.rows caller.project kind
  quota_alike kind = ap (over_limit kind (limit_of settings.quotas kind)) (used_alike kind)

  pub quota_own : (project : List ℕ) → project ≡ caller.project → (kind : Kind) → over_quota settings s.rows project kind ≡ over_quota settings t.rows project kind
  quota_own project own kind = subst (λ name. over_quota settings s.rows name kind ≡ over_quota settings t.rows name kind) (sym own) (quota_alike kind)

  -- what is drawn for the caller's project
  pub drawn_alike : (name : List ℕ) → name ≡ caller.project → (many : ℕ) (f g : Drawing → Outcome)
      → ((x y : Drawing) → drawing_at s caller.project many ≡ Some x → drawing_at t caller.project many ≡ Some y → counts_of x ≡ counts_of y → answer_alone (f x) ≡ answer_alone (g y))
      → answer_alone (needing CountersSpent (drawing_at s name many) f) ≡ answer_alone (needing CountersSpent (drawing_at t name many) g)
  drawn_alike name own many f g here = subst (λ name. answer_alone (needing CountersSpent (drawing_at s name many) f) ≡ answer_alone (needing CountersSpent (drawing_at t name many) g)) (sym own)
      (needing_by CountersSpent (drawing_at s caller.project many) (drawing_at t caller.project many) f g counts_of (counts_same settings caller s t same many) here)

-- who isn't refused as a tenant asks for nothing that is for administrators, and makes rows of its own

pub when_false : (b : Bool) (refusal : Refusal) → when b refusal ≡ None → b ≡ false
when_false true refusal h = none_some refusal _ (sym h)
when_false false refusal h = refl

pub when_true : (b : Bool) (refusal : Refusal) → when (not b) refusal ≡ None → b ≡ true
when_true true refusal h = refl
when_true false refusal h = none_some refusal _ (sym h)

unneeded : (a b : Bool) → a ≡ false → b && not a ≡ false → b ≡ false
unneeded a true e h = let clash : true ≡ false = sym (ap not e) ∙ h in clash
unneeded a false e h = refl

pub admin_passes : (caller : Caller) → caller.admin ≡ false → (needed : Bool) → admin_only caller needed ≡ None → needed ≡ false
admin_passes caller tenant needed h = unneeded caller.admin needed tenant (when_false (needed && not caller.admin) (Forbidden AdminOnly) h)

-- what passes by a rule of policy

module _ (caller : Caller) (tenant : caller.admin ≡ false) where
  pub owner_passes : (project : List ℕ) → owner_only caller project ≡ None → bytes_eq project caller.project ≡ true
  owner_passes project h = sym (ap (λ b. b || bytes_eq project caller.project) tenant) ∙ when_true (is_own caller project) (Forbidden OwnerOnly) h

  pub network_passes : (rows : RowLists) (i : Ident) → network_owner rows caller true i ≡ None → owns_network rows caller.project i ≡ true
  network_passes rows i h = sym (ap (λ b. b || owns_network rows caller.project i) tenant) ∙ when_true (caller.admin || owns_network rows caller.project i) (Forbidden NetworkOwner) h

-- the owner of a network sees each port on it
pub owned_port : (rows : RowLists) (caller : Caller) (i : Ident) → owns_network rows caller.project i ≡ true → (p : PortRow) → ident_eq i p.network ≡ true → sees_port rows caller p ≡ true
owned_port rows caller i owns p on = or_right _ _ (ap (owns_network rows caller.project) (sym (ident_same i p.network on)) ∙ owns)
