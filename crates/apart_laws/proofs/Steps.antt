-- Steps of calls that leave all that others own as it is, one after the other, and who owns a row.
use Rattle.api_policy.specs.Permits.{admin_only, network_owner, owner_only}
use Rattle.api_policy.specs.Visibility.{is_own, owns_network}
use Rattle.api_types.proofs.ListLemmas.{and_both, any-at, at-any, both_and, false_true, one_row}
use Rattle.api_types.proofs.NameLemmas.{bytes_same, ident_itself, ident_same, not_false}
use Rattle.api_types.specs.Consistent.{IsConsistent}
use Rattle.api_types.specs.Consistent.Floating.{is_target_port, leads_to}
use Rattle.api_types.specs.Consistent.InForm.{is_network_of}
use Rattle.api_types.specs.Given.{is_for_other, is_other, owner_of, value_or}
use Rattle.api_types.specs.Ident.{Ident}
use Rattle.api_types.specs.Lists.{Each, if_some, is_some_so, stands_so, times}
use Rattle.api_types.specs.RowLists.{RowLists}
use Rattle.api_types.specs.Table.{ident_eq}
use Rattle.api_types.specs.declared.call.Caller.{Caller}
use Rattle.api_types.specs.declared.floating.FloatingRow.{FloatingRow}
use Rattle.api_types.specs.declared.floating.Target.{Target}
use Rattle.api_types.specs.declared.form.Given.{Given}
use Rattle.api_types.specs.declared.form.Given.TheVariants.{Absent, Is, Null}
use Rattle.api_types.specs.declared.group.GroupRow.{GroupRow}
use Rattle.api_types.specs.declared.group.RuleRow.{RuleRow}
use Rattle.api_types.specs.declared.network.NetworkRow.{NetworkRow}
use Rattle.api_types.specs.declared.policy.PolicyRow.{PolicyRow}
use Rattle.api_types.specs.declared.port.PortRow.{PortRow}
use Rattle.api_types.specs.declared.router.RouterRow.{RouterRow}
use Rattle.api_types.specs.declared.subnet.SubnetRow.{SubnetRow}
use Rattle.apart_laws.proofs.Filtered.{all_stay, filter_agree, none_freed}
use Rattle.kept_laws.proofs.OutcomeLemmas.{not_when}
use Rattle.apart_laws.specs.Others.{OthersStay, is_port_of_others, of_others, ports_of_others, serves}
use Rattle.std.proofs.Common.{Bool, List, None, Option, Some, ap, arith, false, not, refl, slice_get, sym, true, ℕ, ◌∙◌, ◌≡◌, ◌≤◌}
use Rattle.std.specs.Prelude.{filter, ◌&&◌, ◌||◌}
use Rattle.std.specs.Str.{bytes_eq}

-- rows in which all that others own is as it was
pub record Spares (project : List ℕ) (old new : RowLists) : Type 0 where
  pub projects : of_others (λ r. r.name) project new.projects ≡ of_others (λ r. r.name) project old.projects
  pub networks : of_others (λ r. r.project) project new.networks ≡ of_others (λ r. r.project) project old.networks
  pub subnets : of_others (λ r. r.project) project new.subnets ≡ of_others (λ r. r.project) project old.subnets
  pub groups : of_others (λ r. r.project) project new.groups ≡ of_others (λ r. r.project) project old.groups
  pub rules : of_others (λ r. r.project) project new.rules ≡ of_others (λ r. r.project) project old.rules
  pub routers : of_others (λ r. r.project) project new.routers ≡ of_others (λ r. r.project) project old.routers
  pub policies : of_others (λ r. r.project) project new.policies ≡ of_others (λ r. r.project) project old.policies
  pub floatings : of_others (λ r. r.project) project new.floatings ≡ of_others (λ r. r.project) project old.floatings
  pub ports : ports_of_others project new ≡ ports_of_others project old

pub spares_then : (project : List ℕ) (a b c : RowLists) → Spares project a b → Spares project b c → Spares project a c
spares_then project a b c one two = record {
  projects = two.projects ∙ one.projects;
  networks = two.networks ∙ one.networks;
  subnets = two.subnets ∙ one.subnets;
  groups = two.groups ∙ one.groups;
  rules = two.rules ∙ one.rules;
  routers = two.routers ∙ one.routers;
  policies = two.policies ∙ one.policies;
  floatings = two.floatings ∙ one.floatings;
  ports = two.ports ∙ one.ports;
}

pub spares_all : (project : List ℕ) (old new : RowLists) → Spares project old new → OthersStay project old new
spares_all project old new same = record {
  projects = same.projects;
  networks = same.networks;
  subnets = same.subnets;
  groups = same.groups;
  rules = same.rules;
  routers = same.routers;
  policies = record { stays = λ l. true; left = same.policies ∙ all_stay (of_others (λ r. r.project) project old.policies); gone = λ k l at. refl };
  ports = record { stays = λ p. true; left = same.ports ∙ all_stay (ports_of_others project old); gone = λ k p at. refl };
  floatings = record { freed = λ f. false; left = same.floatings ∙ none_freed (of_others (λ r. r.project) project old.floatings); lost = λ k f at. refl };
}

-- where nothing changes, it stays
pub others_stay_refl : (project : List ℕ) (rows : RowLists) → OthersStay project rows rows
others_stay_refl project rows =
    spares_all project rows rows (record { projects = refl; networks = refl; subnets = refl; groups = refl; rules = refl; routers = refl; policies = refl; floatings = refl; ports = refl })

abbrev pub others : {R : Type 0} → (R → List ℕ) → List ℕ → R → Bool
others owner_of project r = not (bytes_eq (owner_of r) project)

-- one kind of rows alone
module _ (project : List ℕ) (rows : RowLists) where
  pub with_networks : (xs : List NetworkRow) → of_others (λ r. r.project) project xs ≡ of_others (λ r. r.project) project rows.networks → Spares project rows (record rows { networks = xs })
  with_networks xs e = record { projects = refl; networks = e; subnets = refl; groups = refl; rules = refl; routers = refl; policies = refl; floatings = refl; ports = refl }

  pub with_subnets : (xs : List SubnetRow) → of_others (λ r. r.project) project xs ≡ of_others (λ r. r.project) project rows.subnets → Spares project rows (record rows { subnets = xs })
  with_subnets xs e = record { projects = refl; networks = refl; subnets = e; groups = refl; rules = refl; routers = refl; policies = refl; floatings = refl; ports = refl }

  pub with_groups : (xs : List GroupRow) → of_others (λ r. r.project) project xs ≡ of_others (λ r. r.project) project rows.groups → Spares project rows (record rows { groups = xs })
  with_groups xs e = record { projects = refl; networks = refl; subnets = refl; groups = e; rules = refl; routers = refl; policies = refl; floatings = refl; ports = refl }

  pub with_rules : (xs : List RuleRow) → of_others (λ r. r.project) project xs ≡ of_others (λ r. r.project) project rows.rules → Spares project rows (record rows { rules = xs })
  with_rules xs e = record { projects = refl; networks = refl; subnets = refl; groups = refl; rules = e; routers = refl; policies = refl; floatings = refl; ports = refl }

  pub with_policies : (xs : List PolicyRow) → of_others (λ r. r.project) project xs ≡ of_others (λ r. r.project) project rows.policies → Spares project rows (record rows { policies = xs })
  with_policies xs e = record { projects = refl; networks = refl; subnets = refl; groups = refl; rules = refl; routers = refl; policies = e; floatings = refl; ports = refl }

  pub with_ports : (xs : List PortRow) → filter (is_port_of_others project rows) xs ≡ ports_of_others project rows → Spares project rows (record rows { ports = xs })
  with_ports xs e = record { projects = refl; networks = refl; subnets = refl; groups = refl; rules = refl; routers = refl; policies = refl; floatings = refl; ports = e }

  -- ports serve the project by the same routers and floating addresses
  abbrev pub ServeStill : RowLists → Type 0
  ServeStill new = Each (λ p. is_port_of_others project new p ≡ is_port_of_others project rows p) rows.ports

  pub with_routers : (xs : List RouterRow) → of_others (λ r. r.project) project xs ≡ of_others (λ r. r.project) project rows.routers → ServeStill (record rows { routers = xs })
      → Spares project rows (record rows { routers = xs })
  with_routers xs e still = record { projects = refl; networks = refl; subnets = refl; groups = refl; rules = refl; routers = e; policies = refl; floatings = refl; ports = filter_agree _ _ rows.ports still }

  pub with_floatings : (xs : List FloatingRow) → of_others (λ r. r.project) project xs ≡ of_others (λ r. r.project) project rows.floatings → ServeStill (record rows { floatings = xs })
      → Spares project rows (record rows { floatings = xs })
  with_floatings xs e still = record { projects = refl; networks = refl; subnets = refl; groups = refl; rules = refl; routers = refl; policies = refl; floatings = e; ports = filter_agree _ _ rows.ports still }

  -- a row of the project is none of others', nor is a port of it
  pub own_row : {R : Type 0} (owner_of : R → List ℕ) (x : R) → bytes_eq (owner_of x) project ≡ true → others owner_of project x ≡ false
  own_row owner_of x own = ap not own

  pub own_port : (p : PortRow) → bytes_eq p.project project ≡ true → is_port_of_others project rows p ≡ false
  own_port p own = ap (λ b. not (b || serves project rows p)) own

-- who owns

pub own_tenant : (caller : Caller) (project : List ℕ) → caller.admin ≡ false → is_own caller project ≡ true → bytes_eq project caller.project ≡ true
own_tenant caller project tenant h = ap (λ b. b || bytes_eq project caller.project) (sym tenant) ∙ h

pub or_fails : (a b : Bool) → a || b ≡ false → (a ≡ false) × (b ≡ false)
or_fails true b h = cc
or_fails false b h = (refl, h)

-- what is for administrators alone isn't asked for
pub unneeded : (caller : Caller) (needed : Bool) → caller.admin ≡ false → admin_only caller needed ≡ None → needed ≡ false
unneeded caller true tenant h = sym (ap not tenant) ∙ not_when (not caller.admin) _ h
unneeded caller false tenant h = refl

-- what is for its owner alone is own
pub owned : (caller : Caller) (project : List ℕ) → caller.admin ≡ false → owner_only caller project ≡ None → bytes_eq project caller.project ≡ true
owned caller project tenant h = own_tenant caller project tenant (not_false (is_own caller project) (not_when (not (is_own caller project)) _ h))

pub network_owned : (rows : RowLists) (caller : Caller) (i : Ident) → caller.admin ≡ false → network_owner rows caller true i ≡ None → owns_network rows caller.project i ≡ true
network_owned rows caller i tenant h =
    ap (λ b. b || owns_network rows caller.project i) (sym tenant) ∙ not_false (caller.admin || owns_network rows caller.project i) (not_when (not (caller.admin || owns_network rows caller.project i)) _ h)

-- where no other project is named, the caller's owns the new row
pub own_owner : (caller : Caller) (project tenant : Given (List ℕ)) → is_for_other caller project tenant ≡ false → owner_of caller project tenant ≡ caller.project
own_owner caller project tenant h =
    let both = or_fails (is_other caller project) (is_other caller tenant) h in
    named (value_or caller.project tenant) project (named caller.project tenant refl both.1) both.0
  where
    named : (old : List ℕ) (g : Given (List ℕ)) → old ≡ caller.project → is_other caller g ≡ false → value_or old g ≡ caller.project
    named old Absent was h = was
    named old Null was h = was
    named old (Is name) was h = bytes_same name caller.project (not_false (bytes_eq name caller.project) h)

-- the rows with an own row's id are own
abbrev pub AreOwn : {R : Type 0} → (R → Ident) → (R → List ℕ) → List ℕ → Ident → List R → Type 0
AreOwn id_of owner_of project i xs = Each (λ q. ident_eq i (id_of q) ≡ true → bytes_eq (owner_of q) project ≡ true) xs

pub own_alone : {R : Type 0} (id_of : R → Ident) (owner_of : R → List ℕ) (project : List ℕ) (xs : List R) (k : ℕ) (x : R) → times id_of (id_of x) xs ≤ 1 → slice_get xs k ≡ Some x
    → bytes_eq (owner_of x) project ≡ true → AreOwn id_of owner_of project (id_of x) xs
own_alone id_of owner_of project xs k x once at own j q at_q same =
    ap (λ y. bytes_eq (owner_of y) project) (one_row (λ y. ident_eq (id_of x) (id_of y)) xs once j k q x at_q at same (ident_itself (id_of x))) ∙ own

-- as the test that others' rows pass says it
pub none_of_others : {R : Type 0} (id_of : R → Ident) (owner_of : R → List ℕ) (project : List ℕ) (i : Ident) (xs : List R) → AreOwn id_of owner_of project i xs
    → Each (λ q. ident_eq i (id_of q) ≡ true → others owner_of project q ≡ false) xs
none_of_others id_of owner_of project i xs are k q at same = ap not (are k q at same)

pub no_port_of_others : (project : List ℕ) (rows : RowLists) (i : Ident) (xs : List PortRow) → AreOwn (λ q. q.id) (λ q. q.project) project i xs
    → Each (λ q. ident_eq i q.id ≡ true → is_port_of_others project rows q ≡ false) xs
no_port_of_others project rows i xs are k q at same = own_port project rows q (are k q at same)

module _ (rows : RowLists) (c : IsConsistent rows) where
  -- a network has one owner
  pub one_owner : (i : Ident) (a b : List ℕ) → is_network_of rows.networks a i ≡ true → is_network_of rows.networks b i ≡ true → bytes_eq a b ≡ true
  one_owner i a b of_a of_b =
      let x = any-at (λ (n : NetworkRow). ident_eq i n.id && bytes_eq n.project a) rows.networks of_a in
      let y = any-at (λ (n : NetworkRow). ident_eq i n.id && bytes_eq n.project b) rows.networks of_b in
      let at_x = and_both (ident_eq i x.1.id) (bytes_eq x.1.project a) x.3 in
      let at_y = and_both (ident_eq i y.1.id) (bytes_eq y.1.project b) y.3 in
      let same = one_row (λ (n : NetworkRow). ident_eq i n.id) rows.networks (omega (arith, c.numbered.ids i)) x.0 y.0 x.1 y.1 x.2 y.2 at_x.0 at_y.0 in
      ap (λ name. bytes_eq name b) (sym (bytes_same x.1.project a at_x.1) ∙ ap (λ (n : NetworkRow). n.project) same) ∙ at_y.1

  -- the network that an id names, of which the project is known to own it
  pub network_own : (project : List ℕ) (i : Ident) (k : ℕ) (n : NetworkRow) → slice_get rows.networks k ≡ Some n → ident_eq i n.id ≡ true → is_network_of rows.networks project i ≡ true → bytes_eq n.project project ≡ true
  network_own project i k n at is owns =
      let x = any-at (λ (n : NetworkRow). ident_eq i n.id && bytes_eq n.project project) rows.networks owns in
      let at_x = and_both (ident_eq i x.1.id) (bytes_eq x.1.project project) x.3 in
      ap (λ (m : NetworkRow). bytes_eq m.project project) (one_row (λ (n : NetworkRow). ident_eq i n.id) rows.networks (omega (arith, c.numbered.ids i)) k x.0 n x.1 at x.2 is at_x.0) ∙ at_x.1

  -- and the other way round
  pub owns_own : (project : List ℕ) (k : ℕ) (n : NetworkRow) → slice_get rows.networks k ≡ Some n → bytes_eq n.project project ≡ true → (i : Ident) → ident_eq n.id i ≡ true → is_network_of rows.networks project i ≡ true
  owns_own project k n at own i same =
      at-any (λ (m : NetworkRow). ident_eq i m.id && bytes_eq m.project project) rows.networks k n at (both_and _ _ (ap (λ j. ident_eq j n.id) (sym (ident_same n.id i same)) ∙ ident_itself n.id) own)

  -- a floating address that leads to a port is of its project
  pub leads_own : (project : List ℕ) (p : PortRow) → AreOwn (λ (q : PortRow). q.id) (λ (q : PortRow). q.project) project p.id rows.ports → (k : ℕ) (f : FloatingRow) → slice_get rows.floatings k ≡ Some f
      → is_some_so (λ (t : Target). ident_eq p.id t.port) f.target ≡ true → bytes_eq f.project project ≡ true
  leads_own project p are k f at leads = by f.target (c.floatings.targets k f at) leads
    where
      by : (o : Option Target) → if_some (leads_to rows.ports rows.routers f) o ≡ true → is_some_so (λ (t : Target). ident_eq p.id t.port) o ≡ true → bytes_eq f.project project ≡ true
      by None so h = false_true _ h
      by (Some t) so h =
          let there = (and_both (stands_so (λ (q : PortRow). q.id) t.port (is_target_port rows.ports f t) rows.ports) _ so).0 in
          let x = any-at (λ (q : PortRow). ident_eq t.port q.id && is_target_port rows.ports f t q) rows.ports there in
          let at_x = and_both (ident_eq t.port x.1.id) (is_target_port rows.ports f t x.1) x.3 in
          let same = bytes_same x.1.project f.project (and_both (bytes_eq x.1.project f.project) _ at_x.1).0 in
          ap (λ name. bytes_eq name project) (sym same) ∙ are x.0 x.1 x.2 (ap (λ j. ident_eq j x.1.id) (ident_same p.id t.port h) ∙ at_x.0)
