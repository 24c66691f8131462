-- A tenant is shown and listed the same rows of each kind wherever its footing is the same.
use Rattle.std.proofs.Common.{◌≡◌, ℕ, ◌≤◌, List, [], Bool, true, false, Option, Some, None, slice_get, refl, ap, sym, ◌∙◌, arith, map, not}
use Rattle.std.specs.Prelude.{◌||◌, filter}
use Rattle.std.specs.List.{list_any}
use Rattle.std.specs.Str.{bytes_eq}
use Rattle.api_policy.specs.Seen.{own_rows, router_seen}
use Rattle.api_machine.specs.WholeStep.{row_shown}
use Rattle.api_policy.specs.Visibility.{is_own, sees_row, sees_subnet}
use Rattle.api_policy.specs.Floatings.{floating_members}
use Rattle.api_policy.specs.Groups.{group_members, rule_members}
use Rattle.api_policy.specs.Listed.{behind_marker, cut, has_marker, listed, listed_in}
use Rattle.api_policy.specs.Policies.{policy_members}
use Rattle.api_policy.specs.Routers.{router_members}
use Rattle.api_policy.specs.Shown.{shown_as}
use Rattle.api_policy.specs.Subnets.{subnet_members}
use Rattle.apart_laws.specs.Footing.{blank_router, footing}
use Rattle.api_machine.specs.Reads.{marker_text, row_told, rows_listed}
use Rattle.api_types.specs.Refusing.{not_found, answer_alone, unless, when}
use Rattle.call_parts.specs.State.{State}
use Rattle.api_types.specs.Consistent.{IsConsistent}
use Rattle.api_types.specs.Ident.{Ident}
use Rattle.api_types.specs.Lists.{Each, is_some_so, stands_so, times}
use Rattle.api_types.specs.Outcome.{Outcome, Told}
use Rattle.api_types.specs.Printed.{ManyRows, NamedTree, OneRow}
use Rattle.api_types.specs.RowLists.{RowLists}
use Rattle.api_types.specs.Table.{ident_eq}
use Rattle.api_types.specs.declared.call.Caller.{Caller}
use Rattle.api_types.specs.declared.call.IdText.{IdText}
use Rattle.api_types.specs.declared.call.Query.{Query}
use Rattle.api_types.specs.declared.floating.FloatingRow.{FloatingRow}
use Rattle.api_types.specs.declared.group.GroupRow.{GroupRow}
use Rattle.api_types.specs.declared.group.RuleRow.{RuleRow}
use Rattle.api_types.specs.declared.kind.Kind.TheVariants.{Project, Network, Subnet, Port, Group, Rule, Router, Floating, Policy}
use Rattle.api_types.specs.declared.kind.Kind.{Kind}
use Rattle.api_types.specs.declared.router.RouterRow.{RouterRow}
use Rattle.api_types.specs.declared.subnet.SubnetRow.{SubnetRow}
use Rattle.net_settings.specs.Settings.{SettingsParts}
use Rattle.api_types.proofs.ListLemmas.{at_filter}
use Rattle.apart_laws.proofs.ListLemmas.{any-map, any-then, map-each, map-twice, map_pairs}
use Rattle.api_machine.proofs.ListsApart.{cards, cards_of, cards_printed, marker-filter, marker-map, networks_listed_apart, ports_listed_apart, seen_cards}
use Rattle.api_machine.proofs.NetworksShown.{network_shown_apart}
use Rattle.api_machine.proofs.PortsShown.{port_shown_apart}
use Rattle.apart_laws.proofs.ApartLemmas.{unless_same}
use Rattle.apart_laws.proofs.FootingLemmas.{needing_by}
use Rattle.apart_laws.proofs.GroupAlike.{group_id}
use Rattle.plan_groups.proofs.GroupsApart.{group_printed, group_rules}
use Rattle.api_machine.proofs.GroupsShown.{group_shown_apart, rule_shown_apart}
use Rattle.apart_laws.proofs.OwnAlike.{floatings_alike, groups_alike, own_here, policies_alike, router_id, routers_alike, routers_found, rules_alike, when_true}
use Rattle.plan_policies.proofs.PoliciesApart.{policy_id}
use Rattle.api_machine.proofs.PoliciesShown.{policy_shown_apart}
use Rattle.apart_laws.proofs.ServedAlike.{router_members_alike}

abbrev subnet_id : SubnetRow → Ident
subnet_id r = r.id

abbrev rule_id : RuleRow → Ident
rule_id r = r.id

abbrev floating_id : FloatingRow → Ident
floating_id r = r.id

-- a marker, where there is one, is an id that is seen
abbrev marks : (Ident → Bool) → Option IdText → Bool
marks sees None = true
marks sees (Some m) = is_some_so sees m.id

marker_is : (rows : RowLists) (caller : Caller) (kind : Kind) (marker : Option IdText) → has_marker rows caller kind marker ≡ marks (sees_row rows caller kind) marker
marker_is rows caller kind None = refl
marker_is rows caller kind (Some m) = refl

-- rows of a kind as they are listed
module _ {R : Type 0} (id_of : R → Ident) (kind : Kind) (admin : Bool) (q : Query) where
  abbrev sees_in : (R → Bool) → List R → Ident → Bool
  sees_in seen xs i = stands_so id_of i seen xs

  abbrev list_told : (R → Bool) → (R → List NamedTree) → List R → Outcome
  list_told seen members xs = unless (when (not (marks (sees_in seen xs) q.marker)) (not_found kind (marker_text q.marker))) (Told (ManyRows kind (listed_in id_of seen members kind admin q xs)))

  behind_seen : (seen : R → Bool) (xs : List R) → ((i : Ident) → times id_of i xs ≤ 1) → (marker : Option IdText) → marks (sees_in seen xs) marker ≡ true
      → filter seen (behind_marker id_of marker xs) ≡ behind_marker id_of marker (filter seen xs)
  behind_seen seen xs once None h = refl
  behind_seen seen xs once (Some m) h = marker-filter seen id_of xs once m h

  listed_printed : (seen : R → Bool) (members : R → List NamedTree) (xs : List R) → ((i : Ident) → times id_of i xs ≤ 1) → marks (sees_in seen xs) q.marker ≡ true
      → listed_in id_of seen members kind admin q xs ≡ cut q.limit (cards_of kind admin q (map members (behind_marker id_of q.marker (filter seen xs))))
  listed_printed seen members xs once h = ap (cut q.limit) (seen_cards seen members kind admin q (behind_marker id_of q.marker xs)
      ∙ (ap (cards members kind admin q) (behind_seen seen xs once q.marker h) ∙ cards_printed members kind admin q (behind_marker id_of q.marker (filter seen xs))))

  -- a row's id, and what is printed of it
  abbrev page_of : (R → List NamedTree) → R → Ident × List NamedTree
  page_of members r = (id_of r, members r)

  behind_pages : (members : R → List NamedTree) (xs : List R) → map members (behind_marker id_of q.marker xs) ≡ map (λ (z : Ident × List NamedTree). z.1) (behind_marker (λ (z : Ident × List NamedTree). z.0) q.marker (map (page_of members) xs))
  behind_pages members xs =
      sym (map-twice (page_of members) (λ (z : Ident × List NamedTree). z.1) (behind_marker id_of q.marker xs))
      ∙ ap (map (λ (z : Ident × List NamedTree). z.1)) (sym (marker-map (page_of members) id_of (λ (z : Ident × List NamedTree). z.0) (λ r. refl) q.marker xs))

  -- where the same is printed of the seen rows, which have the same ids, the same is told
  pages_alike : (seen seen' : R → Bool) (members members' : R → List NamedTree) (xs ys : List R) → ((i : Ident) → times id_of i xs ≤ 1) → ((i : Ident) → times id_of i ys ≤ 1)
      → map (page_of members) (filter seen xs) ≡ map (page_of members') (filter seen' ys) → answer_alone (list_told seen members xs) ≡ answer_alone (list_told seen' members' ys)
  pages_alike seen seen' members members' xs ys once once' alike =
      unless_same (when (not (marks (sees_in seen xs) q.marker)) (not_found kind (marker_text q.marker))) (when (not (marks (sees_in seen' ys) q.marker)) (not_found kind (marker_text q.marker)))
      (Told (ManyRows kind (listed_in id_of seen members kind admin q xs))) (Told (ManyRows kind (listed_in id_of seen' members' kind admin q ys)))
      (λ j. when (not (marks (λ i. sees i j) q.marker)) (not_found kind (marker_text q.marker)))
      (λ passes also. ap (λ rows. Told (ManyRows kind rows))
      (listed_printed seen members xs once (when_true _ (not_found kind (marker_text q.marker)) passes)
      ∙ (ap (λ zs. cut q.limit (cards_of kind admin q zs)) printed
      ∙ sym (listed_printed seen' members' ys once' (when_true _ (not_found kind (marker_text q.marker)) also)))))
    where
      sees : (i : Ident) → sees_in seen xs i ≡ sees_in seen' ys i
      sees i = any-then (λ r. ident_eq i (id_of r)) seen xs
          ∙ (sym (any-map (λ (z : Ident × List NamedTree). ident_eq i z.0) (page_of members) (filter seen xs))
          ∙ (ap (list_any (λ (z : Ident × List NamedTree). ident_eq i z.0)) alike
          ∙ (any-map (λ (z : Ident × List NamedTree). ident_eq i z.0) (page_of members') (filter seen' ys)
          ∙ sym (any-then (λ r. ident_eq i (id_of r)) seen' ys))))

      printed : map members (behind_marker id_of q.marker (filter seen xs)) ≡ map members' (behind_marker id_of q.marker (filter seen' ys))
      printed = behind_pages members (filter seen xs)
          ∙ (ap (λ zs. map (λ (z : Ident × List NamedTree). z.1) (behind_marker (λ (z : Ident × List NamedTree). z.0) q.marker zs)) alike
          ∙ sym (behind_pages members' (filter seen' ys)))

  -- so it is where they are the same rows
  list_alike : (seen seen' : R → Bool) (members members' : R → List NamedTree) (xs ys : List R) → ((i : Ident) → times id_of i xs ≤ 1) → ((i : Ident) → times id_of i ys ≤ 1)
      → filter seen xs ≡ filter seen' ys → Each (λ r. members r ≡ members' r) (filter seen xs) → answer_alone (list_told seen members xs) ≡ answer_alone (list_told seen' members' ys)
  list_alike seen seen' members members' xs ys once once' alike same = pages_alike seen seen' members members' xs ys once once'
      (map-each (page_of members) (page_of members') (filter seen xs) (λ k r at. λ j. (id_of r, same k r at j)) ∙ ap (map (page_of members')) alike)

module _ (settings : SettingsParts) (caller : Caller) (tenant : caller.admin ≡ false) (s t : State) (c : IsConsistent s.rows) (d : IsConsistent t.rows) (same : footing settings s caller ≡ footing settings t caller) where
  -- shows

  router_shown_apart : (name : IdText) (fields : List (List ℕ)) → answer_alone (row_shown s caller Router name fields) ≡ answer_alone (row_shown t caller Router name fields)
  router_shown_apart name fields = needing_by (not_found Router name.text) (router_seen s.rows caller name.id) (router_seen t.rows caller name.id)
      (λ r. Told (OneRow (shown_as Router caller.admin fields (router_members s.rows r)))) (λ r. Told (OneRow (shown_as Router caller.admin fields (router_members t.rows r)))) blank_router
      (routers_found settings caller tenant s t same name.id)
      (λ r o found_s found_t alike. let here = own_here caller tenant router_id (λ (r : RouterRow). r.project) name.id s.rows.routers r found_s in
      let there = own_here caller tenant router_id (λ (r : RouterRow). r.project) name.id t.rows.routers o found_t in
      ap (λ members. Told (OneRow (shown_as Router caller.admin fields members))) (router_members_alike settings caller s t c d same here.0 there.0 r o here.1 there.1 here.2 alike))

  pub shown_apart : (kind : Kind) (name : IdText) (fields : List (List ℕ)) → answer_alone (row_shown s caller kind name fields) ≡ answer_alone (row_shown t caller kind name fields)
  shown_apart Network name fields = network_shown_apart settings caller tenant s t same name fields
  shown_apart Port name fields = port_shown_apart settings caller tenant s t same c d name fields
  shown_apart Project name fields = refl
  shown_apart Subnet name fields = ap (λ f. answer_alone (row_told Subnet subnet_id subnet_members caller name fields f.subnets)) same
  shown_apart Group name fields = group_shown_apart settings caller tenant s t same c d name fields
  shown_apart Rule name fields = rule_shown_apart settings caller tenant s t same name fields
  shown_apart Router name fields = router_shown_apart name fields
  shown_apart Floating name fields = ap (λ rows. answer_alone (row_told Floating floating_id floating_members caller name fields rows)) (floatings_alike settings caller tenant s t same)
  shown_apart Policy name fields = policy_shown_apart settings caller tenant s t c d same name fields

  -- lists

  groups_printed : Each (λ g. group_members s.rows g ≡ group_members t.rows g) (own_rows (λ (r : GroupRow). r.project) caller s.rows.groups)
  groups_printed k g at =
      let here = at_filter (λ (r : GroupRow). is_own caller r.project) s.rows.groups k g at in
      let there = at_filter (λ (r : GroupRow). is_own caller r.project) t.rows.groups k g (ap (λ rows. slice_get rows k) (sym (groups_alike settings caller tenant s t same)) ∙ at) in
      ap (group_printed g) (group_rules s.rows caller c here.0 g here.1 (mine g here.2)
      ∙ (ap (λ f. filter (λ (r : RuleRow). ident_eq g.id r.group) f.rules) same ∙ sym (group_rules t.rows caller d there.0 g there.1 (mine g there.2))))
    where
      mine : (g : GroupRow) → is_own caller g.project ≡ true → bytes_eq g.project caller.project ≡ true
      mine g h = sym (ap (λ b. b || bytes_eq g.project caller.project) tenant) ∙ h

  abbrev router_page : State → RouterRow → Ident × List NamedTree
  router_page state r = (r.id, router_members state.rows r)

  routers_printed : map (router_page s) (own_rows (λ (r : RouterRow). r.project) caller s.rows.routers) ≡ map (router_page t) (own_rows (λ (r : RouterRow). r.project) caller t.rows.routers)
  routers_printed = map_pairs blank_router (router_page s) (router_page t) (own_rows (λ (r : RouterRow). r.project) caller s.rows.routers) (own_rows (λ (r : RouterRow). r.project) caller t.rows.routers)
      (routers_alike settings caller tenant s t same)
      (λ k r o at_r at_o alike.
      let here = at_filter (λ (r : RouterRow). is_own caller r.project) s.rows.routers k r at_r in
      let there = at_filter (λ (r : RouterRow). is_own caller r.project) t.rows.routers k o at_o in
      let members = router_members_alike settings caller s t c d same here.0 there.0 r o here.1 there.1 (sym (ap (λ b. b || bytes_eq r.project caller.project) tenant) ∙ here.2) alike in
      λ j. ((alike j).id, members j))

  -- a list of a kind, with its marker written out
  abbrev kind_told : State → Kind → Query → Outcome
  kind_told state kind q = unless (when (not (marks (sees_row state.rows caller kind) q.marker)) (not_found kind (marker_text q.marker))) (Told (ManyRows kind (listed state.rows caller kind q)))

  kind_is : (state : State) (kind : Kind) (q : Query) → rows_listed state.rows caller kind q ≡ kind_told state kind q
  kind_is state kind q = λ j. unless (when (not (marker_is state.rows caller kind q.marker j)) (not_found kind (marker_text q.marker))) (Told (ManyRows kind (listed state.rows caller kind q)))

  by_kind : (kind : Kind) (q : Query) → answer_alone (kind_told s kind q) ≡ answer_alone (kind_told t kind q) → answer_alone (rows_listed s.rows caller kind q) ≡ answer_alone (rows_listed t.rows caller kind q)
  by_kind kind q alike = ap answer_alone (kind_is s kind q) ∙ (alike ∙ sym (ap answer_alone (kind_is t kind q)))

  pub listed_apart : (kind : Kind) (q : Query) → answer_alone (rows_listed s.rows caller kind q) ≡ answer_alone (rows_listed t.rows caller kind q)
  listed_apart Network q = networks_listed_apart settings caller tenant s t c d same q
  listed_apart Port q = ports_listed_apart settings caller tenant s t c d same q
  listed_apart Project q = by_kind Project q (projects q.marker)
    where
      projects : (marker : Option IdText) → answer_alone (unless (when (not (marks (λ i. false) marker)) (not_found Project (marker_text marker))) (Told (ManyRows Project [])))
          ≡ answer_alone (unless (when (not (marks (λ i. false) marker)) (not_found Project (marker_text marker))) (Told (ManyRows Project [])))
      projects marker = refl
  listed_apart Subnet q = by_kind Subnet q (list_alike subnet_id Subnet caller.admin q (sees_subnet s.rows caller) (sees_subnet t.rows caller) subnet_members subnet_members s.rows.subnets t.rows.subnets
      (λ i. omega (arith, c.numbered.ids i)) (λ i. omega (arith, d.numbered.ids i)) (ap (λ f. f.subnets) same) (λ k r at. refl))
  listed_apart Group q = by_kind Group q (list_alike group_id Group caller.admin q (λ r. is_own caller r.project) (λ r. is_own caller r.project) (group_members s.rows) (group_members t.rows) s.rows.groups t.rows.groups
      (λ i. omega (arith, c.numbered.ids i)) (λ i. omega (arith, d.numbered.ids i)) (groups_alike settings caller tenant s t same) groups_printed)
  listed_apart Rule q = by_kind Rule q (list_alike rule_id Rule caller.admin q (λ r. is_own caller r.project) (λ r. is_own caller r.project) rule_members rule_members s.rows.rules t.rows.rules
      (λ i. omega (arith, c.numbered.ids i)) (λ i. omega (arith, d.numbered.ids i)) (rules_alike settings caller tenant s t same) (λ k r at. refl))
  listed_apart Router q = by_kind Router q (pages_alike router_id Router caller.admin q (λ r. is_own caller r.project) (λ r. is_own caller r.project) (router_members s.rows) (router_members t.rows) s.rows.routers t.rows.routers
      (λ i. omega (arith, c.numbered.ids i)) (λ i. omega (arith, d.numbered.ids i)) routers_printed)
  listed_apart Floating q = by_kind Floating q (list_alike floating_id Floating caller.admin q (λ r. is_own caller r.project) (λ r. is_own caller r.project) floating_members floating_members s.rows.floatings t.rows.floatings
      (λ i. omega (arith, c.numbered.ids i)) (λ i. omega (arith, d.numbered.ids i)) (floatings_alike settings caller tenant s t same) (λ k r at. refl))
  listed_apart Policy q = by_kind Policy q (list_alike policy_id Policy caller.admin q (λ r. is_own caller r.project) (λ r. is_own caller r.project) policy_members policy_members s.rows.policies t.rows.policies
      (λ i. omega (arith, c.numbered.ids i)) (λ i. omega (arith, d.numbered.ids i)) (policies_alike settings caller tenant s t same) (λ k r at. refl))
