-- Accepted calls on networks keep rows consistent.
use Rattle.std.proofs.Common.{lit<, Bool, List, None, Option, Some, [], ap, arith, false, length, not, refl, slice_get, slice_set, subst, suc, sym, true, zero, ℕ, ◌+◌, ◌<◌, ◌≤◌, ◌∙◌, ◌++◌, ◌∷◌, ◌≡◌, ◌-◌, ◌^◌}
use Rattle.std.proofs.lemmas.Bool.Decides.{nat_tests, Decides-eqb}
use Rattle.plan_networks.specs.NetworkCalls.{changed_network, closing, creation_refusal, deletion_refusal, is_cleared, is_kept, is_opened, network_added, network_changed, network_created, network_deleted, network_edits, network_gone, network_shown, network_updated, new_network, new_open_policy, one_if, opening, openings, openings_count, opens, reopening, update_refusal}
use Rattle.api_ml2.specs.Segments.{asked_segment, chosen_segment, fits_type, is_bad_number, is_bad_physical, least_number, network_with, segment_in_use, segment_of_type, segment_or}
use Rattle.kept_laws.proofs.CarriedKept.{IsCarriedEdit, made_carried}
use Rattle.kept_laws.proofs.CallLemmas.{unmapped, mapped}
use Rattle.kept_laws.proofs.ChoiceLemmas.{from_passes}
use Rattle.plan_networks.proofs.NetworkDropped.{network_rows_gone}
use Rattle.kept_laws.proofs.EditedRows.{none_refused, put_at, filter_has}
use Rattle.kept_laws.proofs.FixedFits.{each_append, each_cons, each_none}
use Rattle.kept_laws.proofs.GivenLemmas.{has_name}
use Rattle.plan_networks.proofs.OpenNeeds.{unneeded}
use Rattle.plan_networks.proofs.OpenPolicies.{IsOpenBy, IsReopened, more_granted, open_by, opened, reopened_keeps}
use Rattle.kept_laws.proofs.DrawnIds.{drawn_differ}
use Rattle.kept_laws.proofs.ServiceMade.{drawing_is, from_bounds}
use Rattle.kept_laws.proofs.TypedKept.{HaveKept, IsTypedEdit, drawing_typed, made_typed}
use Rattle.kept_laws.proofs.OutcomeLemmas.{if_some as if_some_moved, moved_rows, named_is, needing_moved, not_when, unfound, unless_moved, found_at}
use Rattle.net_settings.specs.Rules.{MeetsRules}
use Rattle.row_laws.proofs.DrawnKept.{drawing_carried, draws}
use Rattle.row_laws.specs.Drawn.{IsDrawing}
use Rattle.api_types.proofs.ListLemmas.{at_filter, each-filter, or_true, and_both, any-at, at-any, count-none, each-push, false_true, none-any, none-counted, none_some, or_none, some_equal}
use Rattle.api_types.proofs.NameLemmas.{count-set, and_fails, by_test, bytes_same, fails_by, first_fails, ident_sym, not_false, not_true, unnamed}
use Rattle.api_types.specs.declared.form.NetworkType.TheVariants.{Local as LocalType, Flat as FlatType, Vlan as VlanType, Vxlan as VxlanType}
use Rattle.api_types.specs.declared.form.NetworkType.{NetworkType}
use Rattle.api_types.specs.declared.network.Segment.TheVariants.{Local, Flat, Vlan, Vxlan}
use Rattle.api_types.specs.declared.network.Segment.{Segment}
use Rattle.api_types.specs.declared.form.Form.TheVariants.{Network as NetworkOf}
use Rattle.api_types.specs.declared.form.NetworkForm.{NetworkForm}
use Rattle.api_types.specs.declared.kind.Row.TheVariants.{Network, Policy}
use Rattle.plan_networks.specs.NetworkRules.{bad_wire}
use Rattle.api_policy.specs.Uses.{network_in_use, is_network_user, used_by_port, open_policy, open_in_use}
use Rattle.api_types.specs.declared.refusal.Refusal.TheVariants.{CountersSpent, Invalid, NoNetwork}
use Rattle.api_types.specs.declared.refusal.UseRule.TheVariants.{NetworkInUse}
use Rattle.api_types.specs.Consistent.Segments.{most_networks, same_segment}
use Rattle.api_types.specs.Consistent.InForm.{is_segment}
use Rattle.api_types.specs.Owners.{is_dhcp}
use Rattle.api_policy.specs.Seen.{network_seen}
use Rattle.api_types.proofs.IdLemmas.{fresh-push}
use Rattle.row_laws.proofs.TimesLemmas.{times-network, times-policy}
use Rattle.row_laws.proofs.NetworkCreated.{network_created as made_kept, vxlan_alone}
use Rattle.row_laws.proofs.NetworkGone.{gone_carried, network_gone as network_off}
use Rattle.row_laws.specs.Gone.{IsUnused}
use Rattle.row_laws.specs.NewRows.{IsAlone, with_network, with_policy}
use Rattle.call_parts.specs.Edits.{Add, Drop, Put, accepted, made}
use Rattle.api_types.specs.WithRows.{put_in, with_put}
use Rattle.call_parts.specs.InForm.{IsFormed, are_owners, is_network_body}
use Rattle.api_policy.specs.Permits.{admin_only, owner_only}
use Rattle.api_policy.specs.PolicyNeeds.{policy_user}
use Rattle.api_policy.specs.Quotas.{over_quota}
use Rattle.api_ml2.specs.Carrying.{carries}
use Rattle.api_policy.specs.Visibility.{sees_network}
use Rattle.api_policy.specs.Networks.{permits_all}
use Rattle.api_types.specs.Given.{are_unlike, owner_of, value_of, value_or}
use Rattle.api_ml2.specs.Numbers.{is_taken}
use Rattle.api_types.specs.Refusing.{needing, not_found, unless, when}
use Rattle.call_parts.specs.State.{State, drawing_at, is_last}
use Rattle.api_types.specs.Consistent.{IsConsistent}
use Rattle.api_types.specs.Consistent.Carried.{AreCarried}
use Rattle.api_types.specs.Consistent.Named.{is_network}
use Rattle.api_types.specs.Consistent.Numbered.{is_drawn, times_in}
use Rattle.api_types.specs.Ident.{Ident}
use Rattle.api_types.specs.Lists.{Each, is_empty}
use Rattle.api_types.specs.Outcome.{Moved, Outcome}
use Rattle.api_types.specs.Printed.{NoRow, OneRow, Reply}
use Rattle.api_types.specs.Registration.{Drawing, draw_of, drawn_id}
use Rattle.api_types.specs.RowLists.{RowLists}
use Rattle.api_types.specs.Sharing.{grants}
use Rattle.api_types.specs.Table.{ident_eq}
use Rattle.api_types.specs.declared.call.Call.TheVariants.{Create}
use Rattle.api_types.specs.declared.call.Caller.{Caller}
use Rattle.api_types.specs.declared.call.IdText.{IdText}
use Rattle.api_types.specs.declared.kind.Kind.TheVariants.{Network as NetworkKind, Policy as PolicyKind}
use Rattle.api_types.specs.declared.network.NetworkRow.{NetworkRow}
use Rattle.api_types.specs.declared.policy.Action.{Action}
use Rattle.api_types.specs.declared.policy.Action.TheVariants.{External, Shared}
use Rattle.api_types.specs.declared.policy.PolicyRow.{PolicyRow}
use Rattle.api_types.specs.declared.port.PortRow.{PortRow}
use Rattle.api_types.specs.declared.refusal.Refusal.{Refusal}
use Rattle.api_types.specs.declared.subnet.SubnetRow.{SubnetRow}
use Rattle.net_addr.specs.Prefixes.{IsPrefix}
use Rattle.net_settings.specs.Settings.{SettingsParts}
use Rattle.std.specs.Prelude.{codes, filter, find, if◌then◌else◌, nat_le, ◌&&◌, ◌==◌, ◌||◌}
use Rattle.std.specs.Str.{bytes_eq}
use Rattle.row_laws.proofs.NetworkPushed as pushed
use Rattle.row_laws.proofs.NetworkReplaced as replaced
use Rattle.api_policy.specs.Reserved.{network_for_admin}
use Rattle.call_parts.proofs.EditLemmas.{made-append}
use Rattle.call_parts.proofs.DrawnLemmas.{drawn_is}
use Rattle.call_parts.proofs.OwnerLemmas.{owner_named}

-- taking a network out

unused_network : (state : State) (caller : Caller) (n : NetworkRow) → deletion_refusal state caller n ≡ None → IsUnused state.rows n.id
unused_network state caller n passed k p at on =
    let used = network_in_use state.rows caller n.id in
    let os = owner_only caller n.project ∷ used ∷ when (is_last state) CountersSpent ∷ [] in
    let none = unmapped (used_by_port state.rows caller NetworkInUse NetworkKind n.id) (find (is_network_user n.id) state.rows.ports) (none_refused os passed 1 used refl) in
    not_false (is_dhcp p.owner) (sym (ap (λ b. b && not (is_dhcp p.owner)) on) ∙ unfound (is_network_user n.id) state.rows.ports none k p at)

pub network_deleted_kept : (settings : SettingsParts) (state : State) (caller : Caller) (name : IdText) (rows : RowLists) (reply : Reply) → IsConsistent state.rows
    → network_deleted state caller name ≡ Moved rows reply → HaveKept settings state.rows rows
network_deleted_kept settings state caller name rows reply c h =
    let gone : NetworkRow → Outcome = λ n. accepted state.rows (network_gone state.rows n.id) (λ after. NoRow) in
    let rest : NetworkRow → Outcome = λ n. unless (deletion_refusal state caller n) (gone n) in
    let found = needing_moved (not_found NetworkKind name.text) (network_seen state.rows caller name.id) rest rows reply h in
    let n : NetworkRow = found.0 in
    let passed = unless_moved (deletion_refusal state caller n) (gone n) rows reply found.2 in
    let unused = unused_network state caller n passed.0 in
    subst (HaveKept settings state.rows) (sym (network_rows_gone state.rows c n.id) ∙ moved_rows (made state.rows (network_gone state.rows n.id)) rows _ reply passed.1) (record {
      consistent = network_off state.rows n.id c unused;
      typed = λ t. record {
        prefixes = each-filter (λ (s : SubnetRow). not (ident_eq n.id s.network)) (λ (s : SubnetRow). IsPrefix s.prefix) (λ (s : SubnetRow). IsPrefix s.prefix) state.rows.subnets (λ s kept is. is) t.prefixes;
        macs = each-filter (λ (p : PortRow). not (ident_eq n.id p.network)) (λ (p : PortRow). p.mac < 2 ^ 48) (λ (p : PortRow). p.mac < 2 ^ 48) state.rows.ports (λ p kept is. is) t.macs;
      };
      carried = gone_carried state.rows n.id c unused (carries settings.hosts);
    })

-- the segment of a new network

-- one that is equal to a segment that is asked for
segment_like : (segment own other : Segment) → same_segment segment own ≡ true → same_segment segment other ≡ true → same_segment own other ≡ true
segment_like Local own other h g = false_true _ h
segment_like (Flat a) Local other h g = false_true _ h
segment_like (Flat a) (Flat b) Local h g = false_true _ g
segment_like (Flat a) (Flat b) (Flat e) h g = ap (λ x. bytes_eq x e) (sym (bytes_same a b h)) ∙ g
segment_like (Flat a) (Flat b) (Vlan e s) h g = false_true _ g
segment_like (Flat a) (Flat b) (Vxlan n) h g = false_true _ g
segment_like (Flat a) (Vlan b s) other h g = false_true _ h
segment_like (Flat a) (Vxlan n) other h g = false_true _ h
segment_like (Vlan a s) Local other h g = false_true _ h
segment_like (Vlan a s) (Flat b) other h g = false_true _ h
segment_like (Vlan a s) (Vlan b t) Local h g = false_true _ g
segment_like (Vlan a s) (Vlan b t) (Flat e) h g = false_true _ g
segment_like (Vlan a s) (Vlan b t) (Vlan e u) h g =
    let x = and_both (bytes_eq a b) (s == t) h in
    ap (λ z. bytes_eq z e && (t == u)) (sym (bytes_same a b x.0)) ∙ (ap (λ z. bytes_eq a e && (z == u)) (sym ((Decides-eqb s t).0 x.1)) ∙ g)
segment_like (Vlan a s) (Vlan b t) (Vxlan n) h g = false_true _ g
segment_like (Vlan a s) (Vxlan n) other h g = false_true _ h
segment_like (Vxlan m) Local other h g = false_true _ h
segment_like (Vxlan m) (Flat b) other h g = false_true _ h
segment_like (Vxlan m) (Vlan b t) other h g = false_true _ h
segment_like (Vxlan m) (Vxlan n) Local h g = false_true _ g
segment_like (Vxlan m) (Vxlan n) (Flat e) h g = false_true _ g
segment_like (Vxlan m) (Vxlan n) (Vlan e u) h g = false_true _ g
segment_like (Vxlan m) (Vxlan n) (Vxlan k) h g = ap (λ z. z == k) (sym ((Decides-eqb m n).0 h)) ∙ g

-- a segment that is asked for and that no network has is alone
asked_alone : (networks : List NetworkRow) (own : Segment) → segment_in_use networks (Some own) ≡ None → IsAlone networks own
asked_alone networks own h segment same = count-none (λ (m : NetworkRow). same_segment segment m.segment) networks (λ k m at.
    fails_by (same_segment segment m.segment) (same_segment own m.segment) (segment_like segment own m.segment same)
    (unfound (λ (n : NetworkRow). same_segment own n.segment) networks (unmapped _ (network_with networks own) h) k m at))

-- and it is in form
asked_form : (type : Option NetworkType) (physical : List ℕ) (n : Option ℕ) (own : Segment) → fits_type type n ≡ true → segment_of_type type physical n ≡ Some own → is_segment own ≡ true
asked_form None physical n own fits h = none_some own _ h
asked_form (Some LocalType) physical n own fits h = ap is_segment (sym (some_equal Local own h))
asked_form (Some FlatType) physical n own fits h = ap is_segment (sym (some_equal (Flat physical) own h))
asked_form (Some VlanType) physical None own fits h = none_some own _ h
asked_form (Some VlanType) physical (Some k) own fits h = ap is_segment (sym (some_equal (Vlan physical k) own h)) ∙ fits
asked_form (Some VxlanType) physical None own fits h = none_some own _ h
asked_form (Some VxlanType) physical (Some k) own fits h = ap is_segment (sym (some_equal (Vxlan k) own h)) ∙ fits

pub record IsGoodSegment (networks : List NetworkRow) (segment : Segment) : Type 0 where
  pub few : length networks < most_networks
  pub form : is_segment segment ≡ true
  pub alone : IsAlone networks segment

in_range : (n : ℕ) → 1 ≤ n → n ≤ 16777215 → (nat_le 1 n && nat_le n 16777215) ≡ true
in_range n low high = grind (arith, nat_tests, low, high)

segment_good : (settings : SettingsParts) (networks : List NetworkRow) (asked : Option Segment) (segment : Segment) → MeetsRules settings
    → ((own : Segment) → asked ≡ Some own → is_segment own ≡ true) → segment_in_use networks asked ≡ None → chosen_segment settings networks asked ≡ Some segment → IsGoodSegment networks segment
segment_good settings networks asked segment rules form unused h =
    let some = if_some_moved (nat_le most_networks (length networks)) (segment_or settings networks asked) segment h in
    let full : nat_le 4000 (length networks) ≡ false = some.0 in
    let few : length networks < most_networks = grind (arith, nat_tests, full) in
    by few asked refl some.1
  where
    by : length networks < most_networks → (o : Option Segment) → asked ≡ o → segment_or settings networks o ≡ Some segment → IsGoodSegment networks segment
    by few (Some own) e g =
        let same = some_equal own segment g in
        subst (IsGoodSegment networks) same (record { few = few; form = form own e; alone = asked_alone networks own (ap (segment_in_use networks) (sym e) ∙ unused) })
    by few None e g =
        let number = mapped Vxlan (least_number settings networks) segment g in
        let n : ℕ = number.0 in
        let bounds = from_bounds (λ k. not (is_taken networks k)) (settings.vxlan_last + 1 - settings.vxlan_first) settings.vxlan_first n number.1 in
        let order = rules.in_order in
        let first = rules.first_positive in
        let last = rules.last_small in
        let free = not_true (is_taken networks n) (from_passes (λ k. not (is_taken networks k)) (settings.vxlan_last + 1 - settings.vxlan_first) settings.vxlan_first n number.1) in
        subst (IsGoodSegment networks) number.2 (record {
          few = few;
          form = in_range n (omega (arith, bounds.0, first)) (omega (arith, bounds.0, bounds.1, order, last));
          alone = vxlan_alone networks n free;
        })

-- the policies of a network that is made, or changed

opening_policies : (n : NetworkRow) (action : Action) (i : Ident) (b : Bool) → (Each IsTypedEdit (opening n action i b)) × ((can : List ℕ → Segment → Bool) (networks : List NetworkRow) → Each (IsCarriedEdit can networks) (opening n action i b))
opening_policies n action i false = (each_none IsTypedEdit, λ can networks. each_none (IsCarriedEdit can networks))
opening_policies n action i true = (
  each_cons IsTypedEdit (Add (Policy (new_open_policy n action i))) [] tt (each_none IsTypedEdit),
  λ can networks. each_cons (IsCarriedEdit can networks) (Add (Policy (new_open_policy n action i))) [] tt (each_none (IsCarriedEdit can networks)),
)

-- one is made of a network, where it is asked for
opened_if : (rows : RowLists) (c : IsConsistent rows) (k : ℕ) (n : NetworkRow) (at : slice_get rows.networks k ≡ Some n) (action : Action) (i : Ident) (b : Bool)
    → (b ≡ true → (times_in rows i ≡ 0) × (is_drawn rows.projects i ≡ true)) → Each (λ q. permits_all n.id action q ≡ false) rows.policies → IsConsistent (made rows (opening n action i b))
opened_if rows c k n at action i false ids none = c
opened_if rows c k n at action i true ids none = let of_ids = ids refl in opened rows c k n at action i of_ids.0 of_ids.1 none

-- a new policy of one action is none of the other
other_action : (n : NetworkRow) (i : Ident) → permits_all n.id External (new_open_policy n Shared i) ≡ false
other_action n i = and_fails (ident_eq n.id n.id) _ refl

last_at : (networks : List NetworkRow) (n : NetworkRow) → slice_get (networks ++ n ∷ []) (length networks) ≡ Some n
last_at [] n = refl
last_at (m ∷ networks) n = last_at networks n

-- no policy is on a network whose id is new
no_policy : (rows : RowLists) → IsConsistent rows → (i : Ident) → times_in rows i ≡ 0 → (action : Action) → Each (λ q. permits_all i action q ≡ false) rows.policies
no_policy rows c i fresh action k q at =
    let none : is_network rows.networks i ≡ false = none-counted (λ (m : NetworkRow). ident_eq i m.id) rows.networks (omega (arith, fresh)) in
    first_fails (ident_eq i q.object) _ (unnamed (λ (m : NetworkRow). m.id) i rows.networks (λ (l : PolicyRow). l.object) rows.policies none c.named.networks.of_policies k q at)

few_ids : (a b : Bool) → 5 + (1 + (one_if a + one_if b)) < 2 ^ 62
few_ids true true = lit< tt
few_ids true false = lit< tt
few_ids false true = lit< tt
few_ids false false = lit< tt

-- the network that is made, with its policies

module _ (settings : SettingsParts) (rows : RowLists) (c : IsConsistent rows) (name : List ℕ) (has : not (is_empty name) ≡ true) (shared external : Bool) (d : Drawing) (drew : draw_of rows name (1 + (one_if shared + one_if external)) ≡ Some d)
    (n : NetworkRow) (id : n.id ≡ drawn_id d 0) (project : n.project ≡ name) (good : IsGoodSegment rows.networks n.segment) where
  abbrev many : ℕ
  many = 1 + (one_if shared + one_if external)

  drawn : IsDrawing rows name many d
  drawn = draws rows name many d c has (few_ids shared external) drew

  abbrev first : RowLists
  first = with_network d.rows n

  first_is : IsConsistent first
  first_is = made_kept rows name many d n c has (omega arith) (few_ids shared external) drew (record { id = id; project = project; segment = good.form; alone = good.alone; few = good.few })

  new_id : times_in d.rows n.id ≡ 0
  new_id = ap (times_in d.rows) id ∙ drawn.fresh 0 (omega arith)

  -- the next ids are new still
  next_fresh : (k : ℕ) → 0 < k → k < many → times_in first (drawn_id d k) ≡ 0
  next_fresh k later within = fresh-push d.rows first n.id (drawn_id d k) (λ j. times-network d.rows j n) (ap (ident_eq (drawn_id d k)) id ∙ drawn_differ d 0 k later) (drawn.fresh k within)

  shared_is : IsConsistent (made first (opening n Shared (drawn_id d 1) shared))
  shared_is = opened_if first first_is (length d.rows.networks) n (last_at d.rows.networks n) Shared (drawn_id d 1) shared
      (λ is. let one : one_if shared ≡ 1 = ap one_if is in (next_fresh 1 (lit< tt) (omega (arith, one)), drawn.drawn 1 (omega (arith, one))))
      (no_policy d.rows drawn.consistent n.id new_id Shared)

  external_is : (b : Bool) → shared ≡ b → IsConsistent (made first (opening n Shared (drawn_id d 1) b)) → IsConsistent (made (made first (opening n Shared (drawn_id d 1) b)) (opening n External (drawn_id d (1 + one_if b)) external))
  external_is false e kept = opened_if first kept (length d.rows.networks) n (last_at d.rows.networks n) External (drawn_id d 1) external
      (λ is. let one : one_if external ≡ 1 = ap one_if is in (next_fresh 1 (lit< tt) (omega (arith, one)), drawn.drawn 1 (omega (arith, one))))
      (no_policy d.rows drawn.consistent n.id new_id External)
  external_is true e kept =
      let l : PolicyRow = new_open_policy n Shared (drawn_id d 1) in
      opened_if (with_policy first l) kept (length d.rows.networks) n (last_at d.rows.networks n) External (drawn_id d 2) external
      (λ is.
      let one : one_if external ≡ 1 = ap one_if is in
      let two : one_if shared ≡ 1 = ap one_if e in
      (fresh-push first (with_policy first l) l.id (drawn_id d 2) (λ j. times-policy first j l) (drawn_differ d 1 2 (lit< tt)) (next_fresh 2 (lit< tt) (omega (arith, one, two))), drawn.drawn 2 (omega (arith, one, two))))
      (each-push (λ q. permits_all n.id External q ≡ false) d.rows.policies l (no_policy d.rows drawn.consistent n.id new_id External) (other_action n (drawn_id d 1)))

  pub network_with_policies : HaveKept settings rows (made d.rows (Add (Network n) ∷ openings n d 1 shared external))
  network_with_policies =
      let es = opening n Shared (drawn_id d 1) shared in
      let fs = opening n External (drawn_id d (1 + one_if shared)) external in
      let a = opening_policies n Shared (drawn_id d 1) shared in
      let b = opening_policies n External (drawn_id d (1 + one_if shared)) external in
      record {
        consistent = subst IsConsistent (sym (made-append first es fs)) (external_is shared refl shared_is);
        typed = λ t. made_typed d.rows (Add (Network n) ∷ es ++ fs) (drawing_typed rows name many d drawn t) (each_cons IsTypedEdit (Add (Network n)) (es ++ fs) tt (each_append IsTypedEdit es fs a.0 b.0));
        carried = λ held. made_carried (carries settings.hosts) first (es ++ fs) (pushed.are_carried d.rows.networks n (carries settings.hosts) (drawing_carried (carries settings.hosts) rows name many d drawn held))
            (each_append (IsCarriedEdit (carries settings.hosts) first.networks) es fs (a.1 (carries settings.hosts) first.networks) (b.1 (carries settings.hosts) first.networks));
      }

pub network_created_kept : (settings : SettingsParts) (state : State) (caller : Caller) (form : NetworkForm) (rows : RowLists) (reply : Reply) → MeetsRules settings → IsConsistent state.rows → IsFormed caller (Create (NetworkOf form))
    → network_created settings state caller form ≡ Moved rows reply → HaveKept settings state.rows rows
network_created_kept settings state caller form rows reply rules c formed h =
    let whole = and_both (not (is_empty caller.project)) (is_network_body form) formed in
    let owners = (and_both (are_owners form.project_id form.tenant_id) _ whole.1).0 in
    let owner : List ℕ = owner_of caller form.project_id form.tenant_id in
    let named = owner_named caller form.project_id form.tenant_id whole.0 owners in
    let many : ℕ = 1 + openings_count form in
    let add : Segment → Drawing → Outcome = λ segment d. network_added caller d form (new_network owner form (drawn_id d 0) segment) in
    let draw : Segment → Outcome = λ segment. needing CountersSpent (drawing_at state owner many) (add segment) in
    let choose : Outcome = needing NoNetwork (chosen_segment settings state.rows.networks (asked_segment form)) draw in
    let passed = unless_moved (creation_refusal settings state.rows caller form owner) choose rows reply h in
    let chosen = needing_moved NoNetwork (chosen_segment settings state.rows.networks (asked_segment form)) draw rows reply passed.1 in
    let segment : Segment = chosen.0 in
    let drawing = needing_moved CountersSpent (drawing_at state owner many) (add segment) rows reply chosen.2 in
    let d : Drawing = drawing.0 in
    let bad : Option Refusal = when (is_bad_number form) (Invalid (codes "provider:segmentation_id")) in
    let used : Option Refusal = segment_in_use state.rows.networks (asked_segment form) in
    let os = when (is_bad_physical form) (Invalid (codes "provider:physical_network")) ∷ bad ∷ when (are_unlike form.project_id form.tenant_id) (Invalid (codes "tenant_id"))
    ∷ bad_wire settings form ∷ admin_only caller (network_for_admin caller form) ∷ used ∷ over_quota settings state.rows owner NetworkKind ∷ [] in
    let none = none_refused os passed.0 in
    let fits = not_false (fits_type (value_of form.provider_network_type) (value_of form.provider_segmentation_id)) (not_when (is_bad_number form) (Invalid (codes "provider:segmentation_id")) (none 1 bad refl)) in
    let good = segment_good settings state.rows.networks (asked_segment form) segment rules
    (λ own is. asked_form (value_of form.provider_network_type) (value_or [] form.provider_physical_network) (value_of form.provider_segmentation_id) own fits is) (none 5 used refl) chosen.1 in
    let shared : Bool = value_or false form.shared in
    let external : Bool = value_or false form.router_external in
    let n : NetworkRow = new_network owner form (drawn_id d 0) segment in
    subst (HaveKept settings state.rows) (moved_rows (made d.rows (Add (Network n) ∷ openings n d 1 shared external)) rows _ reply drawing.2)
    (network_with_policies settings state.rows c owner named shared external d (drawn_is state owner many d drawing.1) n refl refl good)

-- changing a network, with the policies that come and go

two_ids : (a b : Bool) → 5 + (one_if a + one_if b) < 2 ^ 62
two_ids true true = lit< tt
two_ids true false = lit< tt
two_ids false true = lit< tt
two_ids false false = lit< tt

closing_edits : (old : Option PolicyRow) (b : Bool) → (Each IsTypedEdit (closing old b)) × ((can : List ℕ → Segment → Bool) (networks : List NetworkRow) → Each (IsCarriedEdit can networks) (closing old b))
closing_edits None b = (each_none IsTypedEdit, λ can networks. each_none (IsCarriedEdit can networks))
closing_edits (Some l) false = (each_none IsTypedEdit, λ can networks. each_none (IsCarriedEdit can networks))
closing_edits (Some l) true = (
  each_cons IsTypedEdit (Drop PolicyKind l.id) [] tt (each_none IsTypedEdit),
  λ can networks. each_cons (IsCarriedEdit can networks) (Drop PolicyKind l.id) [] tt (each_none (IsCarriedEdit can networks)),
)

module _ (settings : SettingsParts) (rows : RowLists) (c : IsConsistent rows) (caller : Caller) (k : ℕ) (n : NetworkRow) (at : slice_get rows.networks k ≡ Some n) (form : NetworkForm) (d : Drawing)
    (drawn : IsDrawing rows n.project (opens rows n Shared form.shared + opens rows n External form.router_external) d)
    (free : is_cleared form.shared || is_cleared form.router_external ≡ true → policy_user rows (filter (is_kept form n.id) rows.policies) n ≡ None) where
  abbrev after : NetworkRow
  after = changed_network form n

  abbrev old_of : Action → Option PolicyRow
  old_of action = open_policy rows.policies n.id action

  abbrev changed : RowLists
  changed = record d.rows { networks = slice_set d.rows.networks k after }

  abbrev in_shared : Bool
  in_shared = is_opened form.shared (old_of Shared)

  abbrev in_external : Bool
  in_external = is_opened form.router_external (old_of External)

  still : slice_get d.rows.networks k ≡ Some n
  still = ap (λ networks. slice_get networks k) drawn.networks ∙ at

  changed_is : IsConsistent changed
  changed_is = replaced.network_replaced d.rows k n after still (record { id = refl; project = refl; segment = refl }) drawn.consistent

  now : slice_get changed.networks k ≡ Some after
  now = set_at d.rows.networks k n after still
    where
      set_at : (xs : List NetworkRow) (j : ℕ) (x y : NetworkRow) → slice_get xs j ≡ Some x → slice_get (slice_set xs j y) j ≡ Some y
      set_at [] j x y h = none_some x _ h
      set_at (a ∷ xs) zero x y h = refl
      set_at (a ∷ xs) (suc j) x y h = set_at xs j x y h

  fresh_id : (j : ℕ) → j < one_if in_shared + one_if in_external → times_in changed (drawn_id d j) ≡ 0
  fresh_id j within =
      let same = count-set (λ (m : NetworkRow). ident_eq (drawn_id d j) m.id) d.rows.networks k n after still refl in
      let none = drawn.fresh j within in
      omega (arith, same, none)

  open_of : (action : Action) → IsOpenBy changed.policies n.id action (old_of action)
  open_of action = subst (λ policies. IsOpenBy policies n.id action (old_of action)) (sym drawn.policies) (open_by rows c n.id action (old_of action) refl)

  -- ports miss nothing of the policies that stay, also in the rows in which ids were drawn
  missing : (policies : List PolicyRow) → policy_user changed policies after ≡ policy_user rows policies n
  missing policies = λ j. policy_user (record changed { ports = drawn.ports j; routers = drawn.routers j; floatings = drawn.floatings j }) policies after

  -- where a policy that stays is among others, they grant what those that stay grant
  grown : (others : List PolicyRow) → ((j : ℕ) (q : PolicyRow) → slice_get changed.policies j ≡ Some q → is_kept form n.id q ≡ true → (m : ℕ) × (slice_get others m ≡ Some q))
      → is_cleared form.shared || is_cleared form.router_external ≡ true → (R : RowLists) → ((policies : List PolicyRow) → policy_user R policies after ≡ policy_user rows policies n) → policy_user R others after ≡ None
  grown others among cleared R same = same others ∙ more_granted rows n (filter (is_kept form n.id) rows.policies) others
      (λ action project h.
      let found = any-at (grants action n.id project) (filter (is_kept form n.id) rows.policies) h in
      let here = at_filter (is_kept form n.id) rows.policies found.0 found.1 found.2 in
      let there = among here.0 found.1 (ap (λ policies. slice_get policies here.0) drawn.policies ∙ here.1) here.2 in
      at-any (grants action n.id project) others there.0 found.1 there.1 found.3) (free cleared)

  kept_parts : (q : PolicyRow) → is_kept form n.id q ≡ true → (is_cleared form.shared ≡ true → permits_all n.id Shared q ≡ false) × (is_cleared form.router_external ≡ true → permits_all n.id External q ≡ false)
  kept_parts q h =
      let both = or_none (is_cleared form.shared && permits_all n.id Shared q) (is_cleared form.router_external && permits_all n.id External q) (not_true _ h) in
      (λ is. sym (ap (λ b. b && permits_all n.id Shared q) is) ∙ both.0, λ is. sym (ap (λ b. b && permits_all n.id External q) is) ∙ both.1)

  shared_step : IsReopened changed changed_is k after now Shared (drawn_id d 0) form.shared (old_of Shared)
  shared_step = reopened_keeps changed changed_is k after now Shared (drawn_id d 0) form.shared (old_of Shared) (open_of Shared)
      (λ is. let one : one_if in_shared ≡ 1 = ap one_if is in (fresh_id 0 (omega (arith, one)), drawn.drawn 0 (omega (arith, one))))
      (λ is. grown (filter (λ q. not (permits_all n.id Shared q)) changed.policies)
      (λ j q at_q kept. filter_has (λ q. not (permits_all n.id Shared q)) changed.policies j q at_q (ap not ((kept_parts q kept).0 is)))
      (ap (λ b. b || is_cleared form.router_external) is) changed missing)

  abbrev second : RowLists
  second = record changed { policies = shared_step.policies }

  open_still : (o : Option PolicyRow) → old_of External ≡ o → IsOpenBy changed.policies n.id External o → IsOpenBy shared_step.policies n.id External o
  open_still None e is_by = shared_step.each (λ q. permits_all n.id External q ≡ false) is_by (λ is. other_action n (drawn_id d 0))
  open_still (Some l) e is_by = shared_step.each (λ q. ident_eq l.id q.id ≡ permits_all n.id External q) is_by (λ is.
      let one : one_if in_shared ≡ 1 = ap one_if is in
      let found = found_at (permits_all n.id External) rows.policies l e in
      let none = none-any (λ (q : PolicyRow). ident_eq (drawn_id d 0) q.id) changed.policies (none-counted (λ (q : PolicyRow). ident_eq (drawn_id d 0) q.id) changed.policies (let z = fresh_id 0 (omega (arith, one)) in omega (arith, z))) in
      let away = none found.0 l (ap (λ policies. slice_get policies found.0) drawn.policies ∙ found.1) in
      by_test (ident_eq l.id (drawn_id d 0)) (ident_eq l.id (drawn_id d 0) ≡ false) (λ same. false_true _ (sym away ∙ ident_sym l.id (drawn_id d 0) same)) (λ fails. fails) ∙ sym (other_action n (drawn_id d 0)))

  external_step : IsReopened second shared_step.consistent k after now External (drawn_id d (one_if in_shared)) form.router_external (old_of External)
  external_step = reopened_keeps second shared_step.consistent k after now External (drawn_id d (one_if in_shared)) form.router_external (old_of External) (open_still (old_of External) refl (open_of External))
      (λ is.
      let one : one_if in_external ≡ 1 = ap one_if is in (
        shared_step.fresh (drawn_id d (one_if in_shared)) (fresh_id (one_if in_shared) (omega (arith, one))) (λ shared. let two : one_if in_shared ≡ 1 = ap one_if shared in drawn_differ d 0 (one_if in_shared) (omega (arith, two))),
        drawn.drawn (one_if in_shared) (omega (arith, one)),
      ))
      (λ is. grown (filter (λ q. not (permits_all n.id External q)) shared_step.policies)
      (λ j q at_q kept.
      let there = shared_step.holds j q at_q (kept_parts q kept).0 in
      filter_has (λ q. not (permits_all n.id External q)) shared_step.policies there.0 q there.1 (ap not ((kept_parts q kept).1 is)))
      (ap (λ b. is_cleared form.shared || b) is ∙ or_true (is_cleared form.shared)) second missing)

  pub network_with_changes : HaveKept settings rows (made d.rows (network_edits rows form n d))
  network_with_changes =
      let es = reopening n rows.policies Shared form.shared (drawn_id d 0) in
      let fs = reopening n rows.policies External form.router_external (drawn_id d (one_if in_shared)) in
      let a = opening_policies n Shared (drawn_id d 0) in_shared in
      let b = closing_edits (old_of Shared) (is_cleared form.shared) in
      let e = opening_policies n External (drawn_id d (one_if in_shared)) in_external in
      let f = closing_edits (old_of External) (is_cleared form.router_external) in
      let can = carries settings.hosts in
      let put : put_in (λ (m : NetworkRow). m.id) after d.rows.networks ≡ changed.networks = put_at (λ (m : NetworkRow). m.id) d.rows.networks k n after still refl (λ i. omega (arith, drawn.consistent.numbered.ids i)) in
      let set : RowLists = with_put d.rows (Network after) in
      record {
        consistent = subst IsConsistent (sym (ap (λ networks. made (record d.rows { networks = networks }) (es ++ fs)) put ∙ (made-append changed es fs ∙ (ap (λ r. made r fs) shared_step.is ∙ external_step.is)))) external_step.consistent;
        typed = λ t. made_typed d.rows (Put (Network after) ∷ es ++ fs) (drawing_typed rows n.project (one_if in_shared + one_if in_external) d drawn t)
            (each_cons IsTypedEdit (Put (Network after)) (es ++ fs) tt (each_append IsTypedEdit es fs
            (each_append IsTypedEdit (opening n Shared (drawn_id d 0) in_shared) (closing (old_of Shared) (is_cleared form.shared)) a.0 b.0)
            (each_append IsTypedEdit (opening n External (drawn_id d (one_if in_shared)) in_external) (closing (old_of External) (is_cleared form.router_external)) e.0 f.0)));
        carried = λ held. made_carried can set (es ++ fs)
            (subst (λ networks. AreCarried can networks d.rows.ports) (sym put) (replaced.are_carried d.rows.networks k n after still (record { id = refl; project = refl; segment = refl }) can
            (drawing_carried can rows n.project (one_if in_shared + one_if in_external) d drawn held)))
            (each_append (IsCarriedEdit can set.networks) es fs
            (each_append (IsCarriedEdit can set.networks) (opening n Shared (drawn_id d 0) in_shared) (closing (old_of Shared) (is_cleared form.shared)) (a.1 can set.networks) (b.1 can set.networks))
            (each_append (IsCarriedEdit can set.networks) (opening n External (drawn_id d (one_if in_shared)) in_external) (closing (old_of External) (is_cleared form.router_external)) (e.1 can set.networks) (f.1 can set.networks)));
      }

pub network_updated_kept : (settings : SettingsParts) (state : State) (caller : Caller) (name : IdText) (form : NetworkForm) (rows : RowLists) (reply : Reply) → IsConsistent state.rows
    → network_updated state caller name form ≡ Moved rows reply → HaveKept settings state.rows rows
network_updated_kept settings state caller name form rows reply c h =
    let found = needing_moved (not_found NetworkKind name.text) (network_seen state.rows caller name.id) (network_changed state caller form) rows reply h in
    let n : NetworkRow = found.0 in
    let here = named_is (λ (m : NetworkRow). m.id) (sees_network state.rows caller) state.rows.networks name.id n found.1 in
    let many : ℕ = opens state.rows n Shared form.shared + opens state.rows n External form.router_external in
    let set : Drawing → Outcome = λ d. accepted d.rows (network_edits state.rows form n d) (λ after. OneRow (network_shown after caller (changed_network form n) [])) in
    let passed = unless_moved (update_refusal state caller form n) (needing CountersSpent (drawing_at state n.project many) set) rows reply found.2 in
    let drawing = needing_moved CountersSpent (drawing_at state n.project many) set rows reply passed.1 in
    let d : Drawing = drawing.0 in
    let drawn = drawing_is state n.project many d c (has_name state.rows n.project c (c.named.projects.of_networks here.place n here.at))
    (two_ids (is_opened form.shared (open_policy state.rows.policies n.id Shared)) (is_opened form.router_external (open_policy state.rows.policies n.id External))) drawing.1 in
    let cleared : Bool = is_cleared form.shared || is_cleared form.router_external in
    let use_of : Option Refusal = open_in_use state.rows caller (filter (is_kept form n.id) state.rows.policies) n in
    let none = none_refused (admin_only caller (network_for_admin caller form) ∷ owner_only caller n.project ∷ (if cleared then use_of else None) ∷ []) passed.0 2 (if cleared then use_of else None) refl in
    subst (HaveKept settings state.rows) (moved_rows (made d.rows (network_edits state.rows form n d)) rows _ reply drawing.2)
    (network_with_changes settings state.rows c caller here.place n here.at form d drawn
    (λ is. unneeded state.rows c caller here.place n here.at (is_cleared form.shared) (is_cleared form.router_external) (sym (ap (λ b. if b then use_of else None) is) ∙ none)))
