-- A tenant is told the same of networks that it makes, changes and takes out, wherever its footing is the same.
use Rattle.std.proofs.Common.{◌≡◌, ℕ, ◌+◌, ◌-◌, zero, suc, List, [], ◌∷◌, ◌++◌, Bool, true, false, cond, Option, Some, None, length, slice_get, refl, ap, sym, ◌∙◌, arith, not, subst}
use Rattle.std.specs.Prelude.{◌&&◌, ◌||◌, codes, filter, find, is_some, nat_le, option_map, if◌then◌else◌}
use Rattle.std.specs.Str.{bytes_eq}
use Rattle.api_types.specs.Least.{least_from}
use Rattle.call_parts.specs.Edits.{Add, Put, accepted, made}
use Rattle.plan_networks.specs.NetworkCalls.{changed_network, closing, creation_refusal, deletion_refusal, is_cleared, is_kept, network_added, network_changed, network_created, network_deleted, network_edits, network_gone, network_shown, network_updated, new_network, one_if, openings, openings_count, opens, reopening, update_refusal}
use Rattle.api_policy.specs.Permits.{admin_only, owner_only}
use Rattle.api_policy.specs.Quotas.{over_quota}
use Rattle.plan_networks.specs.NetworkRules.{bad_wire}
use Rattle.api_ml2.specs.Segments.{asked_segment, chosen_segment, is_bad_number, is_bad_physical, least_number, segment_in_use, segment_of_type}
use Rattle.api_policy.specs.Uses.{is_network_user, network_in_use, open_in_use, open_policy}
use Rattle.api_policy.specs.Visibility.{sees_port}
use Rattle.api_policy.specs.Networks.{is_open, subnets_of}
use Rattle.apart_laws.specs.Footing.{Near, blank, footing, is_near}
use Rattle.api_types.specs.Given.{are_unlike, is_for_other, is_given, owner_of, value_of, value_or}
use Rattle.api_ml2.specs.Numbers.{is_taken, least_free, numbers}
use Rattle.api_types.specs.Refusing.{first_refusal, needing, not_found, answer_alone, unless, when}
use Rattle.call_parts.specs.State.{State, drawing_at, is_last}
use Rattle.api_types.specs.Consistent.{IsConsistent}
use Rattle.api_types.specs.Consistent.Segments.{most_networks}
use Rattle.api_types.specs.Ident.{Ident}
use Rattle.api_types.specs.Lists.{Each, is_empty}
use Rattle.api_types.specs.Outcome.{Outcome, Told}
use Rattle.api_types.specs.Owners.{is_dhcp}
use Rattle.api_types.specs.Printed.{NewRow, NoRow, OneRow, ShownRow}
use Rattle.api_types.specs.Registration.{Drawing, drawn_id, ident}
use Rattle.api_types.specs.RowLists.{RowLists}
use Rattle.api_types.specs.Table.{ident_eq}
use Rattle.api_types.specs.declared.call.Caller.{Caller}
use Rattle.api_types.specs.declared.call.IdText.{IdText}
use Rattle.api_types.specs.declared.form.Given.TheVariants.{Absent}
use Rattle.api_types.specs.declared.form.Given.{Given}
use Rattle.api_types.specs.declared.form.NetworkForm.{NetworkForm}
use Rattle.api_types.specs.declared.kind.Kind.TheVariants.{Network as NetworkKind}
use Rattle.api_types.specs.declared.kind.Row.TheVariants.{Network}
use Rattle.api_types.specs.declared.network.NetworkRow.{NetworkRow}
use Rattle.api_types.specs.declared.network.Segment.TheVariants.{Vxlan}
use Rattle.api_types.specs.declared.network.Segment.{Segment}
use Rattle.api_types.specs.declared.policy.Action.TheVariants.{External, Shared}
use Rattle.api_types.specs.declared.policy.PolicyRow.{PolicyRow}
use Rattle.api_types.specs.declared.refusal.Refusal.TheVariants.{CountersSpent, Invalid, NoNetwork}
use Rattle.api_types.specs.declared.refusal.Refusal.{Refusal}
use Rattle.api_types.specs.declared.refusal.UseRule.TheVariants.{NetworkInUse}
use Rattle.net_settings.specs.Settings.{SettingsParts}
use Rattle.row_laws.specs.Drawn.{IsDrawing}
use Rattle.row_laws.specs.NewRows.{with_network}
use Rattle.api_types.proofs.ListLemmas.{and_both, or_none}
use Rattle.api_types.proofs.NameLemmas.{bytes_same, ident_sym}
use Rattle.apart_laws.proofs.DrawnAlike.{counts_of, drawn_ids, drawn_one, new_no_subnets, new_not_open}
use Rattle.apart_laws.proofs.FootingLemmas.{named_alike, named_near, near_alike, needing_alike, own_sees_port, owner_own, seen_here, subnets_same}
use Rattle.plan_networks.proofs.NetworksApart.{subnets_kept}
use Rattle.apart_laws.proofs.ShownAlike.{network_shown_alike}
use Rattle.apart_laws.proofs.ApartLemmas.{absent, first_behind, first_same, heads_none, none_at, unless_same}
use Rattle.apart_laws.proofs.OwnAlike.{admin_passes, drawn_alike, owner_passes, quota_own, seen_user, users_told}
use Rattle.api_policy.specs.Reserved.{network_for_admin}

-- the least number is found in one list, or looked for number by number
found_least : (test : ℕ → Bool) (first many : ℕ) → find test (numbers first many) ≡ least_from test first many
unfolding numbers least_from
found_least test first zero = refl
found_least test first (suc many) = by (test first) (found_least test (first + 1) many)
  where
    by : (b : Bool) → find test (numbers (first + 1) many) ≡ least_from test (first + 1) many
        → cond b (Some first) (find test (numbers (first + 1) many)) ≡ elim b [ true ↦ Some first | false ↦ least_from test (first + 1) many ]
    by true h = refl
    by false h = h

-- a tenant asks for no segment, and is given one that it isn't told
chosen_some : (settings : SettingsParts) (networks : List NetworkRow) → is_some (chosen_segment settings networks None)
    ≡ not (nat_le most_networks (length networks)) && is_some (least_free networks settings.vxlan_first (settings.vxlan_last + 1 - settings.vxlan_first))
chosen_some settings networks = by (nat_le most_networks (length networks)) (least_number settings networks)
    ∙ ap (λ o. not (nat_le most_networks (length networks)) && is_some o) (sym (found_least (λ n. not (is_taken networks n)) settings.vxlan_first (settings.vxlan_last + 1 - settings.vxlan_first)))
  where
    by : (b : Bool) (o : Option ℕ) → is_some (if b then None else option_map Vxlan o) ≡ not b && is_some o
    by true o = refl
    by false None = refl
    by false (Some n) = refl

closing_none : (o : Option PolicyRow) → closing o false ≡ []
closing_none None = refl
closing_none (Some l) = refl

-- what a tenant doesn't give
record IsPlain (form : NetworkForm) : Type 0 where
  shared : form.shared ≡ Absent
  external : form.router_external ≡ Absent
  kind : form.provider_network_type ≡ Absent

plain : (caller : Caller) → caller.admin ≡ false → (form : NetworkForm) → admin_only caller (network_for_admin caller form) ≡ None → IsPlain form × (is_for_other caller form.project_id form.tenant_id ≡ false)
plain caller tenant form passes =
    let others = or_none (is_given form.shared || is_given form.router_external || is_given form.provider_network_type || is_given form.provider_physical_network || is_given form.provider_segmentation_id)
    (is_for_other caller form.project_id form.tenant_id) (admin_passes caller tenant (network_for_admin caller form) passes) in
    let numbers = or_none (is_given form.shared || is_given form.router_external || is_given form.provider_network_type || is_given form.provider_physical_network) (is_given form.provider_segmentation_id) others.0 in
    let physical = or_none (is_given form.shared || is_given form.router_external || is_given form.provider_network_type) (is_given form.provider_physical_network) numbers.0 in
    let kinds = or_none (is_given form.shared || is_given form.router_external) (is_given form.provider_network_type) physical.0 in
    let opened = or_none (is_given form.shared) (is_given form.router_external) kinds.0 in
    (record { shared = absent form.shared opened.0; external = absent form.router_external opened.1; kind = absent form.provider_network_type kinds.1 }, others.1)

-- a network that is made without policies
abbrev added_plain : Caller → RowLists → NetworkRow → Outcome
added_plain caller rows n = accepted rows (Add (Network n) ∷ []) (λ after. NewRow (network_shown after caller n []))

abbrev made_plain : SettingsParts → State → Caller → NetworkForm → List ℕ → Outcome
made_plain settings state caller form owner =
    needing NoNetwork (chosen_segment settings state.rows.networks None) (λ segment.
    needing CountersSpent (drawing_at state owner 1) (λ drawing. added_plain caller drawing.rows (new_network owner form (drawn_id drawing 0) segment)))

abbrev made_with : SettingsParts → State → Caller → NetworkForm → List ℕ → Outcome
made_with settings state caller form owner =
    needing NoNetwork (chosen_segment settings state.rows.networks (asked_segment form)) (λ segment.
    needing CountersSpent (drawing_at state owner (1 + openings_count form)) (λ drawing.
    network_added caller drawing form (new_network owner form (drawn_id drawing 0) segment)))

asked_none : (form : NetworkForm) → IsPlain form → asked_segment form ≡ None
asked_none form is = ap (λ (g : Given _). segment_of_type (value_of g) (value_or [] form.provider_physical_network) (value_of form.provider_segmentation_id)) is.kind

plain_is : (settings : SettingsParts) (state : State) (caller : Caller) (form : NetworkForm) (owner : List ℕ) → IsPlain form → made_with settings state caller form owner ≡ made_plain settings state caller form owner
plain_is settings state caller form owner is = λ j.
    needing NoNetwork (chosen_segment settings state.rows.networks (asked_none form is j)) (λ segment.
    needing CountersSpent (drawing_at state owner (1 + (one_if (value_or false (is.shared j)) + one_if (value_or false (is.external j))))) (λ drawing.
    accepted drawing.rows (Add (Network (new_network owner form (drawn_id drawing 0) segment)) ∷ openings (new_network owner form (drawn_id drawing 0) segment) drawing 1 (value_or false (is.shared j)) (value_or false (is.external j)))
    (λ rows. NewRow (network_shown rows caller (new_network owner form (drawn_id drawing 0) segment) []))))

-- a network that is changed without policies
abbrev replaced_plain : Caller → RowLists → NetworkRow → Outcome
replaced_plain caller rows n = accepted rows (Put (Network n) ∷ []) (λ after. OneRow (network_shown after caller n []))

abbrev changed_with : State → Caller → NetworkForm → NetworkRow → Outcome
changed_with state caller form n =
    needing CountersSpent (drawing_at state n.project (opens state.rows n Shared form.shared + opens state.rows n External form.router_external)) (λ drawing.
    accepted drawing.rows (network_edits state.rows form n drawing) (λ rows. OneRow (network_shown rows caller (changed_network form n) [])))

abbrev changed_plain : State → Caller → NetworkForm → NetworkRow → Outcome
changed_plain state caller form n = needing CountersSpent (drawing_at state n.project 0) (λ drawing. replaced_plain caller drawing.rows (changed_network form n))

changed_is : (state : State) (caller : Caller) (form : NetworkForm) (n : NetworkRow) → IsPlain form → changed_with state caller form n ≡ changed_plain state caller form n
changed_is state caller form n is =
    (λ j. needing CountersSpent (drawing_at state n.project (opens state.rows n Shared (is.shared j) + opens state.rows n External (is.external j))) (λ drawing.
    accepted drawing.rows (Put (Network (changed_network form n))
    ∷ reopening n state.rows.policies Shared (is.shared j) (drawn_id drawing 0) ++ reopening n state.rows.policies External (is.external j) (drawn_id drawing (opens state.rows n Shared (is.shared j))))
    (λ rows. OneRow (network_shown rows caller (changed_network form n) []))))
    ∙ (λ j. needing CountersSpent (drawing_at state n.project 0) (λ drawing.
    accepted drawing.rows (Put (Network (changed_network form n)) ∷ closing_none (open_policy state.rows.policies n.id Shared) j ++ closing_none (open_policy state.rows.policies n.id External) j)
    (λ rows. OneRow (network_shown rows caller (changed_network form n) []))))

module _ (settings : SettingsParts) (caller : Caller) (tenant : caller.admin ≡ false) (named : not (is_empty caller.project) ≡ true) (s t : State) (c : IsConsistent s.rows) (d : IsConsistent t.rows) (same : footing settings s caller ≡ footing settings t caller) where
  -- making a network

  added_alike : (form : NetworkForm) (segment other : Segment) (x y : Drawing)
      → drawing_at s caller.project 1 ≡ Some x → drawing_at t caller.project 1 ≡ Some y → counts_of x ≡ counts_of y
      → answer_alone (added_plain caller x.rows (new_network caller.project form (drawn_id x 0) segment)) ≡ answer_alone (added_plain caller y.rows (new_network caller.project form (drawn_id y 0) other))
  added_alike form segment other x y at_x at_y counts =
      let dx = drawn_one s caller.project x c named at_x in
      let dy = drawn_one t caller.project y d named at_y in
      ap (λ (row : ShownRow). Told (NewRow row))
      (network_shown_alike (with_network x.rows (new_network caller.project form (drawn_id x 0) segment)) (with_network y.rows (new_network caller.project form (drawn_id y 0) other)) caller
      (new_network caller.project form (drawn_id x 0) segment) (new_network caller.project form (drawn_id y 0) other) [] tenant
      (λ j. blank (new_network caller.project form (ident (counts j).0 ((counts j).1 + 0)) segment))
      (new_not_open s.rows caller.project x dx.0 External ∙ sym (new_not_open t.rows caller.project y dy.0 External))
      (new_not_open s.rows caller.project x dx.0 Shared ∙ sym (new_not_open t.rows caller.project y dy.0 Shared))
      (new_no_subnets s.rows caller.project x dx.0 caller (new_network caller.project form (drawn_id x 0) segment)
      ∙ sym (new_no_subnets t.rows caller.project y dy.0 caller (new_network caller.project form (drawn_id y 0) other))))

  chosen_same : is_some (chosen_segment settings s.rows.networks None) ≡ is_some (chosen_segment settings t.rows.networks None)
  chosen_same = chosen_some settings s.rows.networks ∙ ((λ j. not (same j).is_full && (same j).has_number) ∙ sym (chosen_some settings t.rows.networks))

  made_alike : (form : NetworkForm) → answer_alone (made_plain settings s caller form caller.project) ≡ answer_alone (made_plain settings t caller form caller.project)
  made_alike form = needing_alike NoNetwork (chosen_segment settings s.rows.networks None) (chosen_segment settings t.rows.networks None)
      (λ segment. needing CountersSpent (drawing_at s caller.project 1) (λ drawing. added_plain caller drawing.rows (new_network caller.project form (drawn_id drawing 0) segment)))
      (λ segment. needing CountersSpent (drawing_at t caller.project 1) (λ drawing. added_plain caller drawing.rows (new_network caller.project form (drawn_id drawing 0) segment)))
      chosen_same
      (λ segment other is is'. drawn_alike settings caller tenant s t same caller.project refl 1
      (λ drawing. added_plain caller drawing.rows (new_network caller.project form (drawn_id drawing 0) segment)) (λ drawing. added_plain caller drawing.rows (new_network caller.project form (drawn_id drawing 0) other))
      (added_alike form segment other))

  pub network_created_apart : (form : NetworkForm) → answer_alone (network_created settings s caller form) ≡ answer_alone (network_created settings t caller form)
  network_created_apart form = unless_same (creation_refusal settings s.rows caller form owner) (creation_refusal settings t.rows caller form owner)
      (made_with settings s caller form owner) (made_with settings t caller form owner)
      (first_behind heads (segment_in_use s.rows.networks (asked_segment form) ∷ over_quota settings s.rows owner NetworkKind ∷ []) (segment_in_use t.rows.networks (asked_segment form) ∷ over_quota settings t.rows owner NetworkKind ∷ [])
      (λ passes. let is = plain_here passes in
      let asked = ap (segment_in_use s.rows.networks) (asked_none form is.0) ∙ sym (ap (segment_in_use t.rows.networks) (asked_none form is.0)) in
      let quota = quota_own settings caller tenant s t same owner (own is.1) NetworkKind in
      (λ j. first_refusal (asked j ∷ quota j ∷ []))))
      (λ passes _. let is = plain_here (heads_none heads (segment_in_use s.rows.networks (asked_segment form) ∷ over_quota settings s.rows owner NetworkKind ∷ []) passes) in
      ap answer_alone (plain_is settings s caller form owner is.0)
      ∙ (subst (λ name. answer_alone (made_plain settings s caller form name) ≡ answer_alone (made_plain settings t caller form name)) (sym (own is.1)) (made_alike form)
      ∙ sym (ap answer_alone (plain_is settings t caller form owner is.0))))
    where
      owner : List ℕ
      owner = owner_of caller form.project_id form.tenant_id

      heads : List (Option Refusal)
      heads = when (is_bad_physical form) (Invalid (codes "provider:physical_network"))
          ∷ when (is_bad_number form) (Invalid (codes "provider:segmentation_id"))
          ∷ when (are_unlike form.project_id form.tenant_id) (Invalid (codes "tenant_id"))
          ∷ bad_wire settings form
          ∷ admin_only caller (network_for_admin caller form)
          ∷ []

      plain_here : first_refusal heads ≡ None → IsPlain form × (is_for_other caller form.project_id form.tenant_id ≡ false)
      plain_here passes = plain caller tenant form (none_at heads passes 4 (admin_only caller (network_for_admin caller form)) refl)

      own : is_for_other caller form.project_id form.tenant_id ≡ false → owner ≡ caller.project
      own mine = owner_own caller form.project_id form.tenant_id mine

  -- changing a network

  -- a drawing changes nothing of which the subnets that are printed speak
  drawn_subnets : (rows : RowLists) (name : List ℕ) (many : ℕ) (x : Drawing) → IsDrawing rows name many x → (i : Ident) → subnets_of x.rows caller i ≡ subnets_of rows caller i
  drawn_subnets rows name many x is i = λ j. subnets_of (record rows { networks = is.networks j; subnets = is.subnets j; policies = is.policies j }) caller i

  replaced_alike : (form : NetworkForm) (k l : ℕ) (n m : NetworkRow) → slice_get s.rows.networks k ≡ Some n → slice_get t.rows.networks l ≡ Some m → is_near s.rows caller n.id ≡ true → blank n ≡ blank m
      → (x y : Drawing) → drawing_at s caller.project 0 ≡ Some x → drawing_at t caller.project 0 ≡ Some y → counts_of x ≡ counts_of y
      → answer_alone (replaced_plain caller x.rows (changed_network form n)) ≡ answer_alone (replaced_plain caller y.rows (changed_network form m))
  replaced_alike form k l n m at_n at_m near alike x y at_x at_y counts =
      let dx : IsDrawing s.rows caller.project 0 x = (drawn_ids s caller.project 0 x c named (omega arith) at_x).0 in
      let dy : IsDrawing t.rows caller.project 0 y = (drawn_ids t caller.project 0 y d named (omega arith) at_y).0 in
      let told_near = near_alike settings caller s t same n m near alike in
      ap (λ (row : ShownRow). Told (OneRow row))
      (network_shown_alike (made x.rows (Put (Network (changed_network form n)) ∷ [])) (made y.rows (Put (Network (changed_network form m)) ∷ [])) caller (changed_network form n) (changed_network form m) [] tenant
      (ap (changed_network form) alike)
      (ap (λ ps. is_open ps n.id External) dx.policies ∙ (ap (λ (z : Near). z.external_to_all) told_near ∙ sym (ap (λ ps. is_open ps m.id External) dy.policies)))
      (ap (λ ps. is_open ps n.id Shared) dx.policies ∙ (ap (λ (z : Near). z.shared_to_all) told_near ∙ sym (ap (λ ps. is_open ps m.id Shared) dy.policies)))
      (subnets_kept x.rows dx.consistent k n (ap (λ ns. slice_get ns k) dx.networks ∙ at_n) form caller n.id
      ∙ (drawn_subnets s.rows caller.project 0 x dx n.id
      ∙ (subnets_same settings caller s t same n.id
      ∙ (ap (λ z. subnets_of t.rows caller z.id) alike
      ∙ (sym (drawn_subnets t.rows caller.project 0 y dy m.id)
      ∙ sym (subnets_kept y.rows dy.consistent l m (ap (λ ns. slice_get ns l) dy.networks ∙ at_m) form caller m.id)))))))

  changed_alike : (form : NetworkForm) (k l : ℕ) (n m : NetworkRow) → slice_get s.rows.networks k ≡ Some n → slice_get t.rows.networks l ≡ Some m → is_near s.rows caller n.id ≡ true → blank n ≡ blank m
      → n.project ≡ caller.project → answer_alone (changed_plain s caller form n) ≡ answer_alone (changed_plain t caller form m)
  changed_alike form k l n m at_n at_m near alike own =
      drawn_alike settings caller tenant s t same n.project own 0 (λ drawing. replaced_plain caller drawing.rows (changed_network form n)) (λ drawing. replaced_plain caller drawing.rows (changed_network form m))
      (replaced_alike form k l n m at_n at_m near alike)
      ∙ (λ j. answer_alone (needing CountersSpent (drawing_at t (alike j).project 0) (λ drawing. replaced_plain caller drawing.rows (changed_network form m))))

  update_same : (form : NetworkForm) (n m : NetworkRow) → blank n ≡ blank m → update_refusal s caller form n ≡ update_refusal t caller form m
  update_same form n m alike = first_same (admin_only caller (network_for_admin caller form)) (admin_only caller (network_for_admin caller form))
      (owner_only caller n.project ∷ closed s n ∷ []) (owner_only caller m.project ∷ closed t m ∷ []) refl
      (λ passes _. let is = (plain caller tenant form passes).0 in let none = closed_none s n is ∙ sym (closed_none t m is) in
      (λ j. first_refusal (owner_only caller (alike j).project ∷ none j ∷ [])))
    where
      closed : State → NetworkRow → Option Refusal
      closed state r = if is_cleared form.shared || is_cleared form.router_external then open_in_use state.rows caller (filter (is_kept form r.id) state.rows.policies) r else None

      closed_none : (state : State) (r : NetworkRow) → IsPlain form → closed state r ≡ None
      closed_none state r is = λ j. if is_cleared (is.shared j) || is_cleared (is.external j) then open_in_use state.rows caller (filter (is_kept form r.id) state.rows.policies) r else None

  pub network_updated_apart : (name : IdText) (form : NetworkForm) → answer_alone (network_updated s caller name form) ≡ answer_alone (network_updated t caller name form)
  network_updated_apart name form = named_alike settings caller s t same (not_found NetworkKind name.text) name.id (network_changed s caller form) (network_changed t caller form)
      (λ n m found_n found_m alike.
      let at_n = seen_here s.rows caller name.id n found_n in
      let at_m = seen_here t.rows caller name.id m found_m in
      unless_same (update_refusal s caller form n) (update_refusal t caller form m) (changed_with s caller form n) (changed_with t caller form m) (update_same form n m alike)
      (λ passes _. let is = (plain caller tenant form (none_at (refusals s n) passes 0 (admin_only caller (network_for_admin caller form)) refl)).0 in
      let own = bytes_same n.project caller.project (owner_passes caller tenant n.project (none_at (refusals s n) passes 1 (owner_only caller n.project) refl)) in
      ap answer_alone (changed_is s caller form n is)
      ∙ (changed_alike form at_n.0 at_m.0 n m at_n.1 at_m.1 (named_near s.rows caller name.id n found_n) alike own ∙ sym (ap answer_alone (changed_is t caller form m is)))))
    where
      refusals : State → NetworkRow → List (Option Refusal)
      refusals state r = admin_only caller (network_for_admin caller form) ∷ owner_only caller r.project
          ∷ (if is_cleared form.shared || is_cleared form.router_external then open_in_use state.rows caller (filter (is_kept form r.id) state.rows.policies) r else None) ∷ []

  -- taking a network out

  used_alike : (k l : ℕ) (n m : NetworkRow) → slice_get s.rows.networks k ≡ Some n → slice_get t.rows.networks l ≡ Some m → blank n ≡ blank m → bytes_eq n.project caller.project ≡ true
      → network_in_use s.rows caller n.id ≡ network_in_use t.rows caller m.id
  used_alike k l n m at_n at_m alike own =
      users_told s.rows caller c NetworkInUse NetworkKind n.id (is_network_user n.id) (λ p. refl) (users s k n at_n own)
      ∙ ((λ j. option_map (seen_user NetworkInUse NetworkKind (alike j).id) (find (is_network_user (alike j).id) (same j).ports))
      ∙ sym (users_told t.rows caller d NetworkInUse NetworkKind m.id (is_network_user m.id) (λ p. refl) (users t l m at_m (sym (ap (λ x. bytes_eq x.project caller.project) alike) ∙ own))))
    where
      users : (state : State) (i : ℕ) (r : NetworkRow) → slice_get state.rows.networks i ≡ Some r → bytes_eq r.project caller.project ≡ true → Each (λ p. is_network_user r.id p ≡ true → sees_port state.rows caller p ≡ true) state.rows.ports
      users state i r at mine o p at_p uses = own_sees_port state.rows caller i r at mine p (ident_sym r.id p.network (and_both (ident_eq r.id p.network) (not (is_dhcp p.owner)) uses).0)

  pub network_deleted_apart : (name : IdText) → answer_alone (network_deleted s caller name) ≡ answer_alone (network_deleted t caller name)
  network_deleted_apart name = named_alike settings caller s t same (not_found NetworkKind name.text) name.id
      (λ n. unless (deletion_refusal s caller n) (accepted s.rows (network_gone s.rows n.id) (λ rows. NoRow)))
      (λ n. unless (deletion_refusal t caller n) (accepted t.rows (network_gone t.rows n.id) (λ rows. NoRow)))
      (λ n m found_n found_m alike.
      let at_n = seen_here s.rows caller name.id n found_n in
      let at_m = seen_here t.rows caller name.id m found_m in
      unless_same (deletion_refusal s caller n) (deletion_refusal t caller m) (accepted s.rows (network_gone s.rows n.id) (λ rows. NoRow)) (accepted t.rows (network_gone t.rows m.id) (λ rows. NoRow))
      (first_same (owner_only caller n.project) (owner_only caller m.project)
      (network_in_use s.rows caller n.id ∷ when (is_last s) CountersSpent ∷ []) (network_in_use t.rows caller m.id ∷ when (is_last t) CountersSpent ∷ [])
      (ap (λ x. owner_only caller x.project) alike)
      (λ passes _. let used = used_alike at_n.0 at_m.0 n m at_n.1 at_m.1 alike (owner_passes caller tenant n.project passes) in
      (λ j. first_refusal (used j ∷ when (same j).is_last CountersSpent ∷ []))))
      (λ passes _. refl))
