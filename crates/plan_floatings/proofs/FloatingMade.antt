-- An accepted call that makes a floating address keeps rows consistent, where each subnet's prefix is one.
use Rattle.std.proofs.Common.{◌≡◌, ◌+◌, ◌∙◌, ℕ, List, [], ◌∷◌, Bool, true, false, Option, Some, None, slice_get, refl, ap, sym, subst, arith, lit<, ◌<◌, ◌^◌}
use Rattle.std.specs.Prelude.{if◌then◌else◌, option_and_then, not, count_by, codes, ◌&&◌, ◌||◌, ◌==◌}
use Rattle.net_addr.specs.Addresses.{addr_eq, is_v4, number}
use Rattle.net_addr.specs.Prefixes.{is_host_of, eui, IsPrefix}
use Rattle.net_addr.specs.declared.address.Addr.TheVariants.{V4}
use Rattle.net_settings.specs.Settings.{SettingsParts}
use Rattle.api_types.specs.Ident.{Ident, ident_text}
use Rattle.api_types.specs.Lists.{if_some, is_empty, Each}
use Rattle.api_types.specs.Outcome.{Moved, Outcome}
use Rattle.api_types.specs.Owners.{is_floating}
use Rattle.api_types.specs.Printed.{Reply}
use Rattle.api_types.specs.Registration.{Drawing, drawn_id}
use Rattle.api_types.specs.RowLists.{RowLists}
use Rattle.api_types.specs.Table.{ident_eq}
use Rattle.api_types.specs.Consistent.{IsConsistent}
use Rattle.api_types.specs.Consistent.Floating.{leads_to, stands_for}
use Rattle.api_types.specs.declared.call.Caller.{Caller}
use Rattle.api_types.specs.declared.floating.FloatingRow.{FloatingRow}
use Rattle.api_types.specs.declared.floating.Target.{Target}
use Rattle.api_types.specs.declared.form.FloatingForm.{FloatingForm}
use Rattle.api_types.specs.declared.network.NetworkRow.{NetworkRow}
use Rattle.api_types.specs.declared.port.Fixed.{Fixed}
use Rattle.api_types.specs.declared.port.PortRow.{PortRow}
use Rattle.api_types.specs.declared.refusal.Refusal.{Refusal}
use Rattle.api_types.specs.declared.subnet.SubnetRow.{SubnetRow}
use Rattle.api_types.specs.Given.{value_of, are_unlike, is_for_other, is_given, owner_of}
use Rattle.api_types.specs.Refusing.{needing, not_found, unless, when}
use Rattle.call_parts.specs.State.{State, drawing_at}
use Rattle.kept_laws.proofs.OutcomeLemmas.{found_at, moved_rows, named_is, needing_moved, none_first, not_when, unless_moved}
use Rattle.std.proofs.lemmas.Bool.Decides.{nat_tests}
use Rattle.api_types.specs.Consistent.InForm.{is_eui}
use Rattle.api_types.specs.Consistent.Services.{holds_just}
use Rattle.api_types.specs.Consistent.Carried.{is_unbound}
use Rattle.api_types.specs.Sharing.{is_external_to}
use Rattle.api_types.specs.declared.call.Call.TheVariants.{Create}
use Rattle.api_types.specs.declared.form.Form.TheVariants.{Floating as FloatingOf}
use Rattle.api_types.specs.declared.kind.Kind.TheVariants.{Floating as FloatingKind, Network as NetworkKind, Port as PortKind}
use Rattle.api_types.specs.declared.refusal.PolicyRule.TheVariants.{AdminOnly}
use Rattle.api_types.specs.declared.refusal.Refusal.TheVariants.{CountersSpent, Forbidden, Invalid, PoolsSpent, Taken}
use Rattle.api_types.specs.declared.refusal.Value.TheVariants.{Address as AddressValue}
use Rattle.api_policy.specs.Visibility.{sees_network}
use Rattle.api_ml2.specs.Binding.{bound}
use Rattle.api_ml2.specs.Carrying.{carries}
use Rattle.kept_laws.proofs.TypedKept.{HaveKept, drawing_typed}
use Rattle.call_parts.specs.Typed.{AreTyped}
use Rattle.row_laws.specs.NewRows.{with_port}
use Rattle.row_laws.specs.OwnPorts.{IsNewFloating, with_own_port}
use Rattle.row_laws.proofs.Service.FloatingOn.{floating_on}
use Rattle.api_types.proofs.IdLemmas.{fresh-push}
use Rattle.row_laws.proofs.TimesLemmas.{times-port}
use Rattle.api_types.proofs.ListLemmas.{and_both, at_filter, both_and, count-none, false_true, each-push}
use Rattle.api_types.proofs.NameLemmas.{and_fails, by_test, ident_itself, not_true}
use Rattle.api_types.specs.Association.{Aim, with_target}
use Rattle.call_parts.specs.BodyNames.{text_of, unless_found}
use Rattle.api_ipam.specs.FixedChoice.{is_pool_four}
use Rattle.plan_floatings.specs.FloatingCalls.{address_held, aim_asked, body_refusal, creation_refusal, floating_added, floating_created, floating_with, lacks_port, new_floating, outer_address, own_port, port_asked}
use Rattle.api_types.specs.HeldAddresses.{fixed_at, is_address_held, is_mac_held, subnets_on}
use Rattle.call_parts.specs.InForm.{IsFormed, are_owners, is_there}
use Rattle.api_ipam.specs.MacChoice.{free_mac}
use Rattle.api_policy.specs.Permits.{admin_only}
use Rattle.api_policy.specs.Quotas.{over_quota}
use Rattle.plan_floatings.specs.FloatingRules.{bad_address, bad_aim, bad_outside, subnet_with}
use Rattle.api_policy.specs.Seen.{network_seen}
use Rattle.api_ml2.specs.ServicePorts.{floating_owner}
use Rattle.api_policy.specs.Uses.{aim_in_use}
use Rattle.plan_floatings.proofs.AimsKept.{aim_is, as_four, goal_alone, goal_leads, target_moved}
use Rattle.kept_laws.proofs.CallLemmas.{mapped, not_none, refused_at, none_for_other}
use Rattle.kept_laws.proofs.ChosenLemmas.{IsChosen, eui_is, formed, host_version, pool_chosen}
use Rattle.kept_laws.proofs.GatewayChosen.{AreChosen, chosen_hosts, chosen_named, just}
use Rattle.kept_laws.proofs.ServiceMade.{carried_drawn, drawing_is, floating_is, free_mac_is, service_made, made_small_mac}
use Rattle.row_laws.proofs.PortPushed as pushed
use Rattle.call_parts.proofs.OwnerLemmas.{owner_named}

-- the address that is named, or a pool address, is of version 4 and may be chosen
outer_chosen : (rows : RowLists) (c : IsConsistent rows) → Each (λ (s : SubnetRow). IsPrefix s.prefix) rows.subnets → (n : Ident) (mac : ℕ) (address : Option ℕ) (outer : Fixed) → outer_address rows n address ≡ Some outer → address_held rows n address ≡ None
    → IsChosen rows.subnets n (is_address_held rows.ports n) mac outer × (is_v4 outer.address ≡ true)
outer_chosen rows c prefixes n mac None outer h untaken =
    let is = pool_chosen rows.subnets prefixes c.in_form.subnet_forms n (is_address_held rows.ports n) mac is_pool_four (λ s t. not_true (is_eui s) (and_both (is_v4 s.prefix.base) (not (is_eui s)) t).1) outer h in
    (is.0, host_version is.0.subnet.prefix outer.address (prefixes is.0.place is.0.subnet is.0.at) is.0.host ∙ (and_both (is_v4 is.0.subnet.prefix.base) (not (is_eui is.0.subnet)) is.1).0)
outer_chosen rows c prefixes n mac (Some x) outer h untaken =
    let chosen = mapped (λ (s : SubnetRow). fixed_at s.id (V4 x)) (subnet_with rows n (V4 x)) outer h in
    let s : SubnetRow = chosen.0 in
    let found = found_at (λ (t : SubnetRow). is_host_of t.prefix (V4 x)) (subnets_on rows.subnets n) s chosen.1 in
    let here = at_filter (λ (t : SubnetRow). ident_eq n t.network) rows.subnets found.0 s found.1 in
    let modes = (formed s (c.in_form.subnet_forms here.0 s here.1)).modes in
    let four : is_v4 s.prefix.base ≡ true = sym (host_version s.prefix (V4 x) (prefixes here.0 s here.1) found.2) in
    let plain : is_eui s ≡ false = by_test (is_eui s) (is_eui s ≡ false) (λ makes. false_true _ (sym (eui_is s modes makes).0 ∙ four)) (λ other. other) in
    let is : IsChosen rows.subnets n (is_address_held rows.ports n) mac (fixed_at s.id (V4 x)) = record {
      place = here.0;
      subnet = s;
      at = here.1;
      on = here.2;
      names = refl;
      host = found.2;
      own = ap (λ b. not b || addr_eq (V4 x) (eui s.prefix mac)) plain;
      free = not_when (is_address_held rows.ports n (V4 x)) (Taken (AddressValue (V4 x)) n) untaken;
    } in
    subst (λ f. IsChosen rows.subnets n (is_address_held rows.ports n) mac f × (is_v4 f.address ≡ true)) chosen.2 (is, refl)

-- what holds where nothing forbids the floating address

pub record IsMakeable (rows : RowLists) (caller : Caller) (form : FloatingForm) (owner : List ℕ) (n : NetworkRow) : Type 0 where
  pub external : is_external_to rows.policies n.id owner ≡ true
  pub good : option_and_then (bad_aim owner (value_of form.fixed_ip_address)) (port_asked rows caller form) ≡ None
  pub free : option_and_then (aim_in_use rows caller rows.floatings n.id) (aim_asked rows caller form) ≡ None
  pub unheld : address_held rows n.id (value_of form.floating_ip_address) ≡ None

makeable_is : (rows : RowLists) (caller : Caller) (form : FloatingForm) (owner : List ℕ) (o : Option NetworkRow) (n : NetworkRow) → o ≡ Some n → body_refusal rows caller form owner o ≡ None → creation_refusal rows caller form n ≡ None → IsMakeable rows caller form owner n
makeable_is rows caller form owner o n there h g =
    let other : Bool = is_for_other caller form.project_id form.tenant_id in
    let lacks = when (lacks_port form) (Invalid (codes "fixed_ip_address")) in
    let unlike = when (are_unlike form.project_id form.tenant_id) (Invalid (codes "tenant_id")) in
    let outside : Option Refusal = if not caller.admin && other then None else option_and_then (bad_outside rows owner) o in
    let address = option_and_then (bad_address rows (value_of form.floating_ip_address)) o in
    let aim = option_and_then (bad_aim owner (value_of form.fixed_ip_address)) (port_asked rows caller form) in
    let first = none_first lacks (unlike ∷ outside ∷ address ∷ aim ∷ []) h in
    let second = none_first unlike (outside ∷ address ∷ aim ∷ []) first.1 in
    let third = none_first outside (address ∷ aim ∷ []) second.1 in
    let fourth = none_first address (aim ∷ []) third.1 in
    let fifth = none_first aim [] fourth.1 in
    let found = unless_found PortKind (value_of form.port_id) (port_asked rows caller form) in
    let admin = admin_only caller (is_given form.floating_ip_address || other) in
    let taken = option_and_then (aim_in_use rows caller rows.floatings n.id) (aim_asked rows caller form) in
    let held = address_held rows n.id (value_of form.floating_ip_address) in
    let sixth = none_first found (admin ∷ taken ∷ held ∷ []) g in
    let seventh = none_first admin (taken ∷ held ∷ []) sixth.1 in
    let eighth = none_first taken (held ∷ []) seventh.1 in
    let may = none_for_other (is_given form.floating_ip_address) other caller.admin (not_when ((is_given form.floating_ip_address || other) && not caller.admin) (Forbidden AdminOnly) seventh.0) in
    let bad : option_and_then (bad_outside rows owner) o ≡ None = sym (ap (λ b. if b then None else option_and_then (bad_outside rows owner) o) may) ∙ third.0 in
    record {
      external = not_none (is_external_to rows.policies n.id owner) (not_when (not (is_external_to rows.policies n.id owner)) (Invalid (codes "floating_network_id")) (refused_at (bad_outside rows owner) o n there bad));
      good = fifth.0;
      free = eighth.0;
      unheld = (none_first held [] eighth.1).0;
    }

first_differs : (d : Drawing) → ident_eq (drawn_id d 0) (drawn_id d 1) ≡ false
first_differs d = and_fails (d.ordinal == d.ordinal) ((d.first + 0) == (d.first + 1)) (later d.first)
  where
    later : (n : ℕ) → ((n + 0) == (n + 1)) ≡ false
    later n = grind (arith, nat_tests)

pub floating_created_kept : (settings : SettingsParts) (state : State) (caller : Caller) (form : FloatingForm) (rows : RowLists) (reply : Reply) → IsConsistent state.rows → AreTyped state.rows → IsFormed caller (Create (FloatingOf form))
    → floating_created settings state caller form ≡ Moved rows reply → HaveKept settings state.rows rows
floating_created_kept settings state caller form rows reply c typed inform h =
    let owner : List ℕ = owner_of caller form.project_id form.tenant_id in
    let whole = and_both (not (is_empty caller.project)) (is_there form.floating_network_id && are_owners form.project_id form.tenant_id) inform in
    let named = owner_named caller form.project_id form.tenant_id whole.0 (and_both (is_there form.floating_network_id) (are_owners form.project_id form.tenant_id) whole.1).1 in
    let seen : Option NetworkRow = network_seen state.rows caller (value_of form.floating_network_id) in
    let aim : Option Aim = aim_asked state.rows caller form in
    let by_target : NetworkRow → Outcome = λ n. with_target state.rows owner n.id aim (floating_with settings state caller form owner n) in
    let by_network : NetworkRow → Outcome = λ n. unless (creation_refusal state.rows caller form n) (by_target n) in
    let body = unless_moved (body_refusal state.rows caller form owner seen) (needing (not_found NetworkKind (text_of (value_of form.floating_network_id))) seen by_network) rows reply h in
    let network = needing_moved (not_found NetworkKind (text_of (value_of form.floating_network_id))) seen by_network rows reply body.1 in
    let n : NetworkRow = network.0 in
    let here = named_is (λ (m : NetworkRow). m.id) (sees_network state.rows caller) state.rows.networks (value_of form.floating_network_id) n network.1 in
    let passed = unless_moved (creation_refusal state.rows caller form n) (by_target n) rows reply network.2 in
    let is = makeable_is state.rows caller form owner seen n network.1 body.0 passed.0 in
    let goal = target_moved state.rows owner n.id aim (floating_with settings state caller form owner n) rows reply passed.1 in
    let target : Option Target = goal.0 in
    let row : Fixed → Drawing → FloatingRow = λ outer d. new_floating form owner n (drawn_id d 0) (drawn_id d 1) (number outer.address) target in
    let by_drawing : Fixed → ℕ → Drawing → Outcome = λ outer mac d. floating_added caller d.rows (row outer d) (own_port settings n (row outer d) mac outer) in
    let by_mac : Fixed → ℕ → Outcome = λ outer mac. needing CountersSpent (drawing_at state owner 2) (by_drawing outer mac) in
    let by_outer : Fixed → Outcome = λ outer. needing CountersSpent (free_mac state.rows.ports n.id) (by_mac outer) in
    let quota = unless_moved (over_quota settings state.rows owner FloatingKind) (needing (PoolsSpent n.id) (outer_address state.rows n.id (value_of form.floating_ip_address)) by_outer) rows reply goal.2 in
    let pool = needing_moved (PoolsSpent n.id) (outer_address state.rows n.id (value_of form.floating_ip_address)) by_outer rows reply quota.1 in
    let outer : Fixed = pool.0 in
    let macs = needing_moved CountersSpent (free_mac state.rows.ports n.id) (by_mac outer) rows reply pool.2 in
    let mac : ℕ = macs.0 in
    let drawing = needing_moved CountersSpent (drawing_at state owner 2) (by_drawing outer mac) rows reply macs.2 in
    let d : Drawing = drawing.0 in
    let drawn = drawing_is state owner 2 d c named (lit< tt) drawing.1 in
    let m = free_mac_is state.rows.ports n.id mac macs.1 in
    let one = outer_chosen state.rows c typed.prefixes n.id mac (value_of form.floating_ip_address) outer pool.1 is.unheld in
    let chosen : AreChosen d.rows.subnets n.id (is_address_held d.rows.ports n.id) mac (outer ∷ []) =
    subst (λ ss. AreChosen ss n.id (is_address_held d.rows.ports n.id) mac (outer ∷ [])) (sym drawn.subnets)
    (subst (λ ports. AreChosen state.rows.subnets n.id (is_address_held ports n.id) mac (outer ∷ [])) (sym drawn.ports) (just state.rows.subnets n.id (is_address_held state.rows.ports n.id) mac outer one.0)) in
    let f : FloatingRow = row outer d in
    let p : PortRow = own_port settings n f mac outer in
    let new : IsNewFloating d.rows f p = record {
      fresh = fresh-push d.rows (with_port d.rows p) p.id f.id (λ j. times-port d.rows j p) (first_differs d) (drawn.fresh 0 (lit< tt));
      drawn = drawn.drawn 0 (lit< tt);
      project = drawn.project;
      external = ap (λ policies. is_external_to policies n.id owner) drawn.policies ∙ is.external;
      leads = (λ j. if_some (leads_to (drawn.ports j) (drawn.routers j) f) target) ∙ goal_leads state.rows owner n.id aim target (λ a there. aim_is state.rows caller form owner a there is.good) goal.1 f refl refl;
      once = λ network port x stands. ap (count_by (stands_for network port x)) drawn.floatings
          ∙ count-none (stands_for network port x) state.rows.floatings (goal_alone state.rows caller state.rows.floatings owner n.id aim target goal.1 is.free f refl refl network port x stands);
      service = service_made d.rows drawn.consistent settings n (drawn_id d 1) [] mac (outer ∷ []) floating_owner (ident_text f.id) [] false here.place (ap (λ xs. slice_get xs here.place) drawn.networks ∙ here.at)
          (drawn.fresh 1 (lit< tt)) (drawn.drawn 1 (lit< tt)) m.0 (ap (λ ports. is_mac_held ports n.id mac) drawn.ports ∙ m.1) chosen.few (λ k g at_g. (chosen.each k g at_g).free) chosen.differ
          (chosen_named d.rows.subnets (is_address_held d.rows.ports n.id) (outer ∷ []) p chosen.each) (chosen_hosts d.rows.subnets (is_address_held d.rows.ports n.id) (outer ∷ []) p chosen.each);
      own = refl;
      serves = both_and (ident_eq n.id n.id && is_floating floating_owner && holds_just (number outer.address) (outer ∷ [])) (is_unbound (bound settings n.segment []))
          (both_and (ident_eq n.id n.id && is_floating floating_owner) (holds_just (number outer.address) (outer ∷ [])) (both_and (ident_eq n.id n.id) (is_floating floating_owner) (ident_itself n.id) floating_is) (as_four outer.address one.1)) refl;
      nobody = refl;
    } in
    subst (HaveKept settings state.rows) (moved_rows (with_own_port d.rows f p) rows _ reply drawing.2) (record {
      consistent = floating_on d.rows f p new drawn.consistent;
      carried = λ held. pushed.are_carried d.rows.ports p (carries settings.hosts) refl (carried_drawn settings state.rows owner 2 d drawn held);
      typed = λ held. let now = drawing_typed state.rows owner 2 d drawn held in record { prefixes = now.prefixes; macs = each-push (λ (q : PortRow). q.mac < 2 ^ 48) d.rows.ports p now.macs (made_small_mac mac m.3) };
    })
