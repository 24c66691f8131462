-- A tenant's calls on floating addresses leave what others own alone.
use Rattle.api_ipam.specs.MacChoice.{free_mac}
use Rattle.api_policy.specs.Permits.{admin_only}
use Rattle.api_policy.specs.Quotas.{over_quota}
use Rattle.api_policy.specs.Reserved.{floating_for_admin}
use Rattle.api_policy.specs.Seen.{floating_seen, network_seen}
use Rattle.api_policy.specs.Uses.{aim_in_use}
use Rattle.api_policy.specs.Visibility.{is_own}
use Rattle.api_types.proofs.NameLemmas.{bytes_itself}
use Rattle.api_types.specs.Association.{Aim, router_for, target_by, with_target}
use Rattle.api_types.specs.Consistent.{IsConsistent}
use Rattle.api_types.specs.Given.{is_for_other, is_given, owner_of, value_of}
use Rattle.api_types.specs.Ident.{Ident}
use Rattle.api_types.specs.Lists.{Each, is_empty}
use Rattle.api_types.specs.Outcome.{Moved, Outcome}
use Rattle.api_types.specs.Printed.{NoRow, OneRow, Reply}
use Rattle.api_types.specs.Refusing.{needing, not_found, unless, when}
use Rattle.api_types.specs.Registration.{Drawing, drawn_id}
use Rattle.api_types.specs.RowLists.{RowLists}
use Rattle.api_types.specs.Table.{ident_eq}
use Rattle.api_types.specs.WithRows.{with_put}
use Rattle.api_types.specs.declared.call.Caller.{Caller}
use Rattle.api_types.specs.declared.call.IdText.{IdText}
use Rattle.api_types.specs.declared.floating.FloatingRow.{FloatingRow}
use Rattle.api_types.specs.declared.floating.Target.{Target}
use Rattle.api_types.specs.declared.form.FloatingForm.{FloatingForm}
use Rattle.api_types.specs.declared.kind.Kind.TheVariants.{Floating as FloatingKind, Network as NetworkKind, Port as PortKind}
use Rattle.api_types.specs.declared.kind.Row.TheVariants.{Floating, Port}
use Rattle.api_types.specs.declared.network.NetworkRow.{NetworkRow}
use Rattle.api_types.specs.declared.port.Fixed.{Fixed}
use Rattle.api_types.specs.declared.port.PortRow.{PortRow}
use Rattle.api_types.specs.declared.refusal.Refusal.{Refusal}
use Rattle.api_types.specs.declared.refusal.Refusal.TheVariants.{CountersSpent, Invalid, NoGateway, PoolsSpent}
use Rattle.call_parts.specs.BodyNames.{text_of, unless_found}
use Rattle.call_parts.specs.Edits.{Add, Drop, Put, accepted, made}
use Rattle.call_parts.specs.State.{State, drawing_at, is_last}
use Rattle.net_addr.specs.Addresses.{number}
use Rattle.net_settings.specs.Settings.{SettingsParts}
use Rattle.apart_laws.proofs.Drawn.{drawn_fresh, draws_sparing}
use Rattle.kept_laws.proofs.OutcomeLemmas.{moved_rows, named_is, needing_moved, unfound, unless_moved}
use Rattle.kept_laws.proofs.EditedRows.{none_refused}
use Rattle.apart_laws.proofs.Serving.{alone_there, floating_gone_spares, floating_on_spares, floating_put_spares}
use Rattle.apart_laws.proofs.Steps.{Spares, or_fails, own_owner, own_tenant, spares_then, unneeded}
use Rattle.plan_floatings.specs.FloatingCalls.{address_held, aim_asked, body_refusal, changed_floating, creation_refusal, deletion_refusal, floating_added, floating_changed, floating_created, floating_deleted, floating_replaced, floating_shown, floating_updated, floating_with, lacks_port, new_floating, outer_address, own_port, port_asked, update_refusal}
use Rattle.row_laws.specs.Drawn.{AreNew}
use Rattle.std.proofs.Common.{List, None, Option, Some, [], ap, arith, false, lit<, not, refl, subst, true, ℕ, ◌∙◌, ◌∷◌, ◌≡◌}
use Rattle.std.specs.Prelude.{codes, option_and_then}
use Rattle.std.specs.Str.{bytes_eq}

-- where there is an aim, it has its target
target_moved : (base : RowLists) (project : List ℕ) (network : Ident) (aim : Option Aim) (rest : Option Target → Outcome) (rows : RowLists) (reply : Reply) → with_target base project network aim rest ≡ Moved rows reply
    → (t : Option Target) × (rest t ≡ Moved rows reply)
target_moved base project network None rest rows reply h = (None, h)
target_moved base project network (Some aim) rest rows reply h =
    let found = needing_moved (NoGateway network aim.fixed.subnet) (router_for base project network aim.fixed.subnet) (λ r. rest (Some (target_by aim r))) rows reply h in
    (Some (target_by aim found.0), found.2)

pub floating_created_spares : (settings : SettingsParts) (state : State) (caller : Caller) (form : FloatingForm) (rows : RowLists) (reply : Reply) → caller.admin ≡ false → not (is_empty caller.project) ≡ true → IsConsistent state.rows
    → floating_created settings state caller form ≡ Moved rows reply → Spares caller.project state.rows rows
floating_created_spares settings state caller form rows reply tenant named c h =
    let owner : List ℕ = owner_of caller form.project_id form.tenant_id in
    let seen : Option NetworkRow = network_seen state.rows caller (value_of form.floating_network_id) in
    let lead : NetworkRow → Outcome = λ n. with_target state.rows owner n.id (aim_asked state.rows caller form) (floating_with settings state caller form owner n) in
    let make : NetworkRow → Outcome = λ n. unless (creation_refusal state.rows caller form n) (lead n) in
    let first = unless_moved (body_refusal state.rows caller form owner seen) (needing (not_found NetworkKind (text_of (value_of form.floating_network_id))) seen make) rows reply h in
    let found = needing_moved (not_found NetworkKind (text_of (value_of form.floating_network_id))) seen make rows reply first.1 in
    let n : NetworkRow = found.0 in
    let passed = unless_moved (creation_refusal state.rows caller form n) (lead n) rows reply found.2 in
    let led = target_moved state.rows owner n.id (aim_asked state.rows caller form) (floating_with settings state caller form owner n) rows reply passed.1 in
    let row : Fixed → Drawing → FloatingRow = λ outer d. new_floating form owner n (drawn_id d 0) (drawn_id d 1) (number outer.address) led.0 in
    let add : Fixed → ℕ → Drawing → Outcome = λ outer mac d. floating_added caller d.rows (row outer d) (own_port settings n (row outer d) mac outer) in
    let draw : Fixed → ℕ → Outcome = λ outer mac. needing CountersSpent (drawing_at state owner 2) (add outer mac) in
    let choose : Fixed → Outcome = λ outer. needing CountersSpent (free_mac state.rows.ports n.id) (draw outer) in
    let place : Outcome = needing (PoolsSpent n.id) (outer_address state.rows n.id (value_of form.floating_ip_address)) choose in
    let few = unless_moved (over_quota settings state.rows owner FloatingKind) place rows reply led.1 in
    let at_outer = needing_moved (PoolsSpent n.id) (outer_address state.rows n.id (value_of form.floating_ip_address)) choose rows reply few.1 in
    let at_mac = needing_moved CountersSpent (free_mac state.rows.ports n.id) (draw at_outer.0) rows reply at_outer.2 in
    let drawing = needing_moved CountersSpent (drawing_at state owner 2) (add at_outer.0 at_mac.0) rows reply at_mac.2 in
    let d : Drawing = drawing.0 in
    let f : FloatingRow = row at_outer.0 d in
    let p : PortRow = own_port settings n f at_mac.0 at_outer.0 in
    let by_admin : Option Refusal = admin_only caller (floating_for_admin caller form) in
    let os : List (Option Refusal) =
    unless_found PortKind (value_of form.port_id) (port_asked state.rows caller form)
    ∷ by_admin
    ∷ option_and_then (aim_in_use state.rows caller state.rows.floatings n.id) (aim_asked state.rows caller form)
    ∷ address_held state.rows n.id (value_of form.floating_ip_address)
    ∷ [] in
    let plain = or_fails (is_given form.floating_ip_address) (is_for_other caller form.project_id form.tenant_id) (unneeded caller (floating_for_admin caller form) tenant (none_refused os passed.0 1 by_admin refl)) in
    let own : owner ≡ caller.project = own_owner caller form.project_id form.tenant_id plain.1 in
    let itself : bytes_eq owner caller.project ≡ true = ap (λ name. bytes_eq name caller.project) own ∙ bytes_itself caller.project in
    let ids : AreNew 2 d = drawn_fresh state caller.project owner 2 d c named own (lit< tt) drawing.1 in
    let fresh : Each (λ (q : PortRow). ident_eq p.id q.id ≡ false) d.rows.ports = unfound (λ (q : PortRow). ident_eq p.id q.id) d.rows.ports (ids 1 (lit< tt)).ports in
    let now : RowLists = made d.rows (Add (Floating f) ∷ Add (Port p) ∷ []) in
    subst (Spares caller.project state.rows) (moved_rows now rows _ reply drawing.2)
    (spares_then caller.project state.rows d.rows now (draws_sparing state caller.project owner 2 d own drawing.1).spares (floating_on_spares caller.project d.rows f p itself refl fresh))

pub floating_updated_spares : (state : State) (caller : Caller) (name : IdText) (form : FloatingForm) (rows : RowLists) (reply : Reply) → caller.admin ≡ false → IsConsistent state.rows
    → floating_updated state caller name form ≡ Moved rows reply → Spares caller.project state.rows rows
floating_updated_spares state caller name form rows reply tenant c h =
    let first = unless_moved (when (lacks_port form) (Invalid (codes "fixed_ip_address"))) (needing (not_found FloatingKind name.text) (floating_seen state.rows caller name.id) (floating_changed state caller form)) rows reply h in
    let found = needing_moved (not_found FloatingKind name.text) (floating_seen state.rows caller name.id) (floating_changed state caller form) rows reply first.1 in
    let f : FloatingRow = found.0 in
    let here = named_is (λ (q : FloatingRow). q.id) (λ (q : FloatingRow). is_own caller q.project) state.rows.floatings name.id f found.1 in
    let set : Option Target → Outcome = λ t. floating_replaced state caller (changed_floating form f t) in
    let passed = unless_moved (update_refusal state caller form f) (with_target state.rows f.project f.network (aim_asked state.rows caller form) set) rows reply found.2 in
    let led = target_moved state.rows f.project f.network (aim_asked state.rows caller form) set rows reply passed.1 in
    let new : FloatingRow = changed_floating form f led.0 in
    let done : Outcome = accepted state.rows (Put (Floating new) ∷ []) (λ after. OneRow (floating_shown after caller new [])) in
    let still = unless_moved (when (is_last state) CountersSpent) done rows reply led.1 in
    subst (Spares caller.project state.rows) (moved_rows (with_put state.rows (Floating new)) rows _ reply still.1)
    (floating_put_spares caller.project state.rows f new refl refl refl (own_tenant caller f.project tenant here.is_seen)
    (alone_there (λ (q : FloatingRow). q.id) state.rows.floatings here.place f (omega (arith, c.numbered.ids f.id)) here.at))

pub floating_deleted_spares : (state : State) (caller : Caller) (name : IdText) (rows : RowLists) (reply : Reply) → caller.admin ≡ false → IsConsistent state.rows
    → floating_deleted state caller name ≡ Moved rows reply → Spares caller.project state.rows rows
floating_deleted_spares state caller name rows reply tenant c h =
    let gone : FloatingRow → Outcome = λ f. accepted state.rows (Drop PortKind f.own_port ∷ Drop FloatingKind f.id ∷ []) (λ after. NoRow) in
    let rest : FloatingRow → Outcome = λ f. unless (deletion_refusal state caller f) (gone f) in
    let found = needing_moved (not_found FloatingKind name.text) (floating_seen state.rows caller name.id) rest rows reply h in
    let f : FloatingRow = found.0 in
    let here = named_is (λ (q : FloatingRow). q.id) (λ (q : FloatingRow). is_own caller q.project) state.rows.floatings name.id f found.1 in
    let passed = unless_moved (deletion_refusal state caller f) (gone f) rows reply found.2 in
    subst (Spares caller.project state.rows) (moved_rows (made state.rows (Drop PortKind f.own_port ∷ Drop FloatingKind f.id ∷ [])) rows _ reply passed.1)
    (floating_gone_spares caller.project state.rows f here.place here.at (own_tenant caller f.project tenant here.is_seen)
    (alone_there (λ (q : FloatingRow). q.id) state.rows.floatings here.place f (omega (arith, c.numbered.ids f.id)) here.at))
