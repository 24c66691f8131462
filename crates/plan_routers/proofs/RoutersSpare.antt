-- A tenant's calls on routers leave what others own alone.
use Rattle.api_ipam.specs.MacChoice.{free_mac}
use Rattle.api_policy.specs.Permits.{admin_only}
use Rattle.api_policy.specs.Quotas.{over_quota}
use Rattle.api_policy.specs.Reserved.{router_for_admin, snat_asked}
use Rattle.api_policy.specs.Seen.{router_seen}
use Rattle.api_policy.specs.Visibility.{is_own}
use Rattle.api_types.proofs.ListLemmas.{each-filter, each-push, false_true}
use Rattle.api_types.proofs.NameLemmas.{bytes_itself, bytes_same, ident_itself, ident_same}
use Rattle.api_types.specs.Consistent.{IsConsistent}
use Rattle.api_types.specs.Given.{are_unlike, is_for_other, owner_of}
use Rattle.api_types.specs.Lists.{Each, is_empty}
use Rattle.api_types.specs.Outcome.{Moved, Outcome}
use Rattle.api_types.specs.Printed.{NoRow, Reply}
use Rattle.api_types.specs.Refusing.{needing, not_found, unless, when}
use Rattle.api_types.specs.Registration.{Drawing, drawn_id}
use Rattle.api_types.specs.RowLists.{RowLists}
use Rattle.api_types.specs.Table.{ident_eq}
use Rattle.api_types.specs.WithRows.{put_in}
use Rattle.api_types.specs.declared.call.Caller.{Caller}
use Rattle.api_types.specs.declared.call.IdText.{IdText}
use Rattle.api_types.specs.declared.form.GatewayAsked.{GatewayAsked}
use Rattle.api_types.specs.declared.form.Given.{Given}
use Rattle.api_types.specs.declared.form.Given.TheVariants.{Absent, Is, Null}
use Rattle.api_types.specs.declared.form.RouterForm.{RouterForm}
use Rattle.api_types.specs.declared.kind.Kind.TheVariants.{Network as NetworkKind, Router as RouterKind}
use Rattle.api_types.specs.declared.kind.Row.TheVariants.{Router}
use Rattle.api_types.specs.declared.network.NetworkRow.{NetworkRow}
use Rattle.api_types.specs.declared.port.Fixed.{Fixed}
use Rattle.api_types.specs.declared.port.PortRow.{PortRow}
use Rattle.api_types.specs.declared.refusal.Refusal.{Refusal}
use Rattle.api_types.specs.declared.refusal.Refusal.TheVariants.{CountersSpent, Invalid, PoolsSpent}
use Rattle.api_types.specs.declared.router.Gateway.{Gateway}
use Rattle.api_types.specs.declared.router.RouterRow.{RouterRow}
use Rattle.call_parts.proofs.EditLemmas.{made-append}
use Rattle.call_parts.specs.BodyNames.{unless_found}
use Rattle.call_parts.specs.Edits.{Drop, Edit, Put, accepted, made}
use Rattle.call_parts.specs.State.{State, drawing_at, is_last}
use Rattle.net_settings.specs.Settings.{SettingsParts}
use Rattle.apart_laws.proofs.Drawn.{drawn_fresh, draws_sparing}
use Rattle.kept_laws.proofs.OutcomeLemmas.{moved_rows, named_is, needing_moved, unfound, unless_moved}
use Rattle.kept_laws.proofs.EditedRows.{none_refused}
use Rattle.apart_laws.proofs.Serving.{IsAlone, alone_there, leads, lost_spares, put_alone, put_here, put_spares, router_added_spares}
use Rattle.plan_routers.proofs.GatewaysSpare.{gateway_on_spares, router_gone_spares}
use Rattle.apart_laws.proofs.Steps.{Spares, or_fails, own_owner, own_tenant, spares_then, unneeded}
use Rattle.plan_routers.specs.RouterCalls.{bad_first_gateway, changed_router, creation_refusal, deletion_refusal, gateway_added, gateway_edits, gateway_gone, gateway_name, gateway_network, gateway_port, gateway_replaced, kept_gateway, lost_gateway, new_gateway, new_router, old_snat, outer_addresses, outer_taken, router_added, router_changed, router_created, router_deleted, router_moved, router_replaced, router_updated, router_with, update_refusal}
use Rattle.row_laws.proofs.SetLemmas.{get_last}
use Rattle.row_laws.specs.Drawn.{AreNew}
use Rattle.std.proofs.Common.{Bool, List, None, Option, Some, [], ap, append-nil, arith, false, if◌then◌else◌, length, lit<, not, refl, slice_get, subst, sym, true, ℕ, ◌++◌, ◌∙◌, ◌∷◌, ◌≡◌}
use Rattle.std.specs.Prelude.{codes, is_some, option_and_then, unwrap_or}
use Rattle.std.specs.Str.{bytes_eq}

-- a new router, before it has a gateway
abbrev with_new : RowLists → RouterRow → RowLists
with_new rows r = record rows { routers = rows.routers ++ r ∷ [] }

module _ (settings : SettingsParts) (state : State) (caller : Caller) (form : RouterForm) (rows : RowLists) (reply : Reply) (named : not (is_empty caller.project) ≡ true) (c : IsConsistent state.rows) where
  abbrev owner : List ℕ
  owner = owner_of caller form.project_id form.tenant_id

  added_spares : (asked : Option NetworkRow) → owner ≡ caller.project → router_with settings state caller form owner asked ≡ Moved rows reply → Spares caller.project state.rows rows
  added_spares None own h =
      let add : Drawing → Outcome = λ d. router_added caller d.rows (new_router settings form owner (drawn_id d 0)) (new_router settings form owner (drawn_id d 0)) [] in
      let drawing = needing_moved CountersSpent (drawing_at state owner 1) add rows reply h in
      let d : Drawing = drawing.0 in
      let r : RouterRow = new_router settings form owner (drawn_id d 0) in
      let itself : bytes_eq owner caller.project ≡ true = ap (λ name. bytes_eq name caller.project) own ∙ bytes_itself caller.project in
      subst (Spares caller.project state.rows) (moved_rows (with_new d.rows r) rows _ reply drawing.2)
      (spares_then caller.project state.rows d.rows (with_new d.rows r) (draws_sparing state caller.project owner 1 d own drawing.1).spares
      (router_added_spares caller.project d.rows r itself refl))
  added_spares (Some n) own h =
      let snat : Bool = unwrap_or (snat_asked form) true in
      let add : List Fixed → ℕ → Drawing → Outcome = λ fixed mac d. gateway_added caller d.rows (new_router settings form owner (drawn_id d 0))
      (gateway_port settings (new_router settings form owner (drawn_id d 0)) n (drawn_id d 1) mac fixed) snat in
      let draw : List Fixed → ℕ → Outcome = λ fixed mac. needing CountersSpent (drawing_at state owner 2) (add fixed mac) in
      let choose : List Fixed → Outcome = λ fixed. needing CountersSpent (free_mac state.rows.ports n.id) (draw fixed) in
      let at_fixed = needing_moved (PoolsSpent n.id) (outer_addresses state.rows n) choose rows reply h in
      let at_mac = needing_moved CountersSpent (free_mac state.rows.ports n.id) (draw at_fixed.0) rows reply at_fixed.2 in
      let drawing = needing_moved CountersSpent (drawing_at state owner 2) (add at_fixed.0 at_mac.0) rows reply at_mac.2 in
      let d : Drawing = drawing.0 in
      let r : RouterRow = new_router settings form owner (drawn_id d 0) in
      let p : PortRow = gateway_port settings r n (drawn_id d 1) at_mac.0 at_fixed.0 in
      let itself : bytes_eq owner caller.project ≡ true = ap (λ name. bytes_eq name caller.project) own ∙ bytes_itself caller.project in
      let ids : AreNew 2 d = drawn_fresh state caller.project owner 2 d c named own (lit< tt) drawing.1 in
      let others_ids : Each (λ (q : RouterRow). ident_eq r.id q.id ≡ false) d.rows.routers = unfound (λ (q : RouterRow). ident_eq r.id q.id) d.rows.routers (ids 0 (lit< tt)).routers in
      let alone : IsAlone (λ (q : RouterRow). q.id) r (d.rows.routers ++ r ∷ []) =
      each-push (λ (q : RouterRow). ident_eq r.id q.id ≡ true → q ≡ r) d.rows.routers r (λ k q at same. false_true _ (sym (others_ids k q at) ∙ same)) (λ same. refl) in
      let fresh : Each (λ (q : PortRow). ident_eq p.id q.id ≡ false) d.rows.ports = unfound (λ (q : PortRow). ident_eq p.id q.id) d.rows.ports (ids 1 (lit< tt)).ports in
      let first : RowLists = with_new d.rows r in
      let now : RowLists = made first (gateway_edits r p snat) in
      subst (Spares caller.project state.rows) (moved_rows now rows _ reply drawing.2)
      (spares_then caller.project state.rows d.rows now (draws_sparing state caller.project owner 2 d own drawing.1).spares
      (spares_then caller.project d.rows first now (router_added_spares caller.project d.rows r itself refl)
      (gateway_on_spares caller.project first r (length d.rows.routers) p snat (get_last d.rows.routers r) itself alone refl fresh)))

  pub router_created_spares : caller.admin ≡ false → router_created settings state caller form ≡ Moved rows reply → Spares caller.project state.rows rows
  router_created_spares tenant h =
      let passed = unless_moved (creation_refusal settings state.rows caller form owner) (router_with settings state caller form owner (gateway_network state.rows caller form)) rows reply h in
      let by_admin : Option Refusal = admin_only caller (router_for_admin caller form) in
      let os : List (Option Refusal) =
      when (are_unlike form.project_id form.tenant_id) (Invalid (codes "tenant_id"))
      ∷ bad_first_gateway state.rows caller form owner
      ∷ unless_found NetworkKind (gateway_name form) (gateway_network state.rows caller form)
      ∷ by_admin
      ∷ option_and_then (outer_taken state.rows) (gateway_network state.rows caller form)
      ∷ over_quota settings state.rows owner RouterKind
      ∷ [] in
      let plain = or_fails (is_some (snat_asked form)) (is_for_other caller form.project_id form.tenant_id) (unneeded caller (router_for_admin caller form) tenant (none_refused os passed.0 3 by_admin refl)) in
      added_spares (gateway_network state.rows caller form) (own_owner caller form.project_id form.tenant_id plain.1) passed.1

-- of the old gateway and the one that stays: its port is the old one's
abbrev stays_led : Option Gateway → Option Gateway → Bool
stays_led o None = true
stays_led None (Some g) = false
stays_led (Some g) (Some kept) = ident_eq kept.port g.port

kept_leads : (o : Option Gateway) (asked : Given GatewayAsked) → stays_led o (kept_gateway o asked) ≡ true
kept_leads None Absent = refl
kept_leads (Some g) Absent = ident_itself g.port
kept_leads None Null = refl
kept_leads (Some g) Null = refl
kept_leads None (Is a) = refl
kept_leads (Some g) (Is a) = by (ident_eq g.network a.network)
  where
    by : (b : Bool) → stays_led (Some g) (if b then Some (record g { snat = unwrap_or a.snat g.snat }) else None) ≡ true
    by true = ident_itself g.port
    by false = refl

-- what stays of routers and ports
routers_after : (rows : RowLists) (new : RouterRow) (o : Option Gateway) → (made rows (Put (Router new) ∷ gateway_gone o)).routers ≡ put_in (λ (r : RouterRow). r.id) new rows.routers
routers_after rows new None = refl
routers_after rows new (Some g) = refl

ports_after : (rows : RowLists) (new : RouterRow) (o : Option Gateway) (P : PortRow → Type 0) → Each P rows.ports → Each P (made rows (Put (Router new) ∷ gateway_gone o)).ports
ports_after rows new None P all = all
ports_after rows new (Some g) P all = each-filter (λ (q : PortRow). not (ident_eq g.port q.id)) P P rows.ports (λ q kept h. h) all

-- the router with what stays of its gateway, and without the port of what goes
module _ (project : List ℕ) (rows : RowLists) (old new : RouterRow) (k : ℕ) (at : slice_get rows.routers k ≡ Some old) (same : new.id ≡ old.id) (owner : new.project ≡ old.project) (own : bytes_eq old.project project ≡ true)
    (alone : IsAlone (λ (r : RouterRow). r.id) old rows.routers) where
  rerouted_spares : (o n : Option Gateway) → old.gateway ≡ o → new.gateway ≡ n → stays_led o n ≡ true → Spares project rows (made rows (Put (Router new) ∷ gateway_gone (lost_gateway o n)))
  rerouted_spares None None had has led = put_spares project rows old new k at same owner own alone (λ i. ap (leads i) has ∙ sym (ap (leads i) had))
  rerouted_spares None (Some g) had has led = false_true _ led
  rerouted_spares (Some g) (Some kept) had has led = put_spares project rows old new k at same owner own alone
      (λ i. ap (leads i) has ∙ (ap (λ j. ident_eq j i) (ident_same kept.port g.port led) ∙ sym (ap (leads i) had)))
  rerouted_spares (Some g) None had has led = lost_spares project rows old new k at same owner own alone g had has

module _ (settings : SettingsParts) (state : State) (caller : Caller) (form : RouterForm) (rows : RowLists) (reply : Reply) (named : not (is_empty caller.project) ≡ true) (c : IsConsistent state.rows)
    (r : RouterRow) (k : ℕ) (at : slice_get state.rows.routers k ≡ Some r) (own : bytes_eq r.project caller.project ≡ true) where
  abbrev new : RouterRow
  new = changed_router form r

  abbrev first_edits : List Edit
  first_edits = Put (Router new) ∷ gateway_gone (lost_gateway r.gateway new.gateway)

  alone : IsAlone (λ (q : RouterRow). q.id) r state.rows.routers
  alone = alone_there (λ (q : RouterRow). q.id) state.rows.routers k r (omega (arith, c.numbered.ids r.id)) at

  -- in rows with the same routers
  first_spares : (base : RowLists) → base.routers ≡ state.rows.routers → Spares caller.project base (made base first_edits)
  first_spares base same = rerouted_spares caller.project base r new k (ap (λ rs. slice_get rs k) same ∙ at) refl refl own (subst (IsAlone (λ (q : RouterRow). q.id) r) (sym same) alone)
      r.gateway new.gateway refl refl (kept_leads r.gateway form.external_gateway_info)

  unmoved : router_moved settings state caller form r new None ≡ Moved rows reply → Spares caller.project state.rows rows
  unmoved h =
      let passed = unless_moved (when (is_last state) CountersSpent) (router_replaced caller state.rows r new new []) rows reply h in
      subst (Spares caller.project state.rows) (ap (made state.rows) (sym (append-nil first_edits)) ∙ moved_rows (made state.rows (first_edits ++ [])) rows _ reply passed.1)
      (first_spares state.rows refl)

  moved : (n : NetworkRow) → new.gateway ≡ None → router_moved settings state caller form r new (Some n) ≡ Moved rows reply → Spares caller.project state.rows rows
  moved n none h =
      let snat : Bool = unwrap_or (snat_asked form) (old_snat r.gateway) in
      let add : List Fixed → ℕ → Drawing → Outcome = λ fixed mac d. gateway_replaced caller d.rows r new (gateway_port settings r n (drawn_id d 0) mac fixed) snat in
      let draw : List Fixed → ℕ → Outcome = λ fixed mac. needing CountersSpent (drawing_at state r.project 1) (add fixed mac) in
      let choose : List Fixed → Outcome = λ fixed. needing CountersSpent (free_mac state.rows.ports n.id) (draw fixed) in
      let at_fixed = needing_moved (PoolsSpent n.id) (outer_addresses state.rows n) choose rows reply h in
      let at_mac = needing_moved CountersSpent (free_mac state.rows.ports n.id) (draw at_fixed.0) rows reply at_fixed.2 in
      let drawing = needing_moved CountersSpent (drawing_at state r.project 1) (add at_fixed.0 at_mac.0) rows reply at_mac.2 in
      let d : Drawing = drawing.0 in
      let p : PortRow = gateway_port settings r n (drawn_id d 0) at_mac.0 at_fixed.0 in
      let is_name : r.project ≡ caller.project = bytes_same r.project caller.project own in
      let drawn = draws_sparing state caller.project r.project 1 d is_name drawing.1 in
      let ids : AreNew 1 d = drawn_fresh state caller.project r.project 1 d c named is_name (lit< tt) drawing.1 in
      let lost : Option Gateway = lost_gateway r.gateway new.gateway in
      let first : RowLists = made d.rows first_edits in
      let now : RowLists = made first (gateway_edits new p snat) in
      let routers : first.routers ≡ put_in (λ (q : RouterRow). q.id) new d.rows.routers = routers_after d.rows new lost in
      let there : slice_get first.routers k ≡ Some new = ap (λ rs. slice_get rs k) routers ∙ put_here (λ (q : RouterRow). q.id) new d.rows.routers k r (ap (λ rs. slice_get rs k) drawn.rest.routers ∙ at) refl in
      let one : IsAlone (λ (q : RouterRow). q.id) new first.routers = subst (IsAlone (λ (q : RouterRow). q.id) new) (sym routers) (put_alone (λ (q : RouterRow). q.id) new d.rows.routers) in
      let fresh : Each (λ (q : PortRow). ident_eq p.id q.id ≡ false) first.ports =
      ports_after d.rows new lost (λ (q : PortRow). ident_eq p.id q.id ≡ false) (unfound (λ (q : PortRow). ident_eq p.id q.id) d.rows.ports (ids 0 (lit< tt)).ports) in
      subst (Spares caller.project state.rows) (sym (made-append d.rows first_edits (gateway_edits new p snat)) ∙ moved_rows (made d.rows (first_edits ++ gateway_edits new p snat)) rows _ reply drawing.2)
      (spares_then caller.project state.rows d.rows now drawn.spares
      (spares_then caller.project d.rows first now (first_spares d.rows drawn.rest.routers)
      (gateway_on_spares caller.project first new k p snat there own one none fresh)))

  by_kept : (o : Option Gateway) → new.gateway ≡ o → (asked : Option NetworkRow) → router_moved settings state caller form r new (new_gateway asked o) ≡ Moved rows reply → Spares caller.project state.rows rows
  by_kept (Some g) has asked h = unmoved h
  by_kept None has None h = unmoved h
  by_kept None has (Some n) h = moved n has h

pub router_updated_spares : (settings : SettingsParts) (state : State) (caller : Caller) (name : IdText) (form : RouterForm) (rows : RowLists) (reply : Reply) → caller.admin ≡ false → not (is_empty caller.project) ≡ true → IsConsistent state.rows
    → router_updated settings state caller name form ≡ Moved rows reply → Spares caller.project state.rows rows
router_updated_spares settings state caller name form rows reply tenant named c h =
    let rest : RouterRow → Outcome = λ r. router_changed settings state caller form r (changed_router form r) in
    let found = needing_moved (not_found RouterKind name.text) (router_seen state.rows caller name.id) rest rows reply h in
    let r : RouterRow = found.0 in
    let here = named_is (λ (q : RouterRow). q.id) (λ (q : RouterRow). is_own caller q.project) state.rows.routers name.id r found.1 in
    let next : RouterRow = changed_router form r in
    let passed = unless_moved (update_refusal state.rows caller form r next) (router_moved settings state caller form r next (new_gateway (gateway_network state.rows caller form) next.gateway)) rows reply found.2 in
    by_kept settings state caller form rows reply named c r here.place here.at (own_tenant caller r.project tenant here.is_seen)
    (kept_gateway r.gateway form.external_gateway_info) refl (gateway_network state.rows caller form) passed.1

pub router_deleted_spares : (state : State) (caller : Caller) (name : IdText) (rows : RowLists) (reply : Reply) → caller.admin ≡ false → IsConsistent state.rows
    → router_deleted state caller name ≡ Moved rows reply → Spares caller.project state.rows rows
router_deleted_spares state caller name rows reply tenant c h =
    let gone : RouterRow → Outcome = λ r. accepted state.rows (gateway_gone r.gateway ++ Drop RouterKind r.id ∷ []) (λ after. NoRow) in
    let rest : RouterRow → Outcome = λ r. unless (deletion_refusal state caller r) (gone r) in
    let found = needing_moved (not_found RouterKind name.text) (router_seen state.rows caller name.id) rest rows reply h in
    let r : RouterRow = found.0 in
    let here = named_is (λ (q : RouterRow). q.id) (λ (q : RouterRow). is_own caller q.project) state.rows.routers name.id r found.1 in
    let passed = unless_moved (deletion_refusal state caller r) (gone r) rows reply found.2 in
    subst (Spares caller.project state.rows) (moved_rows (made state.rows (gateway_gone r.gateway ++ Drop RouterKind r.id ∷ [])) rows _ reply passed.1)
    (router_gone_spares caller.project state.rows r here.place here.at (own_tenant caller r.project tenant here.is_seen)
    (alone_there (λ (q : RouterRow). q.id) state.rows.routers here.place r (omega (arith, c.numbered.ids r.id)) here.at) r.gateway refl)
