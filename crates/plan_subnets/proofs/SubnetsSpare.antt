-- A tenant's calls on subnets leave what others own alone.
use Rattle.api_ipam.specs.MacChoice.{mac_if}
use Rattle.api_policy.specs.Permits.{network_owner}
use Rattle.api_policy.specs.Quotas.{over_quota}
use Rattle.api_policy.specs.Seen.{network_seen, subnet_seen}
use Rattle.api_policy.specs.Uses.{old_gateway_in_use, subnet_in_use}
use Rattle.api_policy.specs.Visibility.{owns_network, sees_network, sees_subnet}
use Rattle.api_types.proofs.ListLemmas.{and_both}
use Rattle.api_types.proofs.NameLemmas.{bytes_same, ident_itself, ident_same, must}
use Rattle.api_types.specs.Consistent.{IsConsistent}
use Rattle.api_types.specs.Given.{value_of}
use Rattle.api_types.specs.HeldAddresses.{fixed_at}
use Rattle.api_types.specs.Ident.{Ident}
use Rattle.api_types.specs.Lists.{is_some_so, times}
use Rattle.api_types.specs.Outcome.{Moved, Outcome}
use Rattle.api_types.specs.Owners.{is_dhcp, is_dhcp_of}
use Rattle.api_types.specs.Printed.{NoRow, OneRow, Reply}
use Rattle.api_types.specs.Refusing.{needing, not_found, unless, when}
use Rattle.api_types.specs.Registration.{Drawing, drawn_id}
use Rattle.api_types.specs.RowLists.{RowLists}
use Rattle.api_types.specs.Table.{ident_eq, row_of}
use Rattle.api_types.specs.WithRows.{gone_from, put_in, with_put, without_row}
use Rattle.api_types.specs.declared.call.Caller.{Caller}
use Rattle.api_types.specs.declared.call.IdText.{IdText}
use Rattle.api_types.specs.declared.floating.FloatingRow.{FloatingRow}
use Rattle.api_types.specs.declared.form.SubnetForm.{SubnetForm}
use Rattle.api_types.specs.declared.kind.Kind.TheVariants.{Network as NetworkKind, Subnet as SubnetKind}
use Rattle.api_types.specs.declared.kind.Row.TheVariants.{Floating, Subnet}
use Rattle.api_types.specs.declared.network.NetworkRow.{NetworkRow}
use Rattle.api_types.specs.declared.port.Fixed.{Fixed}
use Rattle.api_types.specs.declared.port.PortRow.{PortRow}
use Rattle.api_types.specs.declared.refusal.Refusal.{Refusal}
use Rattle.api_types.specs.declared.refusal.Refusal.TheVariants.{CountersSpent, PoolsSpent}
use Rattle.api_types.specs.declared.subnet.SubnetRow.{SubnetRow}
use Rattle.call_parts.proofs.EditLemmas.{made-append}
use Rattle.call_parts.specs.BodyNames.{no_id, text_of}
use Rattle.call_parts.specs.Edits.{Drop, Edit, Put, accepted, made}
use Rattle.call_parts.specs.Leaving.{disassociated, disassociations, loses_target}
use Rattle.call_parts.specs.State.{State, drawing_at, is_last}
use Rattle.net_addr.specs.declared.address.Addr.{Addr}
use Rattle.net_settings.specs.Settings.{SettingsParts}
use Rattle.apart_laws.proofs.Drawn.{draws_sparing}
use Rattle.apart_laws.proofs.Filtered.{one_pushed, others_gone, others_put}
use Rattle.apart_laws.proofs.Leaving.{disassociated_rows, disassociated_spares}
use Rattle.kept_laws.proofs.OutcomeLemmas.{found_at, moved_rows, named_is, needing_moved, unless_moved}
use Rattle.kept_laws.proofs.EditedRows.{none_refused}
use Rattle.apart_laws.proofs.Steps.{AreOwn, Spares, network_own, network_owned, none_of_others, one_owner, others, own_alone, spares_then, with_ports, with_subnets}
use Rattle.plan_subnets.specs.DhcpUpkeep.{begin_serving, dhcp_address, dhcp_port_on, end_serving, giving_back, makes_dhcp_port, new_dhcp_port, port_left, serving, unserving}
use Rattle.plan_subnets.specs.SubnetCalls.{changed_subnet, creation_refusal, deletion_refusal, dhcp_asked, gateway_asked, new_subnet, pools_asked, prefix_asked, subnet_added, subnet_changed, subnet_created, subnet_deleted, subnet_edits, subnet_gone, subnet_shown, subnet_updated, update_refusal}
use Rattle.plan_subnets.specs.SubnetRules.{bad_cidr, bad_dhcp, bad_parts, bad_subnet, bad_versions}
use Rattle.row_laws.specs.Leased.{outside}
use Rattle.row_laws.specs.OwnPorts.{with_floatings_freed}
use Rattle.std.proofs.Common.{Bool, List, None, Option, Some, ap, append-nil, arith, false, if◌then◌else◌, map, not, refl, slice_get, subst, sym, true, ◌++◌, ◌∙◌, ◌∷◌, ◌≡◌, ◌≤◌, [], ℕ}
use Rattle.std.specs.Prelude.{filter, option_and_then, ◌&&◌}
use Rattle.std.specs.Str.{bytes_eq}
use Rattle.apart_laws.proofs.PortsOwned.{port_added_spares, port_gone_spares, port_put_spares}

-- the DHCP port of a network of the project is the project's, as are all with its id
pub record IsOwnPort (project : List ℕ) (ports : List PortRow) (p : PortRow) : Type 0 where
  pub own : bytes_eq p.project project ≡ true
  pub all : AreOwn (λ (q : PortRow). q.id) (λ (q : PortRow). q.project) project p.id ports

abbrev pub ServedByOwn : List ℕ → Ident → List PortRow → Type 0
ServedByOwn project network ports = (p : PortRow) → dhcp_port_on ports network ≡ Some p → IsOwnPort project ports p

served_by_own : (rows : RowLists) → IsConsistent rows → (project : List ℕ) (network : Ident) → owns_network rows project network ≡ true → ServedByOwn project network rows.ports
served_by_own rows c project network owns p found =
    let r = found_at (is_dhcp_of network) rows.ports p found in
    let both = and_both (ident_eq network p.network) (is_dhcp p.owner) r.2 in
    let here : network ≡ p.network = ident_same network p.network both.0 in
    let own = one_owner rows c p.network p.project project (must (is_dhcp p.owner) _ both.1 (c.in_form.dhcp_owners r.0 p r.1)) (subst (λ i. owns_network rows project i ≡ true) here owns) in
    record { own = own; all = own_alone (λ (q : PortRow). q.id) (λ (q : PortRow). q.project) project rows.ports r.0 p (omega (arith, c.numbered.ids p.id)) r.1 own }

-- a subnet begins to be leased
serving_spares : (project : List ℕ) (settings : SettingsParts) (rows : RowLists) (n : NetworkRow) (o : Option PortRow) (i : Ident) (mac : ℕ) (f : Fixed) → bytes_eq n.project project ≡ true
    → ((p : PortRow) → o ≡ Some p → IsOwnPort project rows.ports p) → Spares project rows (made rows (serving settings n o i mac f))
serving_spares project settings rows n None i mac f own served = port_added_spares project rows (new_dhcp_port settings n i mac f) own
serving_spares project settings rows n (Some p) i mac f own served =
    let it = served p refl in
    port_put_spares project rows (record p { fixed = p.fixed ++ f ∷ [] }) it.own it.all

begun_spares : (project : List ℕ) (settings : SettingsParts) (rows : RowLists) (base : RowLists) (n : NetworkRow) (b : Bool) (i : Ident) (mac : ℕ) (f : Fixed) → bytes_eq n.project project ≡ true
    → base.ports ≡ rows.ports → ServedByOwn project n.id base.ports → Spares project rows (made rows (begin_serving settings base n b i mac f))
begun_spares project settings rows base n false i mac f own same served = with_ports project rows rows.ports refl
begun_spares project settings rows base n true i mac f own same served =
    serving_spares project settings rows n (dhcp_port_on base.ports n.id) i mac f own (λ p found. subst (λ ports. IsOwnPort project ports p) same (served p found))

-- a subnet is leased no more
module _ (project : List ℕ) (old : RowLists) (c : IsConsistent old) (rows : RowLists) (floatings : old.floatings ≡ rows.floatings) (ports : old.ports ≡ rows.ports) where
  left_spares : (p : PortRow) (fs : List Fixed) (now : RowLists) → IsOwnPort project now.ports p → Spares project now (made now (port_left p fs ∷ []))
  left_spares p [] now it = port_gone_spares project now p.id it.all
  left_spares p (f ∷ fs) now it = port_put_spares project now (record p { fixed = f ∷ fs }) it.own it.all

  given_back_spares : (p : PortRow) (fs : List Fixed) → IsOwnPort project old.ports p → Spares project rows (made rows (giving_back rows.floatings p fs))
  given_back_spares p fs it =
      let es : List Edit = disassociations rows.floatings p.id fs in
      let once : (i : Ident) → times (λ (f : FloatingRow). f.id) i rows.floatings ≤ 1 = λ i. subst (λ fs. times (λ (f : FloatingRow). f.id) i fs ≤ 1) floatings (omega (arith, c.numbered.ids i)) in
      let freed : RowLists = with_floatings_freed (λ f. is_some_so (loses_target p.id fs) f.target) rows in
      let are : made rows es ≡ freed = disassociated_rows rows once p.id fs in
      let one : Spares project rows (made rows es) = disassociated_spares project old rows c p it.all floatings fs in
      let two : Spares project (made rows es) (made (made rows es) (port_left p fs ∷ [])) =
      subst (λ now. Spares project now (made now (port_left p fs ∷ []))) (sym are) (left_spares p fs freed (subst (λ ps. IsOwnPort project ps p) ports it)) in
      subst (Spares project rows) (sym (made-append rows es (port_left p fs ∷ []))) (spares_then project rows (made rows es) _ one two)

  ended_spares : (base : RowLists) (network : Ident) (b : Bool) (subnet : Ident) → base.floatings ≡ rows.floatings → base.ports ≡ old.ports → ServedByOwn project network old.ports
      → Spares project rows (made rows (end_serving base network b subnet))
  ended_spares base network false subnet fs ps served = with_ports project rows rows.ports refl
  ended_spares base network true subnet fs ps served = by (dhcp_port_on base.ports network) (λ p found. served p (ap (λ ports. dhcp_port_on ports network) (sym ps) ∙ found))
    where
      by : (o : Option PortRow) → ((p : PortRow) → o ≡ Some p → IsOwnPort project old.ports p) → Spares project rows (made rows (unserving base o subnet))
      by None it = with_ports project rows rows.ports refl
      by (Some p) it = subst (λ fs. Spares project rows (made rows (giving_back fs p (outside subnet p.fixed)))) (sym fs) (given_back_spares p (outside subnet p.fixed) (it p refl))

pub subnet_created_spares : (settings : SettingsParts) (state : State) (caller : Caller) (form : SubnetForm) (rows : RowLists) (reply : Reply) → caller.admin ≡ false → IsConsistent state.rows
    → subnet_created settings state caller form ≡ Moved rows reply → Spares caller.project state.rows rows
subnet_created_spares settings state caller form rows reply tenant c h =
    let seen : Option NetworkRow = network_seen state.rows caller (value_of form.network_id) in
    let begins : Bool = dhcp_asked form in
    let makes : NetworkRow → Bool = λ n. makes_dhcp_port state.rows.ports n.id begins in
    let many : NetworkRow → ℕ = λ n. if makes n then 2 else 1 in
    let add : NetworkRow → Addr → ℕ → Drawing → Outcome = λ n x mac d. subnet_added settings caller d n (new_subnet form n (drawn_id d 0)) x mac in
    let draw : NetworkRow → Addr → ℕ → Outcome = λ n x mac. needing CountersSpent (drawing_at state n.project (many n)) (add n x mac) in
    let choose : NetworkRow → Addr → Outcome = λ n x. needing CountersSpent (mac_if (makes n) state.rows.ports n.id) (draw n x) in
    let lease : NetworkRow → Outcome = λ n. needing (PoolsSpent n.id) (dhcp_address state.rows.ports n.id begins (new_subnet form n no_id)) (choose n) in
    let make : NetworkRow → Outcome = λ n. unless (creation_refusal settings state.rows caller n) (lease n) in
    let third : Outcome = needing (not_found NetworkKind (text_of (value_of form.network_id))) seen make in
    let second : Outcome = unless (bad_subnet (prefix_asked form) (gateway_asked form) (pools_asked form)) third in
    let first : Outcome = unless (option_and_then (bad_cidr state.rows (prefix_asked form)) seen) second in
    let a = unless_moved (bad_parts form) first rows reply h in
    let b = unless_moved (option_and_then (bad_cidr state.rows (prefix_asked form)) seen) second rows reply a.1 in
    let e = unless_moved (bad_subnet (prefix_asked form) (gateway_asked form) (pools_asked form)) third rows reply b.1 in
    let found = needing_moved (not_found NetworkKind (text_of (value_of form.network_id))) seen make rows reply e.1 in
    let n : NetworkRow = found.0 in
    let here = named_is (λ (q : NetworkRow). q.id) (sees_network state.rows caller) state.rows.networks (value_of form.network_id) n found.1 in
    let passed = unless_moved (creation_refusal settings state.rows caller n) (lease n) rows reply found.2 in
    let at_x = needing_moved (PoolsSpent n.id) (dhcp_address state.rows.ports n.id begins (new_subnet form n no_id)) (choose n) rows reply passed.1 in
    let at_mac = needing_moved CountersSpent (mac_if (makes n) state.rows.ports n.id) (draw n at_x.0) rows reply at_x.2 in
    let drawing = needing_moved CountersSpent (drawing_at state n.project (many n)) (add n at_x.0 at_mac.0) rows reply at_mac.2 in
    let d : Drawing = drawing.0 in
    let s : SubnetRow = new_subnet form n (drawn_id d 0) in
    let by_owner : Option Refusal = network_owner state.rows caller true n.id in
    let os : List (Option Refusal) = by_owner ∷ over_quota settings state.rows n.project SubnetKind ∷ [] in
    let owns = network_owned state.rows caller n.id tenant (none_refused os passed.0 0 by_owner refl) in
    let own = network_own state.rows c caller.project n.id here.place n here.at (ident_itself n.id) owns in
    let drawn = draws_sparing state caller.project n.project (many n) d (bytes_same n.project caller.project own) drawing.1 in
    let put : RowLists = record d.rows { subnets = d.rows.subnets ++ s ∷ [] } in
    let es : List Edit = begin_serving settings d.rows n s.dhcp (drawn_id d 1) at_mac.0 (fixed_at s.id at_x.0) in
    let served : ServedByOwn caller.project n.id d.rows.ports = subst (ServedByOwn caller.project n.id) (sym drawn.rest.ports) (served_by_own state.rows c caller.project n.id owns) in
    let added : Spares caller.project d.rows put = with_subnets caller.project d.rows (d.rows.subnets ++ s ∷ [])
    (one_pushed (others (λ (x : SubnetRow). x.project) caller.project) d.rows.subnets s (ap not own)) in
    subst (Spares caller.project state.rows) (moved_rows (made put es) rows _ reply drawing.2)
    (spares_then caller.project state.rows d.rows (made put es) drawn.spares
    (spares_then caller.project d.rows put (made put es) added
    (begun_spares caller.project settings put d.rows n s.dhcp (drawn_id d 1) at_mac.0 (fixed_at s.id at_x.0) own refl served)))

-- a subnet of a network of the project is the project's, with all of its id
subnet_owned : (rows : RowLists) → IsConsistent rows → (project : List ℕ) (k : ℕ) (s : SubnetRow) → slice_get rows.subnets k ≡ Some s → owns_network rows project s.network ≡ true
    → bytes_eq s.project project ≡ true
subnet_owned rows c project k s at owns = one_owner rows c s.network s.project project (c.in_form.subnet_owners k s at) owns

-- what begins and what ends excludes each other
module _ (project : List ℕ) (settings : SettingsParts) (old : RowLists) (c : IsConsistent old) (base put : RowLists) (n : NetworkRow) (i : Ident) (mac : ℕ) (f : Fixed) (subnet : Ident) (own : bytes_eq n.project project ≡ true)
    (ports : base.ports ≡ old.ports) (floatings : base.floatings ≡ old.floatings) (served : ServedByOwn project n.id old.ports) (same_ports : base.ports ≡ put.ports) (same_floatings : base.floatings ≡ put.floatings) where
  begin_alone : (b : Bool) → Spares project put (made put (begin_serving settings base n b i mac f))
  begin_alone b = begun_spares project settings put base n b i mac f own same_ports (subst (ServedByOwn project n.id) (sym ports) served)

  end_alone : (b : Bool) → Spares project put (made put (end_serving base n.id b subnet))
  end_alone b = ended_spares project old c put (sym floatings ∙ same_floatings) (sym ports ∙ same_ports) base n.id b subnet same_floatings ports served

  changed_spares : (new_dhcp old_dhcp : Bool) → Spares project put (made put (begin_serving settings base n (new_dhcp && not old_dhcp) i mac f ++ end_serving base n.id (old_dhcp && not new_dhcp) subnet))
  changed_spares true true = with_ports project put put.ports refl
  changed_spares false true = end_alone true
  changed_spares false false = with_ports project put put.ports refl
  changed_spares true false = subst (λ es. Spares project put (made put es)) (sym (append-nil (begin_serving settings base n true i mac f))) (begin_alone true)

pub subnet_updated_spares : (settings : SettingsParts) (state : State) (caller : Caller) (name : IdText) (form : SubnetForm) (rows : RowLists) (reply : Reply) → caller.admin ≡ false → IsConsistent state.rows
    → subnet_updated settings state caller name form ≡ Moved rows reply → Spares caller.project state.rows rows
subnet_updated_spares settings state caller name form rows reply tenant c h =
    let change : SubnetRow → NetworkRow → Outcome = λ s n. subnet_changed settings state caller form n s (changed_subnet form s) in
    let rest : SubnetRow → Outcome = λ s. needing (not_found SubnetKind name.text) (row_of (λ (q : NetworkRow). q.id) s.network state.rows.networks) (change s) in
    let found = needing_moved (not_found SubnetKind name.text) (subnet_seen state.rows caller name.id) rest rows reply h in
    let s : SubnetRow = found.0 in
    let here = named_is (λ (q : SubnetRow). q.id) (sees_subnet state.rows caller) state.rows.subnets name.id s found.1 in
    let on = needing_moved (not_found SubnetKind name.text) (row_of (λ (q : NetworkRow). q.id) s.network state.rows.networks) (change s) rows reply found.2 in
    let n : NetworkRow = on.0 in
    let at_n = found_at (λ (q : NetworkRow). ident_eq s.network q.id) state.rows.networks n on.1 in
    let new : SubnetRow = changed_subnet form s in
    let begins : Bool = new.dhcp && not s.dhcp in
    let makes : Bool = makes_dhcp_port state.rows.ports n.id begins in
    let many : ℕ = if makes then 1 else 0 in
    let add : Addr → ℕ → Drawing → Outcome = λ x mac d. accepted d.rows (subnet_edits settings d.rows n s new (drawn_id d 0) mac (fixed_at new.id x)) (λ after. OneRow (subnet_shown after caller new [])) in
    let draw : Addr → ℕ → Outcome = λ x mac. needing CountersSpent (drawing_at state n.project many) (add x mac) in
    let choose : Addr → Outcome = λ x. needing CountersSpent (mac_if makes state.rows.ports n.id) (draw x) in
    let lease : Outcome = needing (PoolsSpent n.id) (dhcp_address state.rows.ports n.id begins new) choose in
    let passed = unless_moved (update_refusal state.rows caller form s new) lease rows reply on.2 in
    let at_x = needing_moved (PoolsSpent n.id) (dhcp_address state.rows.ports n.id begins new) choose rows reply passed.1 in
    let at_mac = needing_moved CountersSpent (mac_if makes state.rows.ports n.id) (draw at_x.0) rows reply at_x.2 in
    let drawing = needing_moved CountersSpent (drawing_at state n.project many) (add at_x.0 at_mac.0) rows reply at_mac.2 in
    let d : Drawing = drawing.0 in
    let by_owner : Option Refusal = network_owner state.rows caller true s.network in
    let os : List (Option Refusal) = bad_versions s.prefix.base form ∷ bad_subnet new.prefix new.gateway new.pools ∷ bad_dhcp form s ∷ by_owner ∷ old_gateway_in_use state.rows caller s new ∷ [] in
    let owns : owns_network state.rows caller.project s.network ≡ true = network_owned state.rows caller s.network tenant (none_refused os passed.0 3 by_owner refl) in
    let own : bytes_eq n.project caller.project ≡ true = network_own state.rows c caller.project s.network at_n.0 n at_n.1 at_n.2 owns in
    let owns_n : owns_network state.rows caller.project n.id ≡ true = subst (λ i. owns_network state.rows caller.project i ≡ true) (ident_same s.network n.id at_n.2) owns in
    let own_s = subnet_owned state.rows c caller.project here.place s here.at owns in
    let drawn = draws_sparing state caller.project n.project many d (bytes_same n.project caller.project own) drawing.1 in
    let put : RowLists = with_put d.rows (Subnet new) in
    let es : List Edit = begin_serving settings d.rows n begins (drawn_id d 0) at_mac.0 (fixed_at new.id at_x.0) ++ end_serving d.rows n.id (s.dhcp && not new.dhcp) s.id in
    let are : AreOwn (λ (q : SubnetRow). q.id) (λ (q : SubnetRow). q.project) caller.project s.id d.rows.subnets =
    subst (AreOwn (λ (q : SubnetRow). q.id) (λ (q : SubnetRow). q.project) caller.project s.id) (sym drawn.rest.subnets)
    (own_alone (λ (q : SubnetRow). q.id) (λ (q : SubnetRow). q.project) caller.project state.rows.subnets here.place s (omega (arith, c.numbered.ids s.id)) here.at own_s) in
    let set : Spares caller.project d.rows put = with_subnets caller.project d.rows (put_in (λ (q : SubnetRow). q.id) new d.rows.subnets)
    (others_put (others (λ (r : SubnetRow). r.project) caller.project) (λ (q : SubnetRow). ident_eq s.id q.id) new d.rows.subnets (ap not own_s)
    (none_of_others (λ (q : SubnetRow). q.id) (λ (q : SubnetRow). q.project) caller.project s.id d.rows.subnets are)) in
    subst (Spares caller.project state.rows) (moved_rows (made put es) rows _ reply drawing.2)
    (spares_then caller.project state.rows d.rows (made put es) drawn.spares
    (spares_then caller.project d.rows put (made put es) set
    (changed_spares caller.project settings state.rows c d.rows put n (drawn_id d 0) at_mac.0 (fixed_at new.id at_x.0) s.id own drawn.rest.ports drawn.rest.floatings (served_by_own state.rows c caller.project n.id owns_n) refl refl new.dhcp s.dhcp)))

pub subnet_deleted_spares : (state : State) (caller : Caller) (name : IdText) (rows : RowLists) (reply : Reply) → caller.admin ≡ false → IsConsistent state.rows
    → subnet_deleted state caller name ≡ Moved rows reply → Spares caller.project state.rows rows
subnet_deleted_spares state caller name rows reply tenant c h =
    let gone : SubnetRow → Outcome = λ s. accepted state.rows (subnet_gone state.rows s) (λ after. NoRow) in
    let rest : SubnetRow → Outcome = λ s. unless (deletion_refusal state caller s) (gone s) in
    let found = needing_moved (not_found SubnetKind name.text) (subnet_seen state.rows caller name.id) rest rows reply h in
    let s : SubnetRow = found.0 in
    let here = named_is (λ (q : SubnetRow). q.id) (sees_subnet state.rows caller) state.rows.subnets name.id s found.1 in
    let passed = unless_moved (deletion_refusal state caller s) (gone s) rows reply found.2 in
    let by_owner : Option Refusal = network_owner state.rows caller true s.network in
    let os : List (Option Refusal) = by_owner ∷ subnet_in_use state.rows caller s.id ∷ when (is_last state) CountersSpent ∷ [] in
    let owns = network_owned state.rows caller s.network tenant (none_refused os passed.0 0 by_owner refl) in
    let own_s = subnet_owned state.rows c caller.project here.place s here.at owns in
    let es : List Edit = end_serving state.rows s.network s.dhcp s.id in
    let ended : RowLists = made state.rows es in
    let first : Spares caller.project state.rows ended = ended_spares caller.project state.rows c state.rows refl refl state.rows s.network s.dhcp s.id refl refl (served_by_own state.rows c caller.project s.network owns) in
    let subnets : ended.subnets ≡ state.rows.subnets = end_keeps state.rows state.rows s.network s.dhcp s.id in
    let are : AreOwn (λ (q : SubnetRow). q.id) (λ (q : SubnetRow). q.project) caller.project s.id ended.subnets =
    subst (AreOwn (λ (q : SubnetRow). q.id) (λ (q : SubnetRow). q.project) caller.project s.id) (sym subnets)
    (own_alone (λ (q : SubnetRow). q.id) (λ (q : SubnetRow). q.project) caller.project state.rows.subnets here.place s (omega (arith, c.numbered.ids s.id)) here.at own_s) in
    let last : Spares caller.project ended (without_row ended SubnetKind s.id) = with_subnets caller.project ended (gone_from (λ (q : SubnetRow). q.id) s.id ended.subnets)
    (others_gone (others (λ (r : SubnetRow). r.project) caller.project) (λ (q : SubnetRow). ident_eq s.id q.id) ended.subnets
    (none_of_others (λ (q : SubnetRow). q.id) (λ (q : SubnetRow). q.project) caller.project s.id ended.subnets are)) in
    subst (Spares caller.project state.rows) (sym (made-append state.rows es (Drop SubnetKind s.id ∷ [])) ∙ moved_rows (made state.rows (subnet_gone state.rows s)) rows _ reply passed.1)
    (spares_then caller.project state.rows ended (without_row ended SubnetKind s.id) first last)
  where
    puts_keep : (now : RowLists) (fs : List FloatingRow) → (made now (map (λ (f : FloatingRow). Put (Floating (disassociated f))) fs)).subnets ≡ now.subnets
    puts_keep now [] = refl
    puts_keep now (f ∷ fs) = puts_keep (with_put now (Floating (disassociated f))) fs

    left_keeps : (now : RowLists) (p : PortRow) (fs : List Fixed) → (made now (port_left p fs ∷ [])).subnets ≡ now.subnets
    left_keeps now p [] = refl
    left_keeps now p (f ∷ fs) = refl

    back_keeps : (now base : RowLists) (p : PortRow) (fs : List Fixed) → (made now (giving_back base.floatings p fs)).subnets ≡ now.subnets
    back_keeps now base p fs =
        ap (λ (r : RowLists). r.subnets) (made-append now (disassociations base.floatings p.id fs) (port_left p fs ∷ []))
        ∙ (left_keeps (made now (disassociations base.floatings p.id fs)) p fs
        ∙ puts_keep now (filter (λ (f : FloatingRow). is_some_so (loses_target p.id fs) f.target) base.floatings))

    end_keeps : (now base : RowLists) (network : Ident) (b : Bool) (subnet : Ident) → (made now (end_serving base network b subnet)).subnets ≡ now.subnets
    end_keeps now base network false subnet = refl
    end_keeps now base network true subnet = by (dhcp_port_on base.ports network)
      where
        by : (o : Option PortRow) → (made now (unserving base o subnet)).subnets ≡ now.subnets
        by None = refl
        by (Some p) = back_keeps now base p (outside subnet p.fixed)
