-- An accepted change of a subnet keeps rows consistent.
use Rattle.api_types.specs.declared.kind.Row.TheVariants.{Subnet}
use Rattle.kept_laws.proofs.FixedFits.{each_append, each_cons}
use Rattle.kept_laws.proofs.TypedKept.{HaveKept, IsTypedEdit, drawing_typed, made_typed}
use Rattle.plan_subnets.proofs.ServingTyped.{begin_typed, end_typed, made_small}
use Rattle.std.proofs.Common.{lit<, Bool, List, None, Option, Some, [], ap, arith, false, not, refl, slice_get, slice_set, subst, sym, true, ℕ, ◌++◌, ◌+◌, ◌<◌, ◌^◌, ◌∙◌, ◌∷◌, ◌≡◌}
use Rattle.std.specs.Prelude.{if◌then◌else◌, is_none, is_some, ◌&&◌, ◌==◌, ◌||◌}
use Rattle.std.specs.List.{list_all}
use Rattle.net_addr.specs.Addresses.{addr_eq, is_v4, same_version}
use Rattle.net_addr.specs.Prefixes.{IsPrefix, eui}
use Rattle.net_addr.specs.declared.address.Addr.{Addr}
use Rattle.api_types.specs.Consistent.{IsConsistent}
use Rattle.api_types.specs.Consistent.InForm.{are_modes, is_eui, is_hop_like, is_subnet_form, makes_eui, mode_eq}
use Rattle.api_types.specs.Ident.{Ident}
use Rattle.api_types.specs.Lists.{Each, if_some, is_empty, is_some_so}
use Rattle.api_types.specs.Outcome.{Moved, Outcome}
use Rattle.api_types.specs.Owners.{is_interface}
use Rattle.api_types.specs.Printed.{OneRow, Reply}
use Rattle.api_types.specs.Registration.{Drawing, drawn_id}
use Rattle.api_types.specs.RowLists.{RowLists}
use Rattle.api_types.specs.Table.{ident_eq, row_of}
use Rattle.api_types.specs.declared.call.Call.TheVariants.{Update}
use Rattle.api_types.specs.declared.call.Caller.{Caller}
use Rattle.api_types.specs.declared.call.IdText.{IdText}
use Rattle.api_types.specs.declared.form.Form.TheVariants.{Subnet as SubnetOf}
use Rattle.api_types.specs.declared.form.Given.{Given}
use Rattle.api_types.specs.declared.form.Given.TheVariants.{Absent, Is, Null}
use Rattle.api_types.specs.declared.form.SubnetForm.{SubnetForm}
use Rattle.api_types.specs.declared.kind.Kind.TheVariants.{Subnet as SubnetKind}
use Rattle.api_types.specs.declared.network.NetworkRow.{NetworkRow}
use Rattle.api_types.specs.declared.port.PortRow.{PortRow}
use Rattle.api_types.specs.declared.refusal.Refusal.TheVariants.{CountersSpent, PoolsSpent}
use Rattle.api_types.specs.declared.subnet.Ipv6Mode.{Ipv6Mode}
use Rattle.api_types.specs.declared.subnet.SubnetRow.{SubnetRow}
use Rattle.row_laws.specs.Drawn.{IsDrawing}
use Rattle.row_laws.specs.Replaced.{IsReplacedSubnet}
use Rattle.row_laws.proofs.DrawnKept.{draws, drawing_carried}
use Rattle.api_types.proofs.ListLemmas.{and_both, both_and, false_true}
use Rattle.api_types.proofs.NameLemmas.{and_fails, ident_same, not_true}
use Rattle.row_laws.proofs.SubnetReplaced.{subnet_replaced as subnet_kept}
use Rattle.kept_laws.proofs.ChoiceLemmas.{pool_passes}
use Rattle.kept_laws.proofs.EditedRows.{none_refused, put_at}
use Rattle.kept_laws.proofs.GatewayStays.{gateway_stays}
use Rattle.plan_subnets.proofs.SubnetBodies.{SubnetBodyParts, body_parts, good_subnet, good_versions}
use Rattle.kept_laws.proofs.GivenLemmas.{has_name, value_all, value_few}
use Rattle.kept_laws.proofs.PoolHosts.{pool_host}
use Rattle.plan_subnets.proofs.ServingBegins.{HasPortIds, IsServable, serving_begun}
use Rattle.plan_subnets.proofs.ServingEnds.{serving_ended}
use Rattle.kept_laws.proofs.SubnetForms.{form_of, parts_of}
use Rattle.plan_subnets.specs.DhcpUpkeep.{begin_serving, dhcp_address, dhcp_port_on, end_serving, makes_dhcp_port, served_address}
use Rattle.call_parts.specs.Edits.{Put, accepted, made}
use Rattle.api_types.specs.WithRows.{put_in}
use Rattle.api_types.specs.HeldAddresses.{fixed_at, is_address_held}
use Rattle.call_parts.specs.InForm.{is_subnet_body, IsFormed}
use Rattle.api_ipam.specs.MacChoice.{free_mac, mac_if}
use Rattle.api_policy.specs.Permits.{network_owner}
use Rattle.plan_subnets.specs.SubnetRules.{bad_dhcp, bad_subnet, bad_versions}
use Rattle.api_policy.specs.Seen.{subnet_seen}
use Rattle.plan_subnets.specs.SubnetCalls.{changed_subnet, subnet_changed, subnet_edits, subnet_shown, subnet_updated, update_refusal}
use Rattle.call_parts.specs.Typed.{AreTyped}
use Rattle.api_policy.specs.Uses.{old_gateway_in_use}
use Rattle.api_policy.specs.Visibility.{sees_subnet}
use Rattle.kept_laws.proofs.OutcomeLemmas.{found_at, moved_rows, named_is, needing_moved, not_when, unless_moved}
use Rattle.api_types.specs.Given.{value_or}
use Rattle.api_types.specs.Refusing.{needing, not_found}
use Rattle.call_parts.specs.State.{State, drawing_at}
use Rattle.net_settings.specs.Settings.{SettingsParts}
use Rattle.kept_laws.proofs.CarriedKept.{IsCarriedEdit, made_carried}
use Rattle.plan_subnets.proofs.ServingCarried.{begin_carried, end_carried}
use Rattle.api_ml2.specs.Carrying.{carries}
use Rattle.call_parts.proofs.EditLemmas.{made-append}
use Rattle.call_parts.proofs.DrawnLemmas.{drawn_is}

-- modes stand, since a subnet with one isn't freed of DHCP
modes_still : (am rm : Option Ipv6Mode) (v d : Bool) (g : Given Bool) → not (value_or true g) && (is_some am || is_some rm) ≡ false → (is_none am && is_none rm) || (v && d) ≡ true → (is_none am && is_none rm) || (v && value_or d g) ≡ true
modes_still am rm v d Absent bad h = h
modes_still am rm v d Null bad h = h
modes_still am rm v true (Is true) bad h = h
modes_still None None v false (Is b) bad h = refl
modes_still None None v true (Is false) bad h = refl
modes_still None (Some r) v d (Is false) bad h = cc
modes_still (Some a) rm v d (Is false) bad h = cc
modes_still None (Some r) v false (Is true) bad h = false_true _ (sym (and_fails v false refl) ∙ h)
modes_still (Some a) rm v false (Is true) bad h = false_true _ (sym (and_fails v false refl) ∙ h)

module _ (rows : RowLists) (caller : Caller) (form : SubnetForm) (s : SubnetRow) (was : is_subnet_form s ≡ true) (body : SubnetBodyParts form) (passed : update_refusal rows caller form s (changed_subnet form s) ≡ None) where
  abbrev new : SubnetRow
  new = changed_subnet form s

  none : Each (λ o. o ≡ None) (bad_versions s.prefix.base form ∷ bad_subnet new.prefix new.gateway new.pools ∷ bad_dhcp form s ∷ network_owner rows caller true s.network ∷ old_gateway_in_use rows caller s new ∷ [])
  none = none_refused (bad_versions s.prefix.base form ∷ bad_subnet new.prefix new.gateway new.pools ∷ bad_dhcp form s ∷ network_owner rows caller true s.network ∷ old_gateway_in_use rows caller s new ∷ []) passed

  modes : are_modes new ≡ true
  modes =
      let parts = parts_of s was in
      let a = and_both _ (not (is_eui s) || (s.prefix.len == 64)) parts.modes in
      let b = and_both ((is_none s.address_mode && is_none s.ra_mode) || (not (is_v4 s.prefix.base) && s.dhcp)) (if_some (λ a. if_some (mode_eq a) s.ra_mode) s.address_mode) a.0 in
      let dhcp = not_when (not (value_or true form.enable_dhcp) && (is_some s.address_mode || is_some s.ra_mode)) _ (none 2 (bad_dhcp form s) refl) in
      both_and _ (not (is_eui s) || (s.prefix.len == 64)) (both_and _ (if_some (λ a. if_some (mode_eq a) s.ra_mode) s.address_mode) (modes_still s.address_mode s.ra_mode (not (is_v4 s.prefix.base)) s.dhcp form.enable_dhcp dhcp b.0) b.1) a.1

  pub new_form : is_subnet_form new ≡ true
  new_form =
      let parts = parts_of s was in
      let good = good_subnet new.prefix new.gateway new.pools (none 1 (bad_subnet new.prefix new.gateway new.pools) refl) in
      let versions = good_versions s.prefix.base form (none 0 (bad_versions s.prefix.base form) refl) in
      let were = and_both (list_all (same_version s.prefix.base) s.dns) (list_all (is_hop_like s.prefix.base) s.host_routes) parts.versions in
      form_of new (record {
        low = parts.low;
        high = parts.high;
        modes = modes;
        versions = both_and _ _ (value_all (same_version s.prefix.base) s.dns form.dns_nameservers were.0 versions.dns) (value_all (is_hop_like s.prefix.base) s.host_routes form.host_routes were.1 versions.routes);
        gateway = good.gateway_in;
        pools = good.pools_in;
        apart = good.apart;
        few_pools = value_few 20 s.pools form.allocation_pools parts.few_pools body.few_pools;
        few_dns = value_few 5 s.dns form.dns_nameservers parts.few_dns body.few_dns;
        few_routes = value_few 20 s.host_routes form.host_routes parts.few_routes body.few_routes;
      })

  pub new_same : IsReplacedSubnet rows.ports s new
  new_same = record {
    id = refl;
    project = refl;
    network = refl;
    prefix = refl;
    own = gateway_stays rows caller s new refl refl (none 4 (old_gateway_in_use rows caller s new) refl);
  }

-- an address of a subnet without DHCP before comes of its pools
no_eui : (s : SubnetRow) → is_subnet_form s ≡ true → s.dhcp ≡ false → is_eui s ≡ false
no_eui s form plain =
    let parts = parts_of s form in
    let a = and_both _ (not (is_eui s) || (s.prefix.len == 64)) parts.modes in
    let b = and_both ((is_none s.address_mode && is_none s.ra_mode) || (not (is_v4 s.prefix.base) && s.dhcp)) (if_some (λ a. if_some (mode_eq a) s.ra_mode) s.address_mode) a.0 in
    by s.address_mode (is_none s.ra_mode) (not (is_v4 s.prefix.base)) ((λ j. (is_none s.address_mode && is_none s.ra_mode) || (not (is_v4 s.prefix.base) && sym plain j)) ∙ b.0)
  where
    by : (am : Option Ipv6Mode) (r v : Bool) → (is_none am && r) || (v && false) ≡ true → is_some_so makes_eui am ≡ false
    by None r v h = refl
    by (Some m) r v h = false_true _ (sym (and_fails v false refl) ∙ h)

-- a pool address that is chosen is servable
pub pool_servable : (ports : List PortRow) (network : Ident) (s : SubnetRow) (x : Addr) → is_eui s ≡ false → is_subnet_form s ≡ true → IsPrefix s.prefix → served_address ports network s false ≡ Some x → IsServable ports network s x
pool_servable ports network s x plain form is h = record {
  host = pool_host s (λ y. not (is_address_held ports network y)) s.pools x is (parts_of s form).pools h;
  free = not_true (is_address_held ports network x) (pool_passes (λ y. not (is_address_held ports network y)) s.pools x h);
  own = λ q e. ap (λ b. not b || (addr_eq x (eui s.prefix q.mac) || (is_interface q.owner && is_some_so (addr_eq x) s.gateway))) plain;
}

module _ (settings : SettingsParts) (state : State) (caller : Caller) (form : SubnetForm) (c : IsConsistent state.rows) (typed : AreTyped state.rows) (body : SubnetBodyParts form)
    (n : NetworkRow) (l : ℕ) (at_n : slice_get state.rows.networks l ≡ Some n) (s : SubnetRow) (place : ℕ) (at : slice_get state.rows.subnets place ≡ Some s) (there : s.network ≡ n.id) where
  abbrev after : SubnetRow
  after = changed_subnet form s

  after_form : update_refusal state.rows caller form s after ≡ None → is_subnet_form after ≡ true
  after_form passed = new_form state.rows caller form s (c.in_form.subnet_forms place s at) body passed

  -- the edits at the drawing's rows
  edits_keep : update_refusal state.rows caller form s after ≡ None → (d : Drawing) (many : ℕ) → IsDrawing state.rows n.project many d → (mac : ℕ) (x : Addr) (makes : Bool) → many ≡ (if makes then 1 else 0) → mac_if makes state.rows.ports n.id ≡ Some mac
      → makes ≡ makes_dhcp_port state.rows.ports n.id (after.dhcp && not s.dhcp) → dhcp_address state.rows.ports n.id (after.dhcp && not s.dhcp) after ≡ Some x
      → IsConsistent (made d.rows (subnet_edits settings d.rows n s after (drawn_id d 0) mac (fixed_at after.id x)))
  edits_keep passed d many drawn mac x makes many_is mac_is makes_is x_is = by s.dhcp after.dhcp refl refl makes_is x_is
    where
      at_d : slice_get d.rows.subnets place ≡ Some s
      at_d = ap (λ subnets. slice_get subnets place) drawn.subnets ∙ at

      same_d : IsReplacedSubnet d.rows.ports s after
      same_d = subst (λ ports. IsReplacedSubnet ports s after) (sym drawn.ports) (new_same state.rows caller form s (c.in_form.subnet_forms place s at) body passed)

      set : put_in (λ (q : SubnetRow). q.id) after d.rows.subnets ≡ slice_set d.rows.subnets place after
      set = put_at (λ (q : SubnetRow). q.id) d.rows.subnets place s after at_d refl (λ i. omega (arith, drawn.consistent.numbered.ids i))

      replaced : after.dhcp ≡ s.dhcp → IsConsistent (record d.rows { subnets = put_in (λ (q : SubnetRow). q.id) after d.rows.subnets })
      replaced leased = subst (λ subnets. IsConsistent (record d.rows { subnets = subnets })) (sym set) (subnet_kept d.rows place s after at_d same_d leased (after_form passed) drawn.consistent)

      ids : makes ≡ makes_dhcp_port state.rows.ports n.id true → dhcp_port_on d.rows.ports n.id ≡ None → HasPortIds d.rows n.id (drawn_id d 0) mac
      ids is absent =
          let making : makes ≡ true = is ∙ ap is_none (sym (ap (λ ports. dhcp_port_on ports n.id) drawn.ports) ∙ absent) in
          let one : many ≡ 1 = many_is ∙ ap (λ b. if b then 1 else 0) making in
          record {
            fresh = drawn.fresh 0 (omega (arith, one));
            drawn = drawn.drawn 0 (omega (arith, one));
            mac_is = ap (λ ports. free_mac ports n.id) drawn.ports ∙ (ap (λ b. mac_if b state.rows.ports n.id) (sym making) ∙ mac_is);
          }

      by : (a b : Bool) → s.dhcp ≡ a → after.dhcp ≡ b → makes ≡ makes_dhcp_port state.rows.ports n.id (b && not a) → dhcp_address state.rows.ports n.id (b && not a) after ≡ Some x
          → IsConsistent (made (record d.rows { subnets = put_in (λ (q : SubnetRow). q.id) after d.rows.subnets })
          (begin_serving settings d.rows n (b && not a) (drawn_id d 0) mac (fixed_at after.id x) ++ end_serving d.rows n.id (a && not b) s.id))
      by false false was is making h = replaced (is ∙ sym was)
      by true true was is making h = replaced (is ∙ sym was)
      by false true was is making h =
          let plain : is_eui after ≡ false = no_eui s (c.in_form.subnet_forms place s at) was in
          let served : served_address state.rows.ports n.id after false ≡ Some x = ap (served_address state.rows.ports n.id after) (sym plain) ∙ h in
          let servable = pool_servable state.rows.ports n.id after x plain (after_form passed) (typed.prefixes place s at) served in
          let begun = serving_begun settings d.rows place s after at_d drawn.consistent same_d (after_form passed) was is n l (ap (λ networks. slice_get networks l) drawn.networks ∙ at_n) there x
          (subst (λ ports. IsServable ports n.id after x) (sym drawn.ports) servable) (drawn_id d 0) mac (ids making) in
          subst IsConsistent (sym (made-append (record d.rows { subnets = put_in (λ (q : SubnetRow). q.id) after d.rows.subnets }) (begin_serving settings d.rows n true (drawn_id d 0) mac (fixed_at after.id x)) []
          ∙ (begun.is (put_in (λ (q : SubnetRow). q.id) after d.rows.subnets) ∙ ap (λ subnets. record d.rows { subnets = subnets; ports = begun.ports }) set))) begun.consistent
      by true false was is making h =
          let ended = serving_ended d.rows place s after at_d drawn.consistent was is same_d (after_form passed) in
          subst IsConsistent (sym (ap (λ i. made (record d.rows { subnets = put_in (λ (q : SubnetRow). q.id) after d.rows.subnets }) (end_serving d.rows i true s.id)) (sym there)
          ∙ (ended.is (put_in (λ (q : SubnetRow). q.id) after d.rows.subnets) ∙ ap (λ subnets. record d.rows { subnets = subnets; ports = ended.ports; floatings = ended.floatings }) set))) ended.consistent

  pub replaced_kept : (rows : RowLists) (reply : Reply) → subnet_changed settings state caller form n s after ≡ Moved rows reply → HaveKept settings state.rows rows
  replaced_kept rows reply h =
      let makes : Bool = makes_dhcp_port state.rows.ports n.id (after.dhcp && not s.dhcp) in
      let last : Addr → ℕ → Drawing → Outcome = λ x mac d. accepted d.rows (subnet_edits settings d.rows n s after (drawn_id d 0) mac (fixed_at after.id x)) (λ rows. OneRow (subnet_shown rows caller after [])) in
      let draw : Addr → ℕ → Outcome = λ x mac. needing CountersSpent (drawing_at state n.project (if makes then 1 else 0)) (last x mac) in
      let with_mac : Addr → Outcome = λ x. needing CountersSpent (mac_if makes state.rows.ports n.id) (draw x) in
      let first = unless_moved (update_refusal state.rows caller form s after) (needing (PoolsSpent n.id) (dhcp_address state.rows.ports n.id (after.dhcp && not s.dhcp) after) with_mac) rows reply h in
      let address = needing_moved (PoolsSpent n.id) (dhcp_address state.rows.ports n.id (after.dhcp && not s.dhcp) after) with_mac rows reply first.1 in
      let mac = needing_moved CountersSpent (mac_if makes state.rows.ports n.id) (draw address.0) rows reply address.2 in
      let drawing = needing_moved CountersSpent (drawing_at state n.project (if makes then 1 else 0)) (last address.0 mac.0) rows reply mac.2 in
      let d : Drawing = drawing.0 in
      let drawn = draws state.rows n.project (if makes then 1 else 0) d c (has_name state.rows n.project c (c.named.projects.of_networks l n at_n)) (room makes) (drawn_is state n.project (if makes then 1 else 0) d drawing.1) in
      let edits = subnet_edits settings d.rows n s after (drawn_id d 0) mac.0 (fixed_at after.id address.0) in
      let begun = begin_serving settings d.rows n (after.dhcp && not s.dhcp) (drawn_id d 0) mac.0 (fixed_at after.id address.0) in
      let ended = end_serving d.rows n.id (s.dhcp && not after.dhcp) s.id in
      subst (HaveKept settings state.rows) (moved_rows (made d.rows edits) rows _ reply drawing.2) (record {
        consistent = edits_keep first.0 d (if makes then 1 else 0) drawn mac.0 address.0 makes refl mac.1 refl address.1;
        typed = λ t.
            let now = drawing_typed state.rows n.project (if makes then 1 else 0) d drawn t in
            made_typed d.rows edits now (each_cons IsTypedEdit (Put (Subnet after)) (begun ++ ended) (t.prefixes place s at) (each_append IsTypedEdit begun ended
            (begin_typed settings d.rows n (after.dhcp && not s.dhcp) (drawn_id d 0) mac.0 (fixed_at after.id address.0) now
            (made_small state.rows.ports d.rows.ports drawn.ports n.id (after.dhcp && not s.dhcp) makes mac.0 refl mac.1))
            (end_typed d.rows n.id (s.dhcp && not after.dhcp) s.id now)));
        carried = λ held.
            let can = carries settings.hosts in
            let now = drawing_carried can state.rows n.project (if makes then 1 else 0) d drawn held in
            made_carried can d.rows edits now (each_cons (IsCarriedEdit can d.rows.networks) (Put (Subnet after)) (begun ++ ended) tt (each_append (IsCarriedEdit can d.rows.networks) begun ended
            (begin_carried settings d.rows n l (ap (λ networks. slice_get networks l) drawn.networks ∙ at_n) (after.dhcp && not s.dhcp) (drawn_id d 0) mac.0 (fixed_at after.id address.0) now)
            (end_carried can d.rows n.id (s.dhcp && not after.dhcp) s.id now)));
      })
    where
      room : (b : Bool) → 5 + (if b then 1 else 0) < 2 ^ 62
      room true = lit< tt
      room false = lit< tt

pub updated_kept : (settings : SettingsParts) (state : State) (caller : Caller) (name : IdText) (form : SubnetForm) (rows : RowLists) (reply : Reply) → IsConsistent state.rows → AreTyped state.rows
    → IsFormed caller (Update name (SubnetOf form)) → subnet_updated settings state caller name form ≡ Moved rows reply → HaveKept settings state.rows rows
updated_kept settings state caller name form rows reply c typed given h =
    let body = body_parts form (and_both (not (is_empty caller.project)) (is_subnet_body form) given).1 in
    let change : SubnetRow → NetworkRow → Outcome = λ s n. subnet_changed settings state caller form n s (changed_subnet form s) in
    let with_network : SubnetRow → Outcome = λ s. needing (not_found SubnetKind name.text) (row_of (λ (n : NetworkRow). n.id) s.network state.rows.networks) (change s) in
    let found = needing_moved (not_found SubnetKind name.text) (subnet_seen state.rows caller name.id) with_network rows reply h in
    let s : SubnetRow = found.0 in
    let here = named_is (λ (q : SubnetRow). q.id) (sees_subnet state.rows caller) state.rows.subnets name.id s found.1 in
    let network = needing_moved (not_found SubnetKind name.text) (row_of (λ (n : NetworkRow). n.id) s.network state.rows.networks) (change s) rows reply found.2 in
    let n : NetworkRow = network.0 in
    let there = found_at (λ (m : NetworkRow). ident_eq s.network m.id) state.rows.networks n network.1 in
    replaced_kept settings state caller form c typed body n there.0 there.1 s here.place here.at (ident_same s.network n.id there.2) rows reply network.2
