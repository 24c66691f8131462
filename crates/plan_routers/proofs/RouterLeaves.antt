-- Accepted calls that take a router out, or an interface from it, keep rows consistent.
use Rattle.std.proofs.Common.{◌≡◌, ◌∙◌, ◌++◌, ℕ, List, [], ◌∷◌, Bool, true, false, Option, Some, None, slice_get, map, refl, ap, sym, subst, ◌<◌, ◌^◌}
use Rattle.std.specs.Prelude.{filter, find, not, ◌&&◌}
use Rattle.net_settings.specs.Settings.{SettingsParts}
use Rattle.api_types.specs.Ident.{Ident, ident_text}
use Rattle.api_types.specs.Lists.{Each, is_some_so}
use Rattle.api_types.specs.Outcome.{Moved, Outcome}
use Rattle.api_types.specs.Owners.{holds_in, is_interface, is_port_of}
use Rattle.api_types.specs.Printed.{NoRow, InterfaceRow, Reply}
use Rattle.api_types.specs.RowLists.{RowLists}
use Rattle.api_types.specs.Table.{ident_eq, row_of}
use Rattle.api_types.specs.Consistent.{IsConsistent}
use Rattle.api_types.specs.declared.call.Caller.{Caller}
use Rattle.api_types.specs.declared.call.IdText.{IdText}
use Rattle.api_types.specs.declared.floating.FloatingRow.{FloatingRow}
use Rattle.api_types.specs.declared.floating.Target.{Target}
use Rattle.api_types.specs.declared.network.NetworkRow.{NetworkRow}
use Rattle.api_types.specs.declared.port.PortRow.{PortRow}
use Rattle.api_types.specs.declared.refusal.Refusal.{Refusal}
use Rattle.api_types.specs.declared.router.Gateway.{Gateway}
use Rattle.api_types.specs.declared.router.RouterRow.{RouterRow}
use Rattle.api_types.specs.declared.subnet.SubnetRow.{SubnetRow}
use Rattle.api_policy.specs.Visibility.{is_own}
use Rattle.api_types.specs.Refusing.{needing, not_found, unless, when}
use Rattle.call_parts.specs.State.{State, is_last}
use Rattle.kept_laws.proofs.OutcomeLemmas.{found_at, moved_rows, named_is, needing_moved, none_first, unfound, unless_moved}
use Rattle.api_types.specs.declared.call.InterfaceBy.{InterfaceBy}
use Rattle.api_types.specs.declared.call.InterfaceBy.TheVariants.{Subnet as BySubnet, Port as ByPort}
use Rattle.api_types.specs.declared.kind.Kind.TheVariants.{Port as PortKind, Router as RouterKind, Subnet as SubnetKind}
use Rattle.api_types.specs.declared.refusal.Refusal.TheVariants.{CountersSpent}
use Rattle.api_types.specs.declared.refusal.UseRule.TheVariants.{RouterInUse, RouterInterfaceInUseByFloatingIp}
use Rattle.api_ml2.specs.Carrying.{carries}
use Rattle.api_types.specs.Consistent.Carried.{AreCarried}
use Rattle.kept_laws.proofs.TypedKept.{HaveKept}
use Rattle.row_laws.proofs.PortsGone.{are_carried}
use Rattle.row_laws.specs.Gateways.{HasNoInterface, ports_without}
use Rattle.row_laws.specs.Interfaces.{is_led_through, IsFreeInterface}
use Rattle.row_laws.specs.OwnPorts.{freed_if}
use Rattle.row_laws.proofs.Service.FloatingsFreed.{each-map, floatings_freed}
use Rattle.row_laws.proofs.Service.InterfaceOff.{interface_off}
use Rattle.api_types.proofs.ListLemmas.{and_both, any-none, at_filter, each-filter}
use Rattle.row_laws.proofs.Service.RouterOff.{router_off}
use Rattle.call_parts.specs.Edits.{Drop, accepted, edited, made}
use Rattle.plan_routers.specs.InterfaceCalls.{first_subnet, interface_gone, interface_removed, interface_shown, no_interface, port_removed, removal_refusal, removed_by}
use Rattle.call_parts.specs.Leaving.{disassociations, loses_target}
use Rattle.api_policy.specs.Permits.{network_owner, owner_only}
use Rattle.plan_routers.specs.RouterCalls.{deletion_refusal, gateway_gone, router_deleted}
use Rattle.api_types.specs.RouterWays.{interfaces_of}
use Rattle.api_policy.specs.Seen.{port_seen, router_seen, subnet_seen}
use Rattle.api_policy.specs.Uses.{floating_in_use, is_interface_of, leads_through, route_in_use, router_in_use, used_by_floating, used_by_port}
use Rattle.kept_laws.proofs.CallLemmas.{unmapped}
use Rattle.plan_routers.proofs.LeavingLemmas.{disassociated_rows, leaves}
use Rattle.plan_routers.proofs.RouteLemmas.{others_reach}
use Rattle.call_parts.proofs.EditLemmas.{made-append}

-- a router that goes

router_gone_is : (rows : RowLists) (o : Option Gateway) (i : Ident) → made rows (gateway_gone o ++ Drop RouterKind i ∷ []) ≡ record rows { ports = ports_without o rows.ports; routers = filter (λ q. not (ident_eq i q.id)) rows.routers }
router_gone_is rows None i = refl
router_gone_is rows (Some g) i = refl

unused_is : (state : State) (caller : Caller) (r : RouterRow) → deletion_refusal state caller r ≡ None → HasNoInterface state.rows.ports r
unused_is state caller r h =
    let last = when (is_last state) CountersSpent in
    let taken = router_in_use state.rows caller r in
    let first = none_first (owner_only caller r.project) (taken ∷ last ∷ []) h in
    let second = none_first taken (last ∷ []) first.1 in
    unfound (is_interface_of r) state.rows.ports (unmapped (used_by_port state.rows caller RouterInUse RouterKind r.id) (find (is_interface_of r) state.rows.ports) second.0)

-- fewer ports are on hosts that can carry them
pub fewer_carried : (settings : SettingsParts) (lost : Option Gateway) (networks : List NetworkRow) (ports : List PortRow) → AreCarried (carries settings.hosts) networks ports → AreCarried (carries settings.hosts) networks (ports_without lost ports)
fewer_carried settings None networks ports h = h
fewer_carried settings (Some g) networks ports h = are_carried (λ p. not (ident_eq g.port p.id)) ports (carries settings.hosts) h

pub fewer_small : (lost : Option Gateway) (ports : List PortRow) → Each (λ (q : PortRow). q.mac < 2 ^ 48) ports → Each (λ (q : PortRow). q.mac < 2 ^ 48) (ports_without lost ports)
fewer_small None ports h = h
fewer_small (Some g) ports h = each-filter (λ (q : PortRow). not (ident_eq g.port q.id)) (λ (q : PortRow). q.mac < 2 ^ 48) (λ (q : PortRow). q.mac < 2 ^ 48) ports (λ q kept is. is) h

pub router_deleted_kept : (settings : SettingsParts) (state : State) (caller : Caller) (name : IdText) (rows : RowLists) (reply : Reply) → IsConsistent state.rows → router_deleted state caller name ≡ Moved rows reply → HaveKept settings state.rows rows
router_deleted_kept settings state caller name rows reply c h =
    let gone : RouterRow → Outcome = λ r. accepted state.rows (gateway_gone r.gateway ++ Drop RouterKind r.id ∷ []) (λ after. NoRow) in
    let found = needing_moved (not_found RouterKind name.text) (router_seen state.rows caller name.id) (λ r. unless (deletion_refusal state caller r) (gone r)) rows reply h in
    let r : RouterRow = found.0 in
    let here = named_is (λ (q : RouterRow). q.id) (λ (q : RouterRow). is_own caller q.project) state.rows.routers name.id r found.1 in
    let passed = unless_moved (deletion_refusal state caller r) (gone r) rows reply found.2 in
    subst (HaveKept settings state.rows) (sym (router_gone_is state.rows r.gateway r.id) ∙ moved_rows (made state.rows (gateway_gone r.gateway ++ Drop RouterKind r.id ∷ [])) rows _ reply passed.1) (record {
      consistent = router_off state.rows here.place r here.at (unused_is state caller r passed.0) c;
      carried = fewer_carried settings r.gateway state.rows.networks state.rows.ports;
      typed = λ held. record { prefixes = held.prefixes; macs = fewer_small r.gateway state.rows.ports held.macs };
    })

-- an interface that goes

pub record IsUnneeded (rows : RowLists) (caller : Caller) (r : RouterRow) (p : PortRow) : Type 0 where
  pub unrouted : route_in_use rows caller r r.routes p ≡ None
  pub unled : Each (λ f. is_led_through rows.subnets r.id p f ≡ false) rows.floatings

unneeded_is : (state : State) (caller : Caller) (r : RouterRow) (p : PortRow) (owner : Option Refusal) → removal_refusal state caller r p owner ≡ None → IsUnneeded state.rows caller r p
unneeded_is state caller r p owner h =
    let last = when (is_last state) CountersSpent in
    let floating = floating_in_use state.rows caller r p in
    let route = route_in_use state.rows caller r r.routes p in
    let first = none_first (owner_only caller r.project) (owner ∷ route ∷ floating ∷ last ∷ []) h in
    let second = none_first owner (route ∷ floating ∷ last ∷ []) first.1 in
    let third = none_first route (floating ∷ last ∷ []) second.1 in
    let fourth = none_first floating (last ∷ []) third.1 in
    record {
      unrouted = third.0;
      unled = unfound (leads_through state.rows.subnets r.id p) state.rows.floatings
          (unmapped (used_by_floating state.rows caller RouterInterfaceInUseByFloatingIp r) (find (leads_through state.rows.subnets r.id p) state.rows.floatings) fourth.0);
    }

-- what holds of a floating address that was disassociated, or wasn't the port's
untargeted : (i : Ident) (f : FloatingRow) (b : Bool) → is_some_so (loses_target i []) f.target ≡ b → is_some_so (λ (t : Target). ident_eq i t.port) (freed_if b f).target ≡ false
untargeted i f true is = refl
untargeted i f false is = by f.target is
  where
    by : (o : Option Target) → is_some_so (loses_target i []) o ≡ false → is_some_so (λ (t : Target). ident_eq i t.port) o ≡ false
    by None h = refl
    by (Some t) h = first (ident_eq i t.port) h
      where
        first : (b : Bool) → b && true ≡ false → b ≡ false
        first true h = h
        first false h = refl

still_unled : (subnets : List SubnetRow) (router : Ident) (p : PortRow) (f : FloatingRow) (b : Bool) → is_led_through subnets router p f ≡ false → is_led_through subnets router p (freed_if b f) ≡ false
still_unled subnets router p f true h = refl
still_unled subnets router p f false h = h

module _ (settings : SettingsParts) (rows : RowLists) (c : IsConsistent rows) (caller : Caller) (place : ℕ) (r : RouterRow) (at : slice_get rows.routers place ≡ Some r) (k : ℕ) (p : PortRow) (at_p : slice_get rows.ports k ≡ Some p)
    (owner : is_interface p.owner ≡ true) (mine : is_port_of r p ≡ true) (is : IsUnneeded rows caller r p) where
  abbrev freed : RowLists
  freed = record rows { floatings = map (λ f. freed_if (leaves rows c p.id [] f) f) rows.floatings }

  free : IsFreeInterface freed r p
  free = record {
    owner = owner;
    mine = mine;
    no_target = any-none (λ f. is_some_so (λ (t : Target). ident_eq p.id t.port) f.target) freed.floatings
        (each-map (λ f. freed_if (leaves rows c p.id [] f) f) (λ f. is_some_so (λ (t : Target). ident_eq p.id t.port) f.target ≡ false) rows.floatings (λ n f at_f. untargeted p.id f (leaves rows c p.id [] f) refl));
    unled = any-none (is_led_through rows.subnets r.id p) freed.floatings
        (each-map (λ f. freed_if (leaves rows c p.id [] f) f) (λ f. is_led_through rows.subnets r.id p f ≡ false) rows.floatings (λ n f at_f. still_unled rows.subnets r.id p f (leaves rows c p.id [] f) (is.unled n f at_f)));
    reached = others_reach rows c caller r r.routes k p at_p (c.routes.routes place r at) is.unrouted;
  }

  pub interface_gone_kept : HaveKept settings rows (made rows (interface_gone rows.floatings p))
  interface_gone_kept =
      let moved : made rows (interface_gone rows.floatings p) ≡ edited (made rows (disassociations rows.floatings p.id [])) (Drop PortKind p.id) = made-append rows (disassociations rows.floatings p.id []) (Drop PortKind p.id ∷ []) in
      subst (HaveKept settings rows) (sym (moved ∙ ap (λ rs. edited rs (Drop PortKind p.id)) (disassociated_rows rows c p.id []))) (record {
        consistent = interface_off freed place r at k p at_p free (floatings_freed rows c (leaves rows c p.id []));
        carried = are_carried (λ q. not (ident_eq p.id q.id)) rows.ports (carries settings.hosts);
        typed = λ held. record { prefixes = held.prefixes; macs = each-filter (λ (q : PortRow). not (ident_eq p.id q.id)) (λ (q : PortRow). q.mac < 2 ^ 48) (λ (q : PortRow). q.mac < 2 ^ 48) rows.ports (λ q kept is. is) held.macs };
      })

port_removed_kept : (settings : SettingsParts) (state : State) (c : IsConsistent state.rows) (caller : Caller) (place : ℕ) (r : RouterRow) → slice_get state.rows.routers place ≡ Some r → (owner : Option Refusal) (test : PortRow → Bool) (p : PortRow)
    → find test (interfaces_of state.rows.ports r) ≡ Some p → (rows : RowLists) (reply : Reply) → port_removed state caller r owner p ≡ Moved rows reply → HaveKept settings state.rows rows
port_removed_kept settings state c caller place r at owner test p named rows reply h =
    let found = found_at test (interfaces_of state.rows.ports r) p named in
    let here = at_filter (λ (q : PortRow). is_interface q.owner && is_port_of r q) state.rows.ports found.0 p found.1 in
    let both = and_both (is_interface p.owner) (is_port_of r p) here.2 in
    let gone : Outcome = accepted state.rows (interface_gone state.rows.floatings p) (λ after. InterfaceRow (interface_shown r p (first_subnet p.fixed))) in
    let passed = unless_moved (removal_refusal state caller r p owner) gone rows reply h in
    subst (HaveKept settings state.rows) (moved_rows (made state.rows (interface_gone state.rows.floatings p)) rows _ reply passed.1)
    (interface_gone_kept settings state.rows c caller place r at here.0 p here.1 both.0 both.1 (unneeded_is state caller r p owner passed.0))

removed_by_kept : (settings : SettingsParts) (state : State) (c : IsConsistent state.rows) (caller : Caller) (place : ℕ) (r : RouterRow) → slice_get state.rows.routers place ≡ Some r → (by : InterfaceBy) (rows : RowLists) (reply : Reply)
    → removed_by state caller r by ≡ Moved rows reply → HaveKept settings state.rows rows
removed_by_kept settings state c caller place r at (BySubnet i) rows reply h =
    let found = needing_moved (not_found SubnetKind (ident_text i)) (subnet_seen state.rows caller (Some i))
    (λ s. needing (no_interface i) (find (holds_in i) (interfaces_of state.rows.ports r)) (port_removed state caller r (network_owner state.rows caller true s.network))) rows reply h in
    let s : SubnetRow = found.0 in
    let owner : Option Refusal = network_owner state.rows caller true s.network in
    let port = needing_moved (no_interface i) (find (holds_in i) (interfaces_of state.rows.ports r)) (port_removed state caller r owner) rows reply found.2 in
    port_removed_kept settings state c caller place r at owner (holds_in i) port.0 port.1 rows reply port.2
removed_by_kept settings state c caller place r at (ByPort i) rows reply h =
    let found = needing_moved (not_found PortKind (ident_text i)) (port_seen state.rows caller (Some i))
    (λ p. needing (no_interface i) (row_of (λ q. q.id) i (interfaces_of state.rows.ports r)) (port_removed state caller r (owner_only caller p.project))) rows reply h in
    let p : PortRow = found.0 in
    let owner : Option Refusal = owner_only caller p.project in
    let port = needing_moved (no_interface i) (row_of (λ q. q.id) i (interfaces_of state.rows.ports r)) (port_removed state caller r owner) rows reply found.2 in
    port_removed_kept settings state c caller place r at owner (λ q. ident_eq i q.id) port.0 port.1 rows reply port.2

pub interface_removed_kept : (settings : SettingsParts) (state : State) (caller : Caller) (name : IdText) (by : InterfaceBy) (rows : RowLists) (reply : Reply) → IsConsistent state.rows
    → interface_removed state caller name by ≡ Moved rows reply → HaveKept settings state.rows rows
interface_removed_kept settings state caller name by rows reply c h =
    let found = needing_moved (not_found RouterKind name.text) (router_seen state.rows caller name.id) (λ r. removed_by state caller r by) rows reply h in
    let here = named_is (λ (q : RouterRow). q.id) (λ (q : RouterRow). is_own caller q.project) state.rows.routers name.id found.0 found.1 in
    removed_by_kept settings state c caller here.place found.0 here.at by rows reply found.2
