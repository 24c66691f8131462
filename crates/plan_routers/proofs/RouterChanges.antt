-- A gateway that a call makes for a router, and a router that a call changes, keep rows consistent.
use Rattle.std.proofs.Common.{◌≡◌, ◌∙◌, ◌++◌, ℕ, List, [], ◌∷◌, Bool, true, false, Option, Some, None, slice_get, slice_set, length, refl, ap, sym, subst, arith}
use Rattle.std.specs.Prelude.{if◌then◌else◌, nat_le, unwrap_or, ◌&&◌, ◌||◌}
use Rattle.std.specs.List.{list_any, list_all}
use Rattle.net_settings.specs.Settings.{SettingsParts}
use Rattle.api_types.specs.Ident.{Ident, ident_text}
use Rattle.api_types.specs.Lists.{Each, is_some_so}
use Rattle.api_types.specs.Owners.{device_is, holds_in, is_gateway, is_interface, is_port_of}
use Rattle.api_types.specs.RowLists.{RowLists}
use Rattle.api_types.specs.Table.{ident_eq}
use Rattle.api_types.specs.Consistent.{IsConsistent}
use Rattle.api_types.specs.Consistent.NextHops.{is_reached}
use Rattle.api_types.specs.declared.floating.Target.{Target}
use Rattle.api_types.specs.declared.form.Given.{Given}
use Rattle.api_types.specs.declared.form.Given.TheVariants.{Absent, Is, Null}
use Rattle.api_types.specs.declared.network.NetworkRow.{NetworkRow}
use Rattle.api_types.specs.declared.port.Fixed.{Fixed}
use Rattle.api_types.specs.declared.port.PortRow.{PortRow}
use Rattle.api_types.specs.declared.router.Gateway.{Gateway}
use Rattle.api_types.specs.declared.router.RouterRow.{RouterRow}
use Rattle.api_types.specs.declared.subnet.Hop.{Hop}
use Rattle.api_types.specs.declared.subnet.SubnetRow.{SubnetRow}
use Rattle.net_addr.specs.Macs.{is_unicast}
use Rattle.api_types.specs.Sharing.{is_external_to}
use Rattle.api_types.specs.Consistent.Numbered.{is_drawn, times_in}
use Rattle.api_types.specs.Consistent.Services.{is_gateway_of, wanted_gateways}
use Rattle.api_types.specs.declared.kind.Row.TheVariants.{Router}
use Rattle.api_types.specs.declared.form.GatewayAsked.{GatewayAsked}
use Rattle.row_laws.specs.Gateways.{ports_without, unled, with_gateway_off, with_gateway_on}
use Rattle.row_laws.specs.Replaced.{gateways_agree, with_router_at}
use Rattle.api_types.specs.RouterWays.{other_ports, interfaces_of, router_ports, touches}
use Rattle.row_laws.proofs.Service.GatewayOff.{gateway_off}
use Rattle.row_laws.proofs.Service.GatewayOn.{gateway_on}
use Rattle.api_types.proofs.ListLemmas.{any-at, any-none, at_filter, both_and, false_true, filter-any, none-any, none-counted, one_row}
use Rattle.api_types.proofs.NameLemmas.{by_test, first_fails, ident_itself, ident_same}
use Rattle.row_laws.proofs.Service.RouterOff.{gateway_itself, set_there, set_twice}
use Rattle.row_laws.proofs.RouterReplaced.{router_replaced}
use Rattle.call_parts.specs.Edits.{Edit, Put, made}
use Rattle.api_types.specs.WithRows.{put_in}
use Rattle.api_types.specs.HeldAddresses.{is_address_held, is_mac_held, subnets_on}
use Rattle.api_ml2.specs.Placement.{host_or_none}
use Rattle.plan_routers.specs.RouterCalls.{gateway_gone, gateway_port, kept_gateway, lost_gateway}
use Rattle.api_ml2.specs.ServicePorts.{gateway_owner}
use Rattle.kept_laws.proofs.CallLemmas.{router_put}
use Rattle.kept_laws.proofs.GatewayChosen.{AreChosen, chosen_hosts, chosen_named}
use Rattle.plan_routers.proofs.InterfacesKept.{legs_apart}
use Rattle.kept_laws.proofs.ServiceMade.{gateway_is, on_host, service_made}

-- a gateway that is made

module _ (rows : RowLists) (c : IsConsistent rows) (settings : SettingsParts) (place : ℕ) (r : RouterRow) (at : slice_get rows.routers place ≡ Some r) (bare : r.gateway ≡ None)
    (at_network : ℕ) (n : NetworkRow) (network_there : slice_get rows.networks at_network ≡ Some n) (i : Ident) (mac : ℕ) (fixed : List Fixed) (chosen : AreChosen rows.subnets n.id (is_address_held rows.ports n.id) mac fixed) where
  abbrev outer : PortRow
  outer = gateway_port settings r n i mac fixed

  -- a port of the router is an interface
  is_leg : (k : ℕ) (q : PortRow) → slice_get rows.ports k ≡ Some q → is_port_of r q ≡ true → is_interface q.owner ≡ true
  is_leg k q at_q leg =
      let none = none-any (is_gateway_of r.id) rows.ports (none-counted (is_gateway_of r.id) rows.ports (c.services.of_routers.counts place r at ∙ ap wanted_gateways bare)) in
      first (is_interface q.owner) (is_gateway q.owner) (device_is q.device r.id) leg (none k q at_q)
    where
      first : (a b d : Bool) → (a || b) && d ≡ true → b && d ≡ false → a ≡ true
      first true b d h g = refl
      first false b d h g = false_true _ (sym g ∙ h)

  -- the subnets of the network overlap none of an interface, so those of the port overlap none of another port of the router
  apart_by : list_any (λ (s : SubnetRow). list_any (touches rows.subnets s.prefix) (interfaces_of rows.ports r)) (subnets_on rows.subnets n.id) ≡ false
      → Each (λ s. holds_in s.id outer && list_any (touches rows.subnets s.prefix) (router_ports rows.ports r) ≡ false) rows.subnets
  apart_by clear k s at_s = by_test (holds_in s.id outer) (holds_in s.id outer && list_any (touches rows.subnets s.prefix) (router_ports rows.ports r) ≡ false)
      (λ holds.
      let held = any-at (λ (f : Fixed). ident_eq s.id f.subnet) fixed holds in
      let f : Fixed = held.1 in
      let is = chosen.each held.0 f held.2 in
      let same : s.id ≡ is.subnet.id = ident_same s.id f.subnet held.3 ∙ is.names in
      let it : is.subnet ≡ s = one_row (λ u. ident_eq s.id u.id) rows.subnets (omega (arith, c.numbered.ids s.id)) is.place k is.subnet s is.at at_s (subst (λ j. ident_eq s.id j ≡ true) same (ident_itself s.id)) (ident_itself s.id) in
      let on : ident_eq n.id s.network ≡ true = ap (λ (u : SubnetRow). ident_eq n.id u.network) (sym it) ∙ is.on in
      last (holds_in s.id outer) _ (untouched s k at_s on))
      (λ other. first_fails (holds_in s.id outer) _ other)
    where
      last : (a b : Bool) → b ≡ false → a && b ≡ false
      last true b h = h
      last false b h = refl

      untouched : (s : SubnetRow) (k : ℕ) → slice_get rows.subnets k ≡ Some s → ident_eq n.id s.network ≡ true → list_any (touches rows.subnets s.prefix) (router_ports rows.ports r) ≡ false
      untouched s k at_s on = any-none (touches rows.subnets s.prefix) (router_ports rows.ports r) (λ l q at_q.
          let here = at_filter (is_port_of r) rows.ports l q at_q in
          by_test (touches rows.subnets s.prefix q) (touches rows.subnets s.prefix q ≡ false)
          (λ touched.
          let leg : list_any (touches rows.subnets s.prefix) (interfaces_of rows.ports r) ≡ true =
          filter-any (λ (p : PortRow). is_interface p.owner && is_port_of r p) (touches rows.subnets s.prefix) rows.ports here.0 q here.1
          (both_and (is_interface q.owner) (is_port_of r q) (is_leg here.0 q here.1 here.2) here.2) touched in
          false_true _ (sym clear ∙ filter-any (λ (t : SubnetRow). ident_eq n.id t.network) (λ (t : SubnetRow). list_any (touches rows.subnets t.prefix) (interfaces_of rows.ports r)) rows.subnets k s at_s on leg))
          (λ other. other))

  pub gateway_made_kept : (snat : Bool) → times_in rows i ≡ 0 → is_drawn rows.projects i ≡ true → is_unicast mac ≡ true → is_mac_held rows.ports n.id mac ≡ false → is_external_to rows.policies n.id r.project ≡ true
      → list_any (λ (s : SubnetRow). list_any (touches rows.subnets s.prefix) (interfaces_of rows.ports r)) (subnets_on rows.subnets n.id) ≡ false → IsConsistent (with_gateway_on rows place r outer snat)
  gateway_made_kept snat fresh drawn unicast alone external clear =
      gateway_on rows place r outer snat at (record {
        bare = bare;
        service = service_made rows c settings n i [] mac fixed gateway_owner (ident_text r.id) (host_or_none r.host) false at_network network_there fresh drawn unicast alone chosen.few
            (λ k f at_f. (chosen.each k f at_f).free) chosen.differ (chosen_named rows.subnets (is_address_held rows.ports n.id) fixed outer chosen.each) (chosen_hosts rows.subnets (is_address_held rows.ports n.id) fixed outer chosen.each);
        at_router = record { device = refl; host = on_host settings n.segment r.host; apart = legs_apart rows.subnets rows.ports r outer (apart_by clear) };
        owner = gateway_is;
        nobody = refl;
        some_address = chosen.some;
        external = external;
      }) c

-- a router that is changed, which keeps its gateway or loses it

agreed_lost : (a b : Option Gateway) → gateways_agree a b ≡ true → lost_gateway a b ≡ None
agreed_lost None None h = refl
agreed_lost (Some g) (Some k) h = refl
agreed_lost None (Some k) h = false_true _ h
agreed_lost (Some g) None h = false_true _ h

-- it stays on its network, or there is none
kept_is : (old : Option Gateway) (asked : Given GatewayAsked) (P : Type 0) → (gateways_agree old (kept_gateway old asked) ≡ true → P) → ((g : Gateway) → old ≡ Some g → kept_gateway old asked ≡ None → P) → P
kept_is None Absent P same lost = same refl
kept_is (Some g) Absent P same lost = same (gateway_itself (Some g))
kept_is None Null P same lost = same refl
kept_is (Some g) Null P same lost = lost g refl refl
kept_is None (Is a) P same lost = same refl
kept_is (Some g) (Is a) P same lost = by (ident_eq g.network a.network) refl
  where
    by : (b : Bool) → ident_eq g.network a.network ≡ b → P
    by true is = same (ap (gateways_agree (Some g)) (ap (λ b. if b then Some (record g { snat = unwrap_or a.snat g.snat }) else None) is) ∙ gateway_itself (Some g))
    by false is = lost g refl (ap (λ b. if b then Some (record g { snat = unwrap_or a.snat g.snat }) else None) is)

-- the rows with a router that is changed, and without the port of a gateway that goes
abbrev pub with_change : RowLists → ℕ → Option Gateway → RouterRow → RowLists
with_change rows place lost new = record rows { ports = ports_without lost rows.ports; routers = slice_set rows.routers place new }

change_made : (rows : RowLists) (lost : Option Gateway) (new : RouterRow) (edits : List Edit)
    → made rows (Put (Router new) ∷ gateway_gone lost ++ edits) ≡ made (record rows { ports = ports_without lost rows.ports; routers = put_in (λ r. r.id) new rows.routers }) edits
change_made rows None new edits = refl
change_made rows (Some g) new edits = refl

pub change_is : (rows : RowLists) (c : IsConsistent rows) (place : ℕ) (old new : RouterRow) → slice_get rows.routers place ≡ Some old → new.id ≡ old.id → (lost : Option Gateway) (edits : List Edit)
    → made rows (Put (Router new) ∷ gateway_gone lost ++ edits) ≡ made (with_change rows place lost new) edits
change_is rows c place old new at same lost edits =
    change_made rows lost new edits ∙ ap (λ routers. made (record rows { ports = ports_without lost rows.ports; routers = routers }) edits) (router_put rows c place old new at same)

-- its routes are few and lead somewhere, also without the gateway that goes, by which no floating address leads
pub record IsChangeable (rows : RowLists) (old : RouterRow) (routes : List Hop) (lost : Option Gateway) : Type 0 where
  pub few : nat_le (length routes) 30 ≡ true
  pub reached : list_all (is_reached rows.subnets rows.ports old) routes ≡ true
  pub unled : (g : Gateway) → lost ≡ Some g → list_any (λ f. is_some_so (λ (t : Target). ident_eq old.id t.router) f.target) rows.floatings ≡ false
  pub others : (g : Gateway) → lost ≡ Some g → list_all (is_reached rows.subnets (other_ports g.port rows.ports) old) routes ≡ true

module _ (rows : RowLists) (c : IsConsistent rows) (place : ℕ) (old : RouterRow) (at : slice_get rows.routers place ≡ Some old) (name description : List ℕ) (up : Bool) (asked : Given GatewayAsked) (routes : List Hop) where
  abbrev pub changed : RouterRow
  changed = record old { name = name; description = description; up = up; gateway = kept_gateway old.gateway asked; routes = routes }

  pub change_kept : IsChangeable rows old routes (lost_gateway old.gateway (kept_gateway old.gateway asked)) → IsConsistent (with_change rows place (lost_gateway old.gateway (kept_gateway old.gateway asked)) changed)
  change_kept is = kept_is old.gateway asked (IsConsistent (with_change rows place (lost_gateway old.gateway (kept_gateway old.gateway asked)) changed))
      (λ same. subst (λ lost. IsConsistent (with_change rows place lost changed)) (sym (agreed_lost old.gateway (kept_gateway old.gateway asked) same))
      (router_replaced rows place old changed at (record { id = refl; project = refl; host = refl }) (record { gateway = same; few = is.few; reached = is.reached }) c))
      (λ g had none. off g had none)
    where
      off : (g : Gateway) → old.gateway ≡ Some g → kept_gateway old.gateway asked ≡ None → IsConsistent (with_change rows place (lost_gateway old.gateway (kept_gateway old.gateway asked)) changed)
      off g had none =
          let lost : lost_gateway old.gateway (kept_gateway old.gateway asked) ≡ Some g = (λ j. lost_gateway (had j) (none j)) in
          let still : RouterRow = record old { name = name; description = description; up = up; routes = routes } in
          let first : IsConsistent (with_router_at rows place still) =
          router_replaced rows place old still at (record { id = refl; project = refl; host = refl }) (record { gateway = gateway_itself old.gateway; few = is.few; reached = is.reached }) c in
          let there = set_there rows.routers place old still at in
          let second : IsConsistent (with_gateway_off (with_router_at rows place still) place still g) =
          gateway_off (with_router_at rows place still) place still g there (record { gateway = had; unled = is.unled g lost; reached = is.others g lost }) first in
          subst (λ o. IsConsistent (with_change rows place o changed)) (sym lost)
          (subst (λ o. IsConsistent (record rows { ports = other_ports g.port rows.ports; routers = slice_set rows.routers place (record still { gateway = o }) })) (sym none)
          (subst (λ routers. IsConsistent (record rows { ports = other_ports g.port rows.ports; routers = routers })) (set_twice rows.routers place still (unled still)) second))
