-- A floating address that goes with the port that holds it keeps rows consistent.
use Rattle.std.proofs.Common.{◌≡◌, ◌∙◌, ℕ, List, Bool, true, false, cond, Some, slice_get, ap, sym, subst, arith}
use Rattle.std.specs.Prelude.{◌&&◌, ◌||◌, not, filter}
use Rattle.std.specs.List.{list_any}
use Rattle.api_types.specs.Ident.{Ident}
use Rattle.api_types.specs.Table.{ident_eq}
use Rattle.api_types.specs.RowLists.{RowLists}
use Rattle.api_types.specs.Lists.{Each, if_some, is_some_so, is_empty}
use Rattle.api_types.specs.Owners.{is_interface, is_gateway, is_dhcp, is_floating, is_router_port}
use Rattle.api_types.specs.Consistent.{IsConsistent}
use Rattle.api_types.specs.Consistent.Named.{is_port, is_registered, is_own_port, PortsStand}
use Rattle.api_types.specs.Consistent.Carried.{is_unbound}
use Rattle.api_types.specs.Consistent.Services.{holds_just, is_gateway_of, is_named_gateway, is_port_for}
use Rattle.api_types.specs.declared.port.PortRow.{PortRow}
use Rattle.api_types.specs.declared.router.Gateway.{Gateway}
use Rattle.api_types.specs.declared.floating.FloatingRow.{FloatingRow}
use Rattle.api_types.specs.declared.floating.Target.{Target}
use Rattle.api_types.specs.RouterWays.{other_ports}
use Rattle.row_laws.specs.Gone.{with_ports_kept}
use Rattle.row_laws.specs.OwnPorts.{other_floatings, without_floating}
use Rattle.api_types.proofs.ListLemmas.{and_both, any-at, any-none, any-weaker, at-any, at_filter, false_true, none-any, one_row, or_true}
use Rattle.api_types.proofs.NameLemmas.{by_test, first_fails, ident_itself, ident_same, ident_sym, if_some-weaker, if_some-weaker_at, not_false, not_true}
use Rattle.row_laws.proofs.PortLeaves.{any_same, each_gone, no_target, none_is_some_so, other_way}
use Rattle.row_laws.proofs.Service.ServiceLemmas.{floating_alone, no_router_port}
use Rattle.row_laws.proofs.FloatingsGone as floating
use Rattle.row_laws.proofs.PortsGone as gone

-- a fact on each row that is kept
pub each-kept : {R : Type 0} (keep : R → Bool) (P : R → Type 0) (xs : List R) → Each (λ x. keep x ≡ true → P x) xs → Each P (filter keep xs)
each-kept keep P xs all k y at = let r = at_filter keep xs k y at in all r.0 y r.1 r.2

module _ (rows : RowLists) (c : IsConsistent rows) (place : ℕ) (f : FloatingRow) (at : slice_get rows.floatings place ≡ Some f) (k : ℕ) (p : PortRow) (at_p : slice_get rows.ports k ≡ Some p) (own : f.own_port ≡ p.id) (serves_it : is_port_for f p ≡ true) where
  abbrev left : PortRow → Bool
  left q = not (ident_eq p.id q.id)

  abbrev keep : FloatingRow → Bool
  keep g = not (ident_eq f.id g.id)

  abbrev ports : List PortRow
  ports = filter left rows.ports

  abbrev floatings : List FloatingRow
  floatings = filter keep rows.floatings

  owner : is_floating p.owner ≡ true
  owner =
      let bound = and_both (ident_eq f.network p.network && is_floating p.owner && holds_just f.address p.fixed) (is_unbound p.vif) serves_it in
      let holds = and_both (ident_eq f.network p.network && is_floating p.owner) (holds_just f.address p.fixed) bound.0 in
      (and_both (ident_eq f.network p.network) (is_floating p.owner) holds.0).1

  no_router : is_router_port p.owner ≡ false
  no_router = no_router_port p.owner (floating_alone p.owner owner).0 (floating_alone p.owner owner).1

  owned : is_own_port rows.floatings p.id ≡ true
  owned = at-any (λ g. ident_eq p.id g.own_port) rows.floatings place f at (ap (ident_eq p.id) own ∙ ident_itself p.id)

  nobody : is_empty p.project ≡ true
  nobody = sym ((λ j. cond (is_gateway p.owner || owned j) (is_empty p.project) (is_registered rows.projects p.project))
      ∙ (λ j. cond (or_true (is_gateway p.owner) j) (is_empty p.project) (is_registered rows.projects p.project))) ∙ c.named.projects.of_ports k p at_p

  untargeted : list_any (λ g. is_some_so (λ (t : Target). ident_eq p.id t.port) g.target) rows.floatings ≡ false
  untargeted = no_target rows c k p at_p nobody

  -- the port is no other floating address's own
  other_own : Each (λ g. keep g ≡ true → ident_eq p.id g.own_port ≡ false) rows.floatings
  other_own l g at_g kept = by_test (ident_eq p.id g.own_port) (ident_eq p.id g.own_port ≡ false)
      (λ same.
      let it : g ≡ f = one_row (λ e. ident_eq p.id e.own_port) rows.floatings (c.services.of_floatings.once p.id) l place g f at_g at same (ap (ident_eq p.id) own ∙ ident_itself p.id) in
      false_true _ (sym (not_true (ident_eq f.id g.id) kept) ∙ (ap (λ e. ident_eq f.id e.id) it ∙ ident_itself f.id)))
      (λ fails. fails)

  unowned : is_own_port floatings p.id ≡ false
  unowned = any-none (λ g. ident_eq p.id g.own_port) floatings (each-kept keep (λ g. ident_eq p.id g.own_port ≡ false) rows.floatings other_own)

  ports_stand : PortsStand ports rows.routers floatings
  ports_stand = record {
    of_gateways = λ l q at_q. if_some-weaker (λ (g : Gateway). list_any (is_named_gateway q g) rows.ports) (λ (g : Gateway). is_port ports g.port) q.gateway
        (λ (g : Gateway) h. any-weaker (is_named_gateway q g) (λ s. ident_eq g.port s.id) ports
        (λ s e. (and_both (ident_eq g.network s.network) (ident_eq g.port s.id) (and_both (is_gateway_of q.id s) _ e).1).1)
        (any_same rows c k p at_p (is_named_gateway q g) (first_fails (is_gateway_of q.id p) _ (first_fails (is_gateway p.owner) _ (floating_alone p.owner owner).1)) ∙ h))
        (c.services.of_routers.named l q at_q);
    of_floatings = each-kept keep (λ g. is_port ports g.own_port ≡ true) rows.floatings
        (λ l g at_g kept. any_same rows c k p at_p (λ q. ident_eq g.own_port q.id) (other_way p.id g.own_port (other_own l g at_g kept)) ∙ c.named.ports.of_floatings l g at_g);
    of_targets = each-kept keep (λ g. if_some (λ (t : Target). is_port ports t.port) g.target ≡ true) rows.floatings
        (λ l g at_g kept. if_some-weaker_at (λ (t : Target). is_port rows.ports t.port) (λ (t : Target). is_port ports t.port) g.target
        (λ (t : Target) told h. any_same rows c k p at_p (λ q. ident_eq t.port q.id) (other_way p.id t.port (none_is_some_so (λ (u : Target). ident_eq p.id u.port) g.target t told
        (none-any (λ e. is_some_so (λ (u : Target). ident_eq p.id u.port) e.target) rows.floatings untargeted l g at_g))) ∙ h) (c.named.ports.of_targets l g at_g));
  }

  both_gone : IsConsistent (record rows { ports = ports; floatings = floatings })
  both_gone =
      let alone = floating_alone p.owner owner in
      record {
        numbered = record {
          projects = c.numbered.projects;
          ids = floating.ids_differ keep (with_ports_kept left rows) (gone.ids_differ left rows c.numbered.ids);
          drawn = floating.are_drawn keep (with_ports_kept left rows) (gone.are_drawn left rows c.numbered.drawn);
        };
        named = record {
          networks = floating.networks_stand keep rows.floatings (gone.networks_stand left rows.ports c.named.networks);
          subnets = gone.subnets_stand left rows.ports c.named.subnets;
          ports = ports_stand;
          groups = gone.groups_stand left rows.ports c.named.groups;
          routers = floating.routers_stand keep rows.floatings c.named.routers;
          projects = floating.projects_stand keep (with_ports_kept left rows)
              (λ l g at_g goes. each-kept left (λ q. ident_eq q.id g.own_port ≡ false) rows.ports (λ m q at_q kept. not_own l g at_g goes q kept))
              (gone.projects_stand left rows c.named.projects);
        };
        in_form = gone.in_form left rows.ports c.in_form;
        held_once = gone.are_held_once left rows.ports c.held_once;
        hosts = gone.are_hosts left rows.ports c.hosts;
        disjoint = gone.are_disjoint left rows.ports c.disjoint;
        segments = c.segments;
        on_hosts = gone.are_on_hosts left rows.ports c.on_hosts;
        services = record {
          dhcp = gone.dhcp_ports_serve left rows.ports (each_gone rows c k p at_p (λ q. is_dhcp q.owner ≡ false) alone.2) c.services.dhcp;
          of_routers = gone.router_ports_serve left rows.ports (each_gone rows c k p at_p (λ q. is_gateway q.owner ≡ false) alone.1) c.services.of_routers;
          of_floatings = gone.own_ports_serve left rows.ports (each_gone rows c k p at_p (λ q. is_own_port floatings q.id ≡ false) unowned) (floating.own_ports_serve keep rows.floatings c.services.of_floatings);
        };
        floatings = floating.floatings_lead keep rows.floatings (gone.floatings_lead left rows.ports (each_gone rows c k p at_p (λ q. is_interface q.owner ≡ false) alone.0)
            (each_gone rows c k p at_p (λ q. list_any (λ g. is_some_so (λ (t : Target). ident_eq q.id t.port) g.target) rows.floatings ≡ false) untargeted) c.floatings);
        groups = gone.groups_serve left rows.ports c.groups;
        allowed = gone.ports_are_allowed left rows.ports c.allowed;
        outsides = floating.outsides_are_allowed keep rows.floatings c.outsides;
        routes = gone.routes_lead left rows.ports (each_gone rows c k p at_p (λ q. is_router_port q.owner ≡ false) no_router) c.routes;
      }
    where
      -- a port that stays isn't the own port of the floating address that goes
      not_own : (l : ℕ) (g : FloatingRow) → slice_get rows.floatings l ≡ Some g → keep g ≡ false → (q : PortRow) → left q ≡ true → ident_eq q.id g.own_port ≡ false
      not_own l g at_g goes q kept =
          let it : g ≡ f = one_row (λ e. ident_eq f.id e.id) rows.floatings (omega (arith, c.numbered.ids f.id)) l place g f at_g at (not_false (ident_eq f.id g.id) goes) (ident_itself f.id) in
          let same : g.own_port ≡ p.id = ap (λ e. e.own_port) it ∙ own in
          ap (ident_eq q.id) same ∙ other_way p.id q.id (not_true (ident_eq p.id q.id) kept)

pub floating_off : (rows : RowLists) (place : ℕ) (f : FloatingRow) → slice_get rows.floatings place ≡ Some f → IsConsistent rows → IsConsistent (without_floating rows f)
floating_off rows place f at c =
    let found = any-at (λ q. ident_eq f.own_port q.id && is_port_for f q) rows.ports (c.services.of_floatings.there place f at) in
    let p : PortRow = found.1 in
    let both = and_both (ident_eq f.own_port p.id) (is_port_for f p) found.3 in
    let same : f.own_port ≡ p.id = ident_same f.own_port p.id both.0 in
    subst (λ i. IsConsistent (record rows { ports = other_ports i rows.ports; floatings = other_floatings f.id rows.floatings })) (sym same) (both_gone rows c place f at found.0 p found.2 same both.1)
