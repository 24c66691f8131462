-- A router's new interface keeps rows consistent.
use Rattle.std.proofs.Common.{◌≡◌, ◌∙◌, ℕ, true, cond, Some, slice_get, ap}
use Rattle.std.specs.Prelude.{◌||◌, not}
use Rattle.api_types.specs.RowLists.{RowLists}
use Rattle.api_types.specs.Lists.{is_empty}
use Rattle.api_types.specs.Owners.{is_interface, is_dhcp, is_router_port, device_is, is_port_of}
use Rattle.api_types.specs.Consistent.{IsConsistent}
use Rattle.api_types.specs.Consistent.Named.{is_group, is_registered, is_own_port}
use Rattle.api_types.specs.Consistent.InForm.{is_group_of}
use Rattle.api_types.specs.declared.port.PortRow.{PortRow}
use Rattle.api_types.specs.declared.router.RouterRow.{RouterRow}
use Rattle.row_laws.specs.Interfaces.{IsNewInterface}
use Rattle.row_laws.specs.NewRows.{with_port}
use Rattle.api_types.proofs.ListLemmas.{at-any, both_and, or_true}
use Rattle.api_types.proofs.NameLemmas.{unless}
use Rattle.api_types.proofs.IdLemmas.{ids-push}
use Rattle.row_laws.proofs.TimesLemmas.{times-port}
use Rattle.row_laws.proofs.Service.ServiceLemmas.{bare, by_interface, interface_alone, named, placed, unclashed, unfiltered, ungrouped}
use Rattle.row_laws.proofs.PortPushed as port

pub interface_on : (rows : RowLists) (place : ℕ) (r : RouterRow) (p : PortRow) → slice_get rows.routers place ≡ Some r → IsNewInterface rows r p → IsConsistent rows → IsConsistent (with_port rows p)
interface_on rows place r p at is c =
    let s = is.service in
    let alone = interface_alone p.owner is.owner in
    let own = port.no_own_port rows p s.fresh c.named.ports in
    let mine : is_port_of r p ≡ true = both_and (is_router_port p.owner) (device_is p.device r.id) (by_interface p.owner is.owner) (named rows c place r at p is.at_router) in
    record {
      numbered = record {
        projects = c.numbered.projects;
        ids = ids-push rows (with_port rows p) p.id (λ i. times-port rows i p) s.fresh c.numbered.ids;
        drawn = port.are_drawn rows p s.drawn c.numbered.drawn;
      };
      named = record {
        networks = port.networks_stand rows.ports p s.network c.named.networks;
        subnets = port.subnets_stand rows.ports p s.subnets c.named.subnets;
        ports = port.ports_stand rows.ports p c.named.ports;
        groups = port.groups_stand rows.ports p (ungrouped rows p s (is_group rows.groups)) c.named.groups;
        routers = c.named.routers;
        projects = port.projects_stand rows p ((λ j. cond (alone.0 j || own j) (is_empty p.project) (is_registered rows.projects p.project)) ∙ is.project) c.named.projects;
      };
      in_form = port.in_form rows.ports p (unless (is_dhcp p.owner) _ alone.1) s.form c.in_form;
      held_once = port.are_held_once rows.ports p s.mac s.addresses c.held_once;
      hosts = port.are_hosts rows.ports p s.hosts c.hosts;
      disjoint = port.are_disjoint rows.ports p (unclashed rows c place r at p is.at_router) c.disjoint;
      segments = c.segments;
      on_hosts = port.are_on_hosts rows.ports p (placed rows c place r at p is.at_router) c.on_hosts;
      services = record {
        dhcp = port.dhcp_ports_serve rows.ports p alone.1 c.services.dhcp;
        of_routers = port.router_ports_serve rows.ports p alone.0
            (ap (λ b. not (is_router_port p.owner) || b) (at-any (λ q. is_port_of q p) rows.routers place r at mine) ∙ or_true (not (is_router_port p.owner)))
            (ap (λ b. not (is_interface p.owner) || b) is.one ∙ or_true (not (is_interface p.owner)))
            (unfiltered rows p s (is_router_port p.owner)) c.services.of_routers;
        of_floatings = port.own_ports_serve rows.ports p (unless (is_own_port rows.floatings p.id) _ own) c.services.of_floatings;
      };
      floatings = port.floatings_lead rows.ports p c.floatings;
      groups = port.groups_serve rows.ports p (ungrouped rows p s (is_group_of rows.groups p.project)) (bare rows p s) c.groups;
      allowed = port.ports_are_allowed rows.ports p is.allowed c.allowed;
      outsides = c.outsides;
      routes = port.routes_lead rows.ports p c.routes;
    }
