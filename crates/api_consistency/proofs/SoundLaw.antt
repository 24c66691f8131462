-- Rows that pass all tests are consistent, so no clause is broken.
use Rattle.std.proofs.Common.{◌≡◌, List, true, None}
use Rattle.std.specs.Prelude.{◌&&◌}
use Rattle.std.specs.List.{list_all}
use Rattle.api_types.specs.RowLists.{RowLists}
use Rattle.api_types.specs.Consistent.{IsConsistent}
use Rattle.api_types.specs.Consistent.Hosts.{is_host_in}
use Rattle.api_types.specs.Consistent.Access.{may_be_there}
use Rattle.api_types.specs.Consistent.NextHops.{is_reached}
use Rattle.api_types.proofs.ListLemmas.{and_both}
use Rattle.api_types.proofs.NameLemmas.{all-at}
use Rattle.net_settings.specs.declared.settings.Host.{Host}
use Rattle.api_ml2.specs.Carrying.{carries}
use Rattle.api_check.specs.FirstBroken.{first_broken_of}
use Rattle.api_check.proofs.ConsistentLaw.{consistent_none}
use Rattle.api_consistency.specs.Keys.{are_rows_sound, names_stand, are_in_form, is_placed, serves_router, has_gateway}
use Rattle.api_consistency.specs.Parts.{AreApart, AreServed}
use Rattle.api_consistency.proofs.SoundLemmas.{names_sound, forms_sound}
use Rattle.api_consistency.proofs.RouterLemmas.{on_hosts, carried, router_ports}

pub none_broken : (hosts : List Host) (rows : RowLists) → are_rows_sound (carries hosts) rows ≡ true → AreApart rows → AreServed rows → first_broken_of hosts rows ≡ None
none_broken hosts rows h apart served =
    let a = and_both (names_stand rows) _ h in
    let b = and_both (are_in_form rows) _ a.1 in
    let c = and_both (list_all (λ p. list_all (is_host_in rows.subnets p) p.fixed) rows.ports) _ b.1 in
    let d = and_both (list_all (is_placed (carries hosts) rows) rows.ports) _ c.1 in
    let e = and_both (list_all (serves_router rows.routers) rows.ports && list_all (has_gateway rows.ports) rows.routers) _ d.1 in
    let f = and_both (list_all (serves_router rows.routers) rows.ports) (list_all (has_gateway rows.ports) rows.routers) e.0 in
    let g = and_both (list_all (may_be_there rows.networks rows.policies) rows.ports) _ e.1 in
    let consistent : IsConsistent rows = record {
      numbered = apart.numbered;
      named = names_sound rows a.0;
      in_form = forms_sound rows b.0;
      held_once = apart.held;
      hosts = record { addresses = all-at (λ p. list_all (is_host_in rows.subnets p) p.fixed) rows.ports c.0 };
      disjoint = apart.disjoint;
      segments = apart.segments;
      on_hosts = on_hosts rows apart.numbered (carries hosts) d.0;
      services = record {
        dhcp = served.dhcp;
        of_routers = router_ports rows apart.numbered f.0 f.1;
        of_floatings = served.own_ports;
      };
      floatings = served.floatings;
      groups = served.groups;
      allowed = record { of_ports = all-at (may_be_there rows.networks rows.policies) rows.ports g.0 };
      outsides = served.outsides;
      routes = record { routes = all-at (λ r. list_all (is_reached rows.subnets rows.ports r) r.routes) rows.routers g.1 };
    } in
    consistent_none rows hosts consistent (carried rows (carries hosts) d.0)
