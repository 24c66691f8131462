-- A network that is replaced by one of the same id, project and segment keeps each clause that reads networks, and rows consistent.
use Rattle.std.proofs.Common.{◌≡◌, ◌∙◌, ℕ, List, Bool, true, cond, Some, slice_get, slice_set, ap, sym, arith, subst}
use Rattle.std.specs.Prelude.{◌&&◌, not, count_by}
use Rattle.std.specs.List.{list_any}
use Rattle.std.specs.Str.{bytes_eq}
use Rattle.std.proofs.Math.ListN.{length-set}
use Rattle.api_types.specs.Ident.{Ident}
use Rattle.api_types.specs.Table.{ident_eq}
use Rattle.api_types.specs.RowLists.{RowLists}
use Rattle.api_types.specs.Lists.{is_empty}
use Rattle.api_types.specs.Owners.{is_dhcp, is_dhcp_of}
use Rattle.api_types.specs.Sharing.{is_shared_with}
use Rattle.api_types.specs.Consistent.{IsConsistent}
use Rattle.api_types.specs.Consistent.Numbered.{is_drawn, AreDrawn}
use Rattle.api_types.specs.Consistent.Named.{is_network, is_registered, NetworksStand, ProjectsStand}
use Rattle.api_types.specs.Consistent.InForm.{is_segment, is_network_of, AreInForm}
use Rattle.api_types.specs.Consistent.Segments.{same_segment, SegmentsDiffer}
use Rattle.api_types.specs.Consistent.Carried.{is_bound, AreCarried}
use Rattle.api_types.specs.Consistent.Services.{wants_dhcp, DhcpPortsServe}
use Rattle.api_types.specs.Consistent.Access.{PortsAreAllowed}
use Rattle.api_types.specs.declared.network.NetworkRow.{NetworkRow}
use Rattle.api_types.specs.declared.network.Segment.{Segment}
use Rattle.api_types.specs.declared.subnet.SubnetRow.{SubnetRow}
use Rattle.api_types.specs.declared.port.PortRow.{PortRow}
use Rattle.api_types.specs.declared.group.GroupRow.{GroupRow}
use Rattle.api_types.specs.declared.group.RuleRow.{RuleRow}
use Rattle.api_types.specs.declared.router.RouterRow.{RouterRow}
use Rattle.api_types.specs.declared.router.Gateway.{Gateway}
use Rattle.api_types.specs.declared.floating.FloatingRow.{FloatingRow}
use Rattle.api_types.specs.declared.policy.PolicyRow.{PolicyRow}
use Rattle.row_laws.specs.Replaced.{with_network_at, IsRenamedNetwork}
use Rattle.api_types.proofs.ListLemmas.{each-set, any-set_same}
use Rattle.api_types.proofs.NameLemmas.{or_weaker, if_some-weaker, count-set}

module _ (networks : List NetworkRow) (place : ℕ) (old new : NetworkRow) (at : slice_get networks place ≡ Some old) (same : IsRenamedNetwork old new) where
  -- a test that reads id, project and segment alone is the same on both rows
  put : (test : Ident → List ℕ → Segment → Bool) → list_any (λ m. test m.id m.project m.segment) networks ≡ true
      → list_any (λ m. test m.id m.project m.segment) (slice_set networks place new) ≡ true
  put test h = any-set_same (λ m. test m.id m.project m.segment) networks place old new at (λ j. test (same.id j) (same.project j) (same.segment j)) ∙ h

  still : (i : Ident) → is_network networks i ≡ true → is_network (slice_set networks place new) i ≡ true
  still i = put (λ id project segment. ident_eq i id)

  still_of : (project : List ℕ) (i : Ident) → is_network_of networks project i ≡ true → is_network_of (slice_set networks place new) project i ≡ true
  still_of owner i = put (λ id project segment. ident_eq i id && bytes_eq project owner)

  pub networks_stand : {subnets : List SubnetRow} {ports : List PortRow} {routers : List RouterRow} {floatings : List FloatingRow} {policies : List PolicyRow}
      → NetworksStand networks subnets ports routers floatings policies → NetworksStand (slice_set networks place new) subnets ports routers floatings policies
  networks_stand {subnets} {ports} {routers} {floatings} {policies} c = record {
    of_subnets = λ k s h. still s.network (c.of_subnets k s h);
    of_ports = λ k p h. still p.network (c.of_ports k p h);
    of_gateways = λ k r h. if_some-weaker _ _ r.gateway (λ (g : Gateway). still g.network) (c.of_gateways k r h);
    of_floatings = λ k f h. still f.network (c.of_floatings k f h);
    of_policies = λ k p h. still p.object (c.of_policies k p h);
  }

  pub in_form : {subnets : List SubnetRow} {ports : List PortRow} {groups : List GroupRow} {rules : List RuleRow} {routers : List RouterRow}
      → AreInForm networks subnets ports groups rules routers → AreInForm (slice_set networks place new) subnets ports groups rules routers
  in_form {subnets} {ports} {groups} {rules} {routers} c = record {
    segments = each-set (λ n. is_segment n.segment ≡ true) networks place new c.segments (ap is_segment same.segment ∙ c.segments place old at);
    subnet_owners = λ k s h. still_of s.project s.network (c.subnet_owners k s h);
    subnet_forms = c.subnet_forms;
    dhcp_owners = λ k p h. or_weaker (not (is_dhcp p.owner)) _ _ (still_of p.project p.network) (c.dhcp_owners k p h);
    port_forms = c.port_forms;
    rule_owners = c.rule_owners;
    routes = c.routes;
  }

  pub segments_differ : SegmentsDiffer networks → SegmentsDiffer (slice_set networks place new)
  segments_differ c = record {
    apart = λ segment. let e = count-set (λ m. same_segment segment m.segment) networks place old new at (ap (same_segment segment) same.segment) in omega (arith, e, c.apart segment);
    few = omega (arith, length-set networks place new, c.few);
  }

  -- what the settings let the hosts carry
  pub are_carried : (carries : List ℕ → Segment → Bool) {ports : List PortRow} → AreCarried carries networks ports → AreCarried carries (slice_set networks place new) ports
  are_carried carries c = record {
    at_host = λ k p h. or_weaker (not (is_bound p.vif)) _ _ (put (λ id project segment. ident_eq p.network id && carries p.host segment)) (c.at_host k p h);
  }

  pub dhcp_ports_serve : {subnets : List SubnetRow} {ports : List PortRow}
      → DhcpPortsServe networks subnets ports → DhcpPortsServe (slice_set networks place new) subnets ports
  dhcp_ports_serve {subnets} {ports} c = record {
    there = each-set (λ m. count_by (is_dhcp_of m.id) ports ≡ cond (wants_dhcp subnets m.id) 1 0) networks place new c.there
        (subst (λ i. count_by (is_dhcp_of i) ports ≡ cond (wants_dhcp subnets i) 1 0) (sym same.id) (c.there place old at));
    holds = c.holds;
    no_other = c.no_other;
    unsecured = c.unsecured;
  }

  pub ports_are_allowed : {ports : List PortRow} {policies : List PolicyRow}
      → PortsAreAllowed networks ports policies → PortsAreAllowed (slice_set networks place new) ports policies
  ports_are_allowed {ports} {policies} c = record {
    of_ports = λ k p h. or_weaker (is_empty p.project) _ _ (or_weaker p.by_admin _ _ (or_weaker (is_shared_with policies p.network p.project) _ _ (still_of p.project p.network))) (c.of_ports k p h);
  }

module _ (rows : RowLists) (place : ℕ) (old new : NetworkRow) (at : slice_get rows.networks place ≡ Some old) (same : IsRenamedNetwork old new) where
  pub are_drawn : AreDrawn rows → AreDrawn (with_network_at rows place new)
  are_drawn c = record {
    networks = each-set (λ r. is_drawn rows.projects r.id ≡ true) rows.networks place new c.networks (ap (is_drawn rows.projects) same.id ∙ c.networks place old at);
    subnets = c.subnets;
    ports = c.ports;
    groups = c.groups;
    rules = c.rules;
    routers = c.routers;
    floatings = c.floatings;
    policies = c.policies;
  }

  pub projects_stand : ProjectsStand rows → ProjectsStand (with_network_at rows place new)
  projects_stand c = record {
    of_networks = each-set (λ r. is_registered rows.projects r.project ≡ true) rows.networks place new c.of_networks (ap (is_registered rows.projects) same.project ∙ c.of_networks place old at);
    of_subnets = c.of_subnets;
    of_ports = c.of_ports;
    of_groups = c.of_groups;
    of_rules = c.of_rules;
    of_routers = c.of_routers;
    of_floatings = c.of_floatings;
    of_policies = c.of_policies;
  }

  pub network_replaced : IsConsistent rows → IsConsistent (with_network_at rows place new)
  network_replaced c = record {
    numbered = record {
      projects = c.numbered.projects;
      ids = λ i. let e = count-set (λ m. ident_eq i m.id) rows.networks place old new at (ap (ident_eq i) same.id) in omega (arith, e, c.numbered.ids i);
      drawn = are_drawn c.numbered.drawn;
    };
    named = record {
      networks = networks_stand rows.networks place old new at same c.named.networks;
      subnets = c.named.subnets;
      ports = c.named.ports;
      groups = c.named.groups;
      routers = c.named.routers;
      projects = projects_stand c.named.projects;
    };
    in_form = in_form rows.networks place old new at same c.in_form;
    held_once = c.held_once;
    hosts = c.hosts;
    disjoint = c.disjoint;
    segments = segments_differ rows.networks place old new at same c.segments;
    on_hosts = c.on_hosts;
    services = record {
      dhcp = dhcp_ports_serve rows.networks place old new at same c.services.dhcp;
      of_routers = c.services.of_routers;
      of_floatings = c.services.of_floatings;
    };
    floatings = c.floatings;
    groups = c.groups;
    allowed = ports_are_allowed rows.networks place old new at same c.allowed;
    outsides = c.outsides;
    routes = c.routes;
  }
