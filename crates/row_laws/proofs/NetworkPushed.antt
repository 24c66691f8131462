-- One more network keeps each clause that reads networks, and rows consistent.
use Rattle.std.proofs.Common.{◌≡◌, ℕ, List, [], ◌∷◌, ◌++◌, Bool, true, false, cond, length, ap, sym, ◌∙◌, arith, length-append, ◌<◌}
use Rattle.std.specs.Prelude.{◌&&◌, not, count_by}
use Rattle.std.specs.Str.{bytes_eq}
use Rattle.api_types.specs.Ident.{Ident}
use Rattle.api_types.specs.Table.{ident_eq}
use Rattle.api_types.specs.RowLists.{RowLists}
use Rattle.api_types.specs.Lists.{is_empty}
use Rattle.api_types.specs.Owners.{is_dhcp, is_dhcp_of}
use Rattle.api_types.specs.Sharing.{is_shared_with}
use Rattle.api_types.specs.Consistent.{IsConsistent}
use Rattle.api_types.specs.Consistent.Numbered.{times_in, is_drawn, AreDrawn}
use Rattle.api_types.specs.Consistent.Named.{is_network, is_registered, NetworksStand, ProjectsStand}
use Rattle.api_types.specs.Consistent.InForm.{is_segment, is_network_of, AreInForm}
use Rattle.api_types.specs.Consistent.Segments.{same_segment, most_networks, SegmentsDiffer}
use Rattle.api_types.specs.Consistent.Carried.{is_bound, AreCarried}
use Rattle.api_types.specs.Consistent.Services.{wants_dhcp, DhcpPortsServe}
use Rattle.api_types.specs.Consistent.Access.{PortsAreAllowed}
use Rattle.api_types.specs.declared.network.NetworkRow.{NetworkRow}
use Rattle.api_types.specs.declared.network.Segment.{Segment}
use Rattle.api_types.specs.declared.subnet.SubnetRow.{SubnetRow}
use Rattle.api_types.specs.declared.port.PortRow.{PortRow}
use Rattle.api_types.specs.declared.group.GroupRow.{GroupRow}
use Rattle.api_types.specs.declared.group.RuleRow.{RuleRow}
use Rattle.api_types.specs.declared.router.RouterRow.{RouterRow}
use Rattle.api_types.specs.declared.router.Gateway.{Gateway}
use Rattle.api_types.specs.declared.floating.FloatingRow.{FloatingRow}
use Rattle.api_types.specs.declared.policy.PolicyRow.{PolicyRow}
use Rattle.row_laws.specs.NewRows.{with_network, IsAlone, IsNewNetwork}
use Rattle.api_types.proofs.ListLemmas.{each-push, any-grows, any-none, count-none, none-counted, once-push}
use Rattle.api_types.proofs.NameLemmas.{or_weaker, if_some-weaker, unnamed}
use Rattle.api_types.proofs.IdLemmas.{ids-push}
use Rattle.row_laws.proofs.TimesLemmas.{times-network}

module _ (networks : List NetworkRow) (n : NetworkRow) where
  still : (i : Ident) → is_network networks i ≡ true → is_network (networks ++ n ∷ []) i ≡ true
  still i h = any-grows (λ m. ident_eq i m.id) networks n h

  still_of : (project : List ℕ) (i : Ident) → is_network_of networks project i ≡ true → is_network_of (networks ++ n ∷ []) project i ≡ true
  still_of project i h = any-grows (λ m. ident_eq i m.id && bytes_eq m.project project) networks n h

  pub networks_stand : {subnets : List SubnetRow} {ports : List PortRow} {routers : List RouterRow} {floatings : List FloatingRow} {policies : List PolicyRow}
      → NetworksStand networks subnets ports routers floatings policies → NetworksStand (networks ++ n ∷ []) subnets ports routers floatings policies
  networks_stand c = record {
    of_subnets = λ k s at. still s.network (c.of_subnets k s at);
    of_ports = λ k p at. still p.network (c.of_ports k p at);
    of_gateways = λ k r at. if_some-weaker _ _ r.gateway (λ (g : Gateway) h. still g.network h) (c.of_gateways k r at);
    of_floatings = λ k f at. still f.network (c.of_floatings k f at);
    of_policies = λ k p at. still p.object (c.of_policies k p at);
  }

  pub in_form : {subnets : List SubnetRow} {ports : List PortRow} {groups : List GroupRow} {rules : List RuleRow} {routers : List RouterRow}
      → is_segment n.segment ≡ true → AreInForm networks subnets ports groups rules routers → AreInForm (networks ++ n ∷ []) subnets ports groups rules routers
  in_form segment c = record {
    segments = each-push (λ m. is_segment m.segment ≡ true) networks n c.segments segment;
    subnet_owners = λ k s at. still_of s.project s.network (c.subnet_owners k s at);
    subnet_forms = c.subnet_forms;
    dhcp_owners = λ k p at. or_weaker (not (is_dhcp p.owner)) _ _ (still_of p.project p.network) (c.dhcp_owners k p at);
    port_forms = c.port_forms;
    rule_owners = c.rule_owners;
    routes = c.routes;
  }

  pub segments_differ : IsAlone networks n.segment → length networks < most_networks → SegmentsDiffer networks → SegmentsDiffer (networks ++ n ∷ [])
  segments_differ alone few c = record {
    apart = λ segment. once-push (λ m. same_segment segment m.segment) networks n (c.apart segment) (alone segment);
    few = omega (arith, few, length-append networks (n ∷ []));
  }

  -- what the settings let the hosts carry
  pub are_carried : (carries : List ℕ → Segment → Bool) {ports : List PortRow} → AreCarried carries networks ports → AreCarried carries (networks ++ n ∷ []) ports
  are_carried carries c = record {
    at_host = λ k p at. or_weaker (not (is_bound p.vif)) _ _ (any-grows (λ m. ident_eq p.network m.id && carries p.host m.segment) networks n) (c.at_host k p at);
  }

  -- a network that no subnet and no port names has no DHCP port, and wants none
  pub dhcp_ports_serve : {subnets : List SubnetRow} {ports : List PortRow} {routers : List RouterRow} {floatings : List FloatingRow} {policies : List PolicyRow}
      → is_network networks n.id ≡ false → NetworksStand networks subnets ports routers floatings policies
      → DhcpPortsServe networks subnets ports → DhcpPortsServe (networks ++ n ∷ []) subnets ports
  dhcp_ports_serve {subnets} {ports} new names c = record {
    there = each-push (λ m. count_by (is_dhcp_of m.id) ports ≡ cond (wants_dhcp subnets m.id) 1 0) networks n c.there
        (count-none (is_dhcp_of n.id) ports (λ k p at. ap (λ b. b && is_dhcp p.owner) (unnamed (λ m. m.id) n.id networks (λ p. p.network) ports new names.of_ports k p at))
        ∙ ap (λ b. cond b 1 0) (sym (any-none (λ s. ident_eq n.id s.network && s.dhcp) subnets
        (λ k s at. ap (λ b. b && s.dhcp) (unnamed (λ m. m.id) n.id networks (λ s. s.network) subnets new names.of_subnets k s at)))));
    holds = c.holds;
    no_other = c.no_other;
    unsecured = c.unsecured;
  }

  pub ports_are_allowed : {ports : List PortRow} {policies : List PolicyRow} → PortsAreAllowed networks ports policies → PortsAreAllowed (networks ++ n ∷ []) ports policies
  ports_are_allowed {ports} {policies} c = record {
    of_ports = λ k p at. or_weaker (is_empty p.project) _ _ (or_weaker p.by_admin _ _ (or_weaker (is_shared_with policies p.network p.project) _ _
        (still_of p.project p.network))) (c.of_ports k p at);
  }

module _ (rows : RowLists) (n : NetworkRow) where
  pub are_drawn : is_drawn rows.projects n.id ≡ true → AreDrawn rows → AreDrawn (with_network rows n)
  are_drawn drawn c = record {
    networks = each-push (λ r. is_drawn rows.projects r.id ≡ true) rows.networks n c.networks drawn;
    subnets = c.subnets;
    ports = c.ports;
    groups = c.groups;
    rules = c.rules;
    routers = c.routers;
    floatings = c.floatings;
    policies = c.policies;
  }

  pub projects_stand : is_registered rows.projects n.project ≡ true → ProjectsStand rows → ProjectsStand (with_network rows n)
  projects_stand project c = record {
    of_networks = each-push (λ r. is_registered rows.projects r.project ≡ true) rows.networks n c.of_networks project;
    of_subnets = c.of_subnets;
    of_ports = c.of_ports;
    of_groups = c.of_groups;
    of_rules = c.of_rules;
    of_routers = c.of_routers;
    of_floatings = c.of_floatings;
    of_policies = c.of_policies;
  }

  -- no network has the id yet
  pub unknown : times_in rows n.id ≡ 0 → is_network rows.networks n.id ≡ false
  unknown fresh = none-counted (λ m. ident_eq n.id m.id) rows.networks (omega (arith, fresh))

  pub network_pushed : IsNewNetwork rows n → IsConsistent rows → IsConsistent (with_network rows n)
  network_pushed new c = record {
    numbered = record {
      projects = c.numbered.projects;
      ids = ids-push rows (with_network rows n) n.id (λ i. times-network rows i n) new.fresh c.numbered.ids;
      drawn = are_drawn new.drawn c.numbered.drawn;
    };
    named = record {
      networks = networks_stand rows.networks n c.named.networks;
      subnets = c.named.subnets;
      ports = c.named.ports;
      groups = c.named.groups;
      routers = c.named.routers;
      projects = projects_stand new.project c.named.projects;
    };
    in_form = in_form rows.networks n new.segment c.in_form;
    held_once = c.held_once;
    hosts = c.hosts;
    disjoint = c.disjoint;
    segments = segments_differ rows.networks n new.alone new.few c.segments;
    on_hosts = c.on_hosts;
    services = record {
      dhcp = dhcp_ports_serve rows.networks n (unknown new.fresh) c.named.networks c.services.dhcp;
      of_routers = c.services.of_routers;
      of_floatings = c.services.of_floatings;
    };
    floatings = c.floatings;
    groups = c.groups;
    allowed = ports_are_allowed rows.networks n c.allowed;
    outsides = c.outsides;
    routes = c.routes;
  }
