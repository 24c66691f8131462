use Rattle.old_rows.specs.Migrated.{migrated}
use Rattle.old_rows.proofs.LawNames.{are_numbered, names_stand, ports_are_allowed, outsides_are_allowed}
use Rattle.old_rows.proofs.LawForms.{are_in_form, are_hosts}
use Rattle.old_rows.proofs.LawPorts.{are_held_once, are_disjoint, are_on_hosts, routes_lead, floatings_lead}
use Rattle.old_rows.proofs.LawServices.{services_stand, groups_serve}
use Rattle.old_rows.proofs.laws.migrated_rows_are_consistent.Goals as goal

pub returns : goal.returns
returns c = λ old all. record {
  numbered = are_numbered old all.numbered;
  named = names_stand old all.named;
  in_form = are_in_form old all.in_form;
  held_once = are_held_once old.ports all.held_once;
  hosts = are_hosts old all.hosts;
  disjoint = are_disjoint old.subnets old.ports old.routers all.disjoint;
  segments = all.segments;
  on_hosts = are_on_hosts old.ports old.routers all.on_hosts;
  services = services_stand old all.services;
  floatings = floatings_lead old.ports old.routers old.floatings all.floatings;
  groups = groups_serve old all.groups;
  allowed = ports_are_allowed old all.allowed;
  outsides = outsides_are_allowed old all.outsides;
  routes = routes_lead old.subnets old.ports old.routers all.routes;
}
