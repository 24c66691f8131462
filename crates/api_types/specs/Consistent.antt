-- Rows are consistent: what a loaded store must meet, and what each accepted call keeps. The
-- fourteen clauses are in the order in which a broken one is told; what the eighth says of
-- settings stands apart, in `AreCarried`.
pub mod Numbered
pub mod Named
pub mod InForm
pub mod HeldOnce
pub mod Hosts
pub mod Disjoint
pub mod Segments
pub mod Carried
pub mod Services
pub mod Floating
pub mod Groups
pub mod Access
pub mod Permitted
pub mod NextHops
use Rattle.api_types.specs.RowLists.{RowLists}
use Rattle.api_types.specs.Consistent.Numbered.{AreNumbered}
use Rattle.api_types.specs.Consistent.Named.{NamesStand}
use Rattle.api_types.specs.Consistent.InForm.{AreInForm}
use Rattle.api_types.specs.Consistent.HeldOnce.{AreHeldOnce}
use Rattle.api_types.specs.Consistent.Hosts.{AreHosts}
use Rattle.api_types.specs.Consistent.Disjoint.{AreDisjoint}
use Rattle.api_types.specs.Consistent.Segments.{SegmentsDiffer}
use Rattle.api_types.specs.Consistent.Carried.{AreOnHosts}
use Rattle.api_types.specs.Consistent.Services.{ServicesStand}
use Rattle.api_types.specs.Consistent.Floating.{FloatingsLead}
use Rattle.api_types.specs.Consistent.Groups.{GroupsServe}
use Rattle.api_types.specs.Consistent.Access.{PortsAreAllowed}
use Rattle.api_types.specs.Consistent.Permitted.{OutsidesAreAllowed}
use Rattle.api_types.specs.Consistent.NextHops.{RoutesLead}

pub record IsConsistent (rows : RowLists) : Type 0 where
  pub numbered : AreNumbered rows
  pub named : NamesStand rows
  pub in_form : AreInForm rows.networks rows.subnets rows.ports rows.groups rows.rules rows.routers
  pub held_once : AreHeldOnce rows.ports
  pub hosts : AreHosts rows.subnets rows.ports
  pub disjoint : AreDisjoint rows.subnets rows.ports rows.routers
  pub segments : SegmentsDiffer rows.networks
  pub on_hosts : AreOnHosts rows.ports rows.routers
  pub services : ServicesStand rows.networks rows.subnets rows.ports rows.routers rows.floatings
  pub floatings : FloatingsLead rows.ports rows.routers rows.floatings
  pub groups : GroupsServe rows.projects rows.ports rows.groups rows.rules
  pub allowed : PortsAreAllowed rows.networks rows.ports rows.policies
  pub outsides : OutsidesAreAllowed rows.routers rows.floatings rows.policies
  pub routes : RoutesLead rows.subnets rows.ports rows.routers
