-- Old rows are consistent: what a store of that time met. The fourteen clauses are those of rows
-- today, over rows with addresses of version 4 alone; a clause that speaks of no such row is
-- today's.
pub mod Numbered
pub mod Named
pub mod InForm
pub mod HeldOnce
pub mod Hosts
pub mod Disjoint
pub mod Carried
pub mod Services
pub mod Floating
pub mod Groups
pub mod Access
pub mod Permitted
pub mod NextHops
use Rattle.api_types.specs.Consistent.Segments.{SegmentsDiffer}
use Rattle.old_rows.specs.OldLists.{OldLists}
use Rattle.old_rows.specs.OldConsistent.Numbered.{AreNumbered}
use Rattle.old_rows.specs.OldConsistent.Named.{NamesStand}
use Rattle.old_rows.specs.OldConsistent.InForm.{AreInForm}
use Rattle.old_rows.specs.OldConsistent.HeldOnce.{AreHeldOnce}
use Rattle.old_rows.specs.OldConsistent.Hosts.{AreHosts}
use Rattle.old_rows.specs.OldConsistent.Disjoint.{AreDisjoint}
use Rattle.old_rows.specs.OldConsistent.Carried.{AreOnHosts}
use Rattle.old_rows.specs.OldConsistent.Services.{ServicesStand}
use Rattle.old_rows.specs.OldConsistent.Floating.{FloatingsLead}
use Rattle.old_rows.specs.OldConsistent.Groups.{GroupsServe}
use Rattle.old_rows.specs.OldConsistent.Access.{PortsAreAllowed}
use Rattle.old_rows.specs.OldConsistent.Permitted.{OutsidesAreAllowed}
use Rattle.old_rows.specs.OldConsistent.NextHops.{RoutesLead}

pub record AreConsistentOld (old : OldLists) : Type 0 where
  pub numbered : AreNumbered old
  pub named : NamesStand old
  pub in_form : AreInForm old
  pub held_once : AreHeldOnce old.ports
  pub hosts : AreHosts old.subnets old.ports
  pub disjoint : AreDisjoint old.subnets old.ports old.routers
  pub segments : SegmentsDiffer old.networks
  pub on_hosts : AreOnHosts old.ports old.routers
  pub services : ServicesStand old
  pub floatings : FloatingsLead old.ports old.routers old.floatings
  pub groups : GroupsServe old
  pub allowed : PortsAreAllowed old
  pub outsides : OutsidesAreAllowed old.routers old.floatings old.policies
  pub routes : RoutesLead old.subnets old.ports old.routers
