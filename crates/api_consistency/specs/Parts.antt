-- What consistent rows are by more than one row at a time.
use Rattle.api_types.specs.RowLists.{RowLists}
use Rattle.api_types.specs.Consistent.Numbered.{AreNumbered}
use Rattle.api_types.specs.Consistent.HeldOnce.{AreHeldOnce}
use Rattle.api_types.specs.Consistent.Disjoint.{AreDisjoint}
use Rattle.api_types.specs.Consistent.Segments.{SegmentsDiffer}
use Rattle.api_types.specs.Consistent.Services.{DhcpPortsServe, OwnPortsServe}
use Rattle.api_types.specs.Consistent.Floating.{FloatingsLead}
use Rattle.api_types.specs.Consistent.Groups.{GroupsServe}
use Rattle.api_types.specs.Consistent.Permitted.{OutsidesAreAllowed}

pub record AreApart (rows : RowLists) : Type 0 where
  pub numbered : AreNumbered rows
  pub held : AreHeldOnce rows.ports
  pub segments : SegmentsDiffer rows.networks
  pub disjoint : AreDisjoint rows.subnets rows.ports rows.routers

pub record AreServed (rows : RowLists) : Type 0 where
  pub dhcp : DhcpPortsServe rows.networks rows.subnets rows.ports
  pub own_ports : OwnPortsServe rows.ports rows.floatings
  pub floatings : FloatingsLead rows.ports rows.routers rows.floatings
  pub groups : GroupsServe rows.projects rows.ports rows.groups rows.rules
  pub outsides : OutsidesAreAllowed rows.routers rows.floatings rows.policies
