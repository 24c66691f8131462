-- Rows of all kinds, as lists in order of creation.
use Rattle.std.specs.Prelude.{List}
use Rattle.api_types.specs.declared.project.ProjectRow.{ProjectRow}
use Rattle.api_types.specs.declared.network.NetworkRow.{NetworkRow}
use Rattle.api_types.specs.declared.subnet.SubnetRow.{SubnetRow}
use Rattle.api_types.specs.declared.port.PortRow.{PortRow}
use Rattle.api_types.specs.declared.group.GroupRow.{GroupRow}
use Rattle.api_types.specs.declared.group.RuleRow.{RuleRow}
use Rattle.api_types.specs.declared.router.RouterRow.{RouterRow}
use Rattle.api_types.specs.declared.floating.FloatingRow.{FloatingRow}
use Rattle.api_types.specs.declared.policy.PolicyRow.{PolicyRow}

pub record RowLists : Type 0 where
  pub projects : List ProjectRow
  pub networks : List NetworkRow
  pub subnets : List SubnetRow
  pub ports : List PortRow
  pub groups : List GroupRow
  pub rules : List RuleRow
  pub routers : List RouterRow
  pub floatings : List FloatingRow
  pub policies : List PolicyRow
