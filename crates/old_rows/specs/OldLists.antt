-- Old rows of all kinds, as lists in order of creation.
use Rattle.std.specs.Prelude.{◌≡◌, List, []}
use Rattle.api_types.specs.RowLists.{RowLists}
use Rattle.api_types.specs.declared.project.ProjectRow.{ProjectRow}
use Rattle.api_types.specs.declared.network.NetworkRow.{NetworkRow}
use Rattle.api_types.specs.declared.group.GroupRow.{GroupRow}
use Rattle.api_types.specs.declared.floating.FloatingRow.{FloatingRow}
use Rattle.api_types.specs.declared.policy.PolicyRow.{PolicyRow}
use Rattle.old_rows.specs.declared.subnet.OldSubnet.{OldSubnet}
use Rattle.old_rows.specs.declared.port.OldPort.{OldPort}
use Rattle.old_rows.specs.declared.rule.OldRule.{OldRule}
use Rattle.old_rows.specs.declared.router.OldRouter.{OldRouter}

pub record OldLists : Type 0 where
  pub projects : List ProjectRow
  pub networks : List NetworkRow
  pub subnets : List OldSubnet
  pub ports : List OldPort
  pub groups : List GroupRow
  pub rules : List OldRule
  pub routers : List OldRouter
  pub floatings : List FloatingRow
  pub policies : List PolicyRow

abbrev pub no_old_rows : OldLists
no_old_rows = record {
  projects = [];
  networks = [];
  subnets = [];
  ports = [];
  groups = [];
  rules = [];
  routers = [];
  floatings = [];
  policies = [];
}

-- no rows but those of kinds that are what they were
pub record HasNoOther (rows : RowLists) : Type 0 where
  pub subnets : rows.subnets ≡ []
  pub ports : rows.ports ≡ []
  pub rules : rows.rules ≡ []
  pub routers : rows.routers ≡ []
