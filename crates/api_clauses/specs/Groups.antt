-- What consistency asks of groups and rules (Networking API reference v2.0, the refusals of each
-- call). Where two rows break a clause together, both fail.
use Rattle.std.specs.Prelude.{◌==◌, ◌&&◌, ◌||◌, not, Bool, List, count_by}
use Rattle.std.specs.List.{list_all, list_any}
use Rattle.api_types.specs.Lists.{if_some, is_empty}
use Rattle.api_types.specs.Consistent.InForm.{is_group_of}
use Rattle.api_types.specs.Consistent.Groups.{is_default_of, rules_clash}
use Rattle.api_types.specs.declared.project.ProjectRow.{ProjectRow}
use Rattle.api_types.specs.declared.port.PortRow.{PortRow}
use Rattle.api_types.specs.declared.group.RuleRow.{RuleRow}
use Rattle.api_types.specs.declared.group.GroupRow.{GroupRow}

abbrev pub project_grouped : List GroupRow → ProjectRow → Bool
project_grouped groups p = count_by (is_default_of p.name) groups == 1

abbrev pub port_grouped : List GroupRow → PortRow → Bool
port_grouped groups p =
    list_all (is_group_of groups p.project) p.groups
    && (p.secured || (is_empty p.groups && is_empty p.pairs))

abbrev pub rule_grouped : List GroupRow → List RuleRow → RuleRow → Bool
rule_grouped groups rules r =
    if_some (is_group_of groups r.project) r.remote_group && not (list_any (rules_clash r) rules)
