-- Each project has its default group, groups are used within their project, and no rule stands
-- twice in a group.
use Rattle.std.specs.Prelude.{◌≡◌, ◌==◌, ◌&&◌, ◌||◌, not, Bool, count_by}
use Rattle.std.specs.List.{list_any, list_all}
use Rattle.std.specs.Option.{option_eq}
use Rattle.std.specs.Str.{bytes_eq}
use Rattle.api_types.specs.Table.{ident_eq}
use Rattle.api_types.specs.Lists.{Each, Pass, if_some, is_empty}
use Rattle.api_types.specs.Consistent.InForm.{is_group_of}
use Rattle.api_types.specs.Consistent.Groups.{is_default_of, is_direction, is_ethertype}
use Rattle.old_rows.specs.Prefixes4.{prefix_eq}
use Rattle.old_rows.specs.OldLists.{OldLists}
use Rattle.old_rows.specs.declared.rule.OldRule.{OldRule}

-- whether what a rule says of packets is the same
abbrev pub same_match : OldRule → OldRule → Bool
same_match a b =
    option_eq (λ x y. x == y) a.protocol b.protocol && option_eq (λ x y. x == y) a.low b.low
    && option_eq (λ x y. x == y) a.high b.high
    && option_eq prefix_eq a.remote_prefix b.remote_prefix
    && option_eq ident_eq a.remote_group b.remote_group

-- two rules are equal where all parts but id and description are equal
abbrev pub same_rule : OldRule → OldRule → Bool
same_rule a b =
    ident_eq a.group b.group
    && (bytes_eq a.project b.project
    && (is_direction a.direction b.direction
    && (is_ethertype a.ethertype b.ethertype && same_match a b)))

abbrev pub rules_clash : OldRule → OldRule → Bool
rules_clash a b = not (ident_eq a.id b.id) && same_rule a b

-- a rule has its group's project, as rows in form say, so its remote group is of its group's
-- project
pub record GroupsServe (old : OldLists) : Type 0 where
  pub defaults : Each (λ p. count_by (is_default_of p.name) old.groups ≡ 1) old.projects
  pub of_ports : Pass (λ p. list_all (is_group_of old.groups p.project) p.groups) old.ports
  pub bare : Pass (λ p. p.secured || (is_empty p.groups && is_empty p.pairs)) old.ports
  pub remotes : Pass (λ r. if_some (is_group_of old.groups r.project) r.remote_group) old.rules
  pub apart : Pass (λ r. not (list_any (rules_clash r) old.rules)) old.rules
