-- Each project has its default group, groups are used within their project, and no rule stands
-- twice in a group.
use Rattle.std.specs.Prelude.{◌≡◌, ◌==◌, ◌&&◌, ◌||◌, not, Bool, true, false, List, count_by}
use Rattle.std.specs.List.{list_any, list_all}
use Rattle.std.specs.Option.{option_eq}
use Rattle.std.specs.Str.{bytes_eq}
use Rattle.net_addr.specs.Words.{Text}
use Rattle.net_addr.specs.Addresses.{addr_eq}
use Rattle.net_addr.specs.Prefixes.{Prefix}
use Rattle.api_types.specs.Table.{ident_eq}
use Rattle.api_types.specs.Lists.{Each, Pass, if_some, is_empty}
use Rattle.api_types.specs.Consistent.InForm.{is_group_of}
use Rattle.api_types.specs.declared.project.ProjectRow.{ProjectRow}
use Rattle.api_types.specs.declared.port.PortRow.{PortRow}
use Rattle.api_types.specs.declared.group.GroupRow.{GroupRow}
use Rattle.api_types.specs.declared.group.RuleRow.{RuleRow}
use Rattle.api_types.specs.declared.group.Direction.{Direction}
use Rattle.api_types.specs.declared.group.Direction.TheVariants.{Ingress, Egress}
use Rattle.api_types.specs.declared.group.Ethertype.{Ethertype}
use Rattle.api_types.specs.declared.group.Ethertype.TheVariants.{Ipv4, Ipv6}

abbrev pub is_default_of : Text → GroupRow → Bool
is_default_of name g = g.is_default && bytes_eq g.project name

abbrev pub is_direction : Direction → Direction → Bool
is_direction Ingress Ingress = true
is_direction Egress Egress = true
is_direction _ _ = false

abbrev pub is_ethertype : Ethertype → Ethertype → Bool
is_ethertype Ipv4 Ipv4 = true
is_ethertype Ipv6 Ipv6 = true
is_ethertype _ _ = false

abbrev pub prefix_eq : Prefix → Prefix → Bool
prefix_eq p q = addr_eq p.base q.base && (p.len == q.len)

-- whether what a rule says of packets is the same
abbrev pub same_match : RuleRow → RuleRow → Bool
same_match a b =
    option_eq (λ x y. x == y) a.protocol b.protocol && option_eq (λ x y. x == y) a.low b.low
    && option_eq (λ x y. x == y) a.high b.high
    && option_eq prefix_eq a.remote_prefix b.remote_prefix
    && option_eq ident_eq a.remote_group b.remote_group

-- two rules are equal where all parts but id and description are equal
abbrev pub same_rule : RuleRow → RuleRow → Bool
same_rule a b =
    ident_eq a.group b.group
    && (bytes_eq a.project b.project
    && (is_direction a.direction b.direction
    && (is_ethertype a.ethertype b.ethertype && same_match a b)))

abbrev pub rules_clash : RuleRow → RuleRow → Bool
rules_clash a b = not (ident_eq a.id b.id) && same_rule a b

-- a rule has its group's project, as rows in form say, so its remote group is of its group's
-- project
pub record GroupsServe (projects : List ProjectRow) (ports : List PortRow) (groups : List GroupRow)
    (rules : List RuleRow) : Type 0 where
  pub defaults : Each (λ p. count_by (is_default_of p.name) groups ≡ 1) projects
  pub of_ports : Pass (λ p. list_all (is_group_of groups p.project) p.groups) ports
  pub bare : Pass (λ p. p.secured || (is_empty p.groups && is_empty p.pairs)) ports
  pub remotes : Pass (λ r. if_some (is_group_of groups r.project) r.remote_group) rules
  pub apart : Pass (λ r. not (list_any (rules_clash r) rules)) rules
