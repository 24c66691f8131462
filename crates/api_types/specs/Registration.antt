-- How ids are drawn for a project, and what registers one (Neutron gives each project a security
-- group `default`).
use Rattle.std.specs.Prelude.{ℕ, ◌+◌, ◌-◌, ◌^◌, List, [], ◌∷◌, ◌++◌, Option, Some, None, if◌then◌else◌, Bool, true, nat_lt, length, slice_get, slice_set, position, codes}
use Rattle.std.specs.Str.{bytes_eq}
use Rattle.net_addr.specs.Words.{Text}
use Rattle.api_types.specs.Ident.{Ident}
use Rattle.api_types.specs.RowLists.{RowLists}
use Rattle.api_types.specs.declared.project.ProjectRow.{ProjectRow}
use Rattle.api_types.specs.declared.group.GroupRow.{GroupRow}
use Rattle.api_types.specs.declared.group.RuleRow.{RuleRow}
use Rattle.api_types.specs.declared.group.Direction.{Direction}
use Rattle.api_types.specs.declared.group.Direction.TheVariants.{Ingress, Egress}
use Rattle.api_types.specs.declared.group.Ethertype.{Ethertype}
use Rattle.api_types.specs.declared.group.Ethertype.TheVariants.{Ipv4, Ipv6}

abbrev pub ident : ℕ → ℕ → Ident
ident ordinal count = record { ordinal = ordinal; count = count }

abbrev pub is_named : Text → ProjectRow → Bool
is_named name project = bytes_eq project.name name

-- the group `default` takes the project's count 1
abbrev pub default_group : Text → ℕ → GroupRow
default_group name ordinal = record {
  id = ident ordinal 1;
  project = name;
  name = codes "default";
  description = [];
  is_default = true;
}

-- what comes in is let in from the same group alone
abbrev pub default_remote : Direction → ℕ → Option Ident
default_remote Ingress ordinal = Some (ident ordinal 1)
default_remote Egress ordinal = None

abbrev pub default_rule : Text → ℕ → ℕ → Direction → Ethertype → RuleRow
default_rule name ordinal count direction ethertype = record {
  id = ident ordinal count;
  project = name;
  group = ident ordinal 1;
  description = [];
  direction = direction;
  ethertype = ethertype;
  protocol = None;
  low = None;
  high = None;
  remote_prefix = None;
  remote_group = default_remote direction ordinal;
}

-- its rules take the counts 2 to 5: out by IPv4 and IPv6, then in by IPv4 and IPv6
abbrev pub default_rules : Text → ℕ → List RuleRow
default_rules name ordinal =
    default_rule name ordinal 2 Egress Ipv4 ∷ default_rule name ordinal 3 Egress Ipv6
    ∷ default_rule name ordinal 4 Ingress Ipv4 ∷ default_rule name ordinal 5 Ingress Ipv6 ∷ []

-- the rows with a new project of this ordinal, for which this many ids were drawn, and its group
abbrev pub with_project : RowLists → Text → ℕ → ℕ → RowLists
with_project rows name ordinal count = record rows {
  projects = rows.projects ++ record { name = name; ordinal = ordinal; count = count } ∷ [];
  groups = rows.groups ++ default_group name ordinal ∷ [];
  rules = rows.rules ++ default_rules name ordinal;
}

-- the rows with another count of the project at a place
abbrev pub with_count : RowLists → ℕ → ProjectRow → ℕ → RowLists
with_count rows place project count =
    record rows { projects = slice_set rows.projects place (record project { count = count }) }

-- ids drawn one after the other: the rows from then on, the project's ordinal, and the first count
pub record Drawing : Type 0 where
  pub rows : RowLists
  pub ordinal : ℕ
  pub first : ℕ

-- the id that was drawn as the n-th, from 0 on
abbrev pub drawn_id : Drawing → ℕ → Ident
drawn_id drawing n = ident drawing.ordinal (drawing.first + n)

abbrev pub draw_for : RowLists → ℕ → ℕ → Option ProjectRow → Option Drawing
draw_for rows place many None = None
draw_for rows place many (Some project) =
    if nat_lt (project.count + many) (2 ^ 62)
    then Some (record {
      rows = with_count rows place project (project.count + many);
      ordinal = project.ordinal;
      first = project.count + 1;
    })
    else None

abbrev pub draw_at : RowLists → Text → ℕ → Option ℕ → Option Drawing
draw_at rows name many None =
    if nat_lt (length rows.projects) (2 ^ 32 - 1)
    then Some (record {
      rows = with_project rows name (length rows.projects + 1) (5 + many);
      ordinal = length rows.projects + 1;
      first = 6;
    })
    else None
draw_at rows name many (Some place) = draw_for rows place many (slice_get rows.projects place)

-- this many ids drawn for the project with this name, which is registered first where it is new;
-- none where a counter would pass its last value
abbrev pub draw_of : RowLists → Text → ℕ → Option Drawing
draw_of rows name many = draw_at rows name many (position (is_named name) rows.projects)
