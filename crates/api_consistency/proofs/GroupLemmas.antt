-- Default groups that are there and not twice, and groups that are used within their project.
use Rattle.std.proofs.Common.{◌≡◌, ◌≤◌, List, ℕ, true, arith}
use Rattle.std.specs.Prelude.{◌&&◌, ◌||◌, not, count_by}
use Rattle.std.specs.List.{list_any, list_all}
use Rattle.api_types.specs.Lists.{Pass, if_some, is_empty}
use Rattle.api_types.specs.RowLists.{RowLists}
use Rattle.api_types.specs.Consistent.InForm.{is_group_of}
use Rattle.api_types.specs.Consistent.Groups.{is_default_of, rules_clash, GroupsServe}
use Rattle.api_types.proofs.ListLemmas.{and_both}
use Rattle.api_types.proofs.NameLemmas.{all-at}
use Rattle.api_clauses.specs.Groups.{port_grouped}
use Rattle.api_consistency.specs.Keys.{are_groups_used}
use Rattle.api_consistency.proofs.OnceLemmas.{any_counts}

module _ (rows : RowLists) (used : are_groups_used rows ≡ true) where
  parts : (list_all (λ p. list_any (is_default_of p.name) rows.groups) rows.projects ≡ true) × (list_all (port_grouped rows.groups) rows.ports && list_all (λ r. if_some (is_group_of rows.groups r.project) r.remote_group) rows.rules ≡ true)
  parts = and_both (list_all (λ p. list_any (is_default_of p.name) rows.groups) rows.projects) _ used

  of_both : (list_all (port_grouped rows.groups) rows.ports ≡ true) × (list_all (λ r. if_some (is_group_of rows.groups r.project) r.remote_group) rows.rules ≡ true)
  of_both = and_both (list_all (port_grouped rows.groups) rows.ports) (list_all (λ r. if_some (is_group_of rows.groups r.project) r.remote_group) rows.rules) parts.1

  pub groups_serve : ((name : List ℕ) → count_by (is_default_of name) rows.groups ≤ 1) → Pass (λ r. not (list_any (rules_clash r) rows.rules)) rows.rules → GroupsServe rows.projects rows.ports rows.groups rows.rules
  groups_serve once apart = record {
    defaults = λ k p at. let some = any_counts (is_default_of p.name) rows.groups (all-at (λ p. list_any (is_default_of p.name) rows.groups) rows.projects parts.0 k p at) in omega (arith, some, once p.name);
    of_ports = λ k p at. (and_both (list_all (is_group_of rows.groups p.project) p.groups) (p.secured || (is_empty p.groups && is_empty p.pairs)) (all-at (port_grouped rows.groups) rows.ports of_both.0 k p at)).0;
    bare = λ k p at. (and_both (list_all (is_group_of rows.groups p.project) p.groups) (p.secured || (is_empty p.groups && is_empty p.pairs)) (all-at (port_grouped rows.groups) rows.ports of_both.0 k p at)).1;
    remotes = all-at (λ r. if_some (is_group_of rows.groups r.project) r.remote_group) rows.rules of_both.1;
    apart = apart;
  }
