-- The rows of a group's rules.
use Rattle.std.proofs.Common.{◌≡◌, List, [], ◌∷◌, Bool, true, false, cond, Some, None, map, refl, ap}
use Rattle.std.specs.Prelude.{if◌then◌else◌}
use Rattle.std.specs.List.{filter, filter_map, cons_option}
use Rattle.api_types.specs.Table.{ident_eq}
use Rattle.api_types.specs.declared.group.GroupRow.{GroupRow}
use Rattle.api_types.specs.declared.group.RuleRow.{RuleRow}
use Rattle.api_types.specs.declared.port.PortRow.{PortRow}
use Rattle.plane_types.specs.TableRows.{filter_by, filter_of}
use Rattle.l2_agent.specs.Ruled.{is_of}

pub rows_of_rules : (p : PortRow) (g : GroupRow) (rules : List RuleRow) → map (filter_of p) (filter (is_of g.id) rules) ≡ filter_map (filter_by p g) rules
rows_of_rules p g [] = refl
rows_of_rules p g (r ∷ rules) = go (ident_eq r.group g.id) (rows_of_rules p g rules)
  where
    kept : List RuleRow
    kept = filter (is_of g.id) rules

    go : (b : Bool) → map (filter_of p) kept ≡ filter_map (filter_by p g) rules → map (filter_of p) (cond b (r ∷ kept) kept) ≡ cons_option (if b then Some (filter_of p r) else None) (filter_map (filter_by p g) rules)
    go true rest = ap (λ fs. filter_of p r ∷ fs) rest
    go false rest = rest
