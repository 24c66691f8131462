use Rattle.std.proofs.Common.{◌∙◌}
use Rattle.api_types.specs.Table.{ident_eq}
use Rattle.plane_types.specs.TableStep.{row_fits, tables_allow}
use Rattle.plane_types.specs.declared.table.FilterRow.{FilterRow}
use Rattle.plane_types.proofs.RunLemmas.{any_near}
use Rattle.host_plane.proofs.filter.tables_allow.Goals as goal

-- the rows of the port are all near it
pub returns : goal.returns
unfolding tables_allow
returns c =
    c.one_allows.ensures
    ∙ any_near (λ (r : FilterRow). ident_eq c.args.port r.port) (row_fits c.args.tables.now.lists c.args.direction c.args.key.now) c.filters_near.result.now c.args.tables.now.lists.filters c.filters_near.ensures
