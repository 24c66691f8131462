use Rattle.std.proofs.Common.{◌∙◌, ap, sym, subst, Some, get_or}
use Rattle.std.specs.Prelude.{position}
use Rattle.api_types.specs.Table.{HaveOwnIds, ident_eq}
use Rattle.call_parts.proofs.EditLaws.{at_place, no_place}
use Rattle.call_parts.proofs.draft.found.Goals as goal

pub returns-in_default-clause-none : goal.returns-in_default-clause-none
returns-in_default-clause-none g c =
    no_place (λ r. ident_eq c.args.id (g.R.Keyed.id_of r)) (g.R.RowKind.list_of c.args.rows.now)
    (ap (position (λ r. ident_eq c.args.id (g.R.Keyed.id_of r))) (sym (c.rows-rows.ensures.rows ∙ c.table.ensures)) ∙ sym c.in_default.ensures)

pub returns-clause-some : goal.returns-clause-some
returns-clause-some g c =
    let all = c.rows-rows.ensures.rows ∙ c.table.ensures in
    let shared = c.index-rows-place.result in
    let here = at_place (λ r. ident_eq c.args.id (g.R.Keyed.id_of r)) (g.R.RowKind.list_of c.args.rows.now) c.in-Some.place shared
    (ap (position (λ r. ident_eq c.args.id (g.R.Keyed.id_of r))) (sym all) ∙ sym c.in-Some.ensures)
    (c.index-rows-place.is ∙ ap (λ xs. get_or xs c.in-Some.place shared) all) in
    record {
      at = here.0 ∙ ap Some (sym c.get-row.ensures);
      is = ap (λ r. ident_eq c.args.id (g.R.Keyed.id_of r)) c.get-row.ensures ∙ here.1;
      own_ids = subst (λ rows. HaveOwnIds g.R.Keyed.id_of rows) c.table.ensures c.rows-rows.ensures.own_ids;
    }
