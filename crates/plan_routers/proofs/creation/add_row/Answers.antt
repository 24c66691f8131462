use Rattle.std.proofs.Common.{◌≡◌, None, ap, subst, sym}
use Rattle.std.specs.Prelude.{IfOk}
use Rattle.api_types.specs.Ident.{Ident}
use Rattle.api_types.specs.RowLists.{RowLists}
use Rattle.api_types.specs.Table.{row_of}
use Rattle.api_types.specs.declared.kind.Row.TheVariants.{Router}
use Rattle.api_types.specs.declared.router.RouterRow.{RouterRow}
use Rattle.api_types.specs.WithRows.{with_added}
use Rattle.plan_routers.proofs.creation.add_row.Goals as goal

pub add-requires : goal.add-requires
add-requires c =
    record { new = subst (λ (i : Ident). row_of (λ (r : RouterRow). r.id) i c.args.draft.rows.routers ≡ None) (sym (ap (λ (r : RouterRow). r.id) c.in_ok-copy.ensures)) c.requires }

pub returns-clause-rows : goal.returns-clause-rows
returns-clause-rows c =
    subst (λ (rows : RowLists). IfOk c.add.result (λ d. d.rows ≡ rows)) (ap (λ (r : RouterRow). with_added c.args.draft.rows (Router r)) c.in_ok-copy.ensures) c.add.ensures.rows
