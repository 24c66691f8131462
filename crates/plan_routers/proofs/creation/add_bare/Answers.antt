use Rattle.std.proofs.Common.{◌≡◌, ◌∙◌, None, ap, subst, sym}
use Rattle.api_types.specs.Ident.{Ident}
use Rattle.api_types.specs.Table.{row_of}
use Rattle.api_types.specs.declared.router.RouterRow.{RouterRow}
use Rattle.plan_routers.specs.RouterCalls.{new_router}
use Rattle.plan_routers.proofs.creation.add_bare.Goals as goal

pub add-requires : goal.add-requires
add-requires c =
    let id_is = ap (λ (r : RouterRow). r.id) c.in_ok-router.ensures ∙ c.id.ensures c.args.drawn.draft.rows in
    record { new = subst (λ (i : Ident). row_of (λ (r : RouterRow). r.id) i c.args.drawn.draft.rows.routers ≡ None) (sym id_is) c.requires.new }

pub returns-clause-row : goal.returns-clause-row
returns-clause-row c =
    c.in_ok-kept.ensures ∙ (c.in_ok-router.ensures ∙ (λ j. new_router (c.settings.ensures j) c.args.form.now c.args.owner.now (c.id.ensures c.args.drawn.draft.rows j)))
