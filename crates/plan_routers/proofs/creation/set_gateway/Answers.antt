use Rattle.std.proofs.Common.{◌≡◌, ◌∙◌, None, ap, subst, sym}
use Rattle.api_types.specs.Ident.{Ident}
use Rattle.api_types.specs.Table.{row_of}
use Rattle.api_types.specs.declared.kind.Row.TheVariants.{Port, Router}
use Rattle.api_types.specs.declared.port.PortRow.{PortRow}
use Rattle.api_types.specs.WithRows.{with_added, with_put}
use Rattle.plan_routers.proofs.creation.set_gateway.Goals as goal

pub add-requires : goal.add-requires
add-requires c =
    record { new = subst (λ (i : Ident). row_of (λ (p : PortRow). p.id) i c.args.draft.rows.ports ≡ None) (sym (ap (λ (p : PortRow). p.id) c.in_ok-port.ensures)) c.requires }

pub returns-clause-rows : goal.returns-clause-rows
returns-clause-rows c =
    let added = c.in_ok-draft.ensures.rows ∙ ap (λ (p : PortRow). with_added c.args.draft.rows (Port p)) c.in_ok-port.ensures in
    c.in_ok-draft-2.ensures.rows ∙ (λ j. with_put (added j) (Router (c.in_ok-copy.ensures j)))
