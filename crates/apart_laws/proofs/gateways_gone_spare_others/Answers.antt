use Rattle.std.proofs.Common.{None, arith, refl}
use Rattle.api_types.specs.WithRows.{with_put, without_row}
use Rattle.api_types.specs.declared.kind.Kind.TheVariants.{Port}
use Rattle.api_types.specs.declared.kind.Row.TheVariants.{Router}
use Rattle.api_types.specs.declared.router.RouterRow.{RouterRow}
use Rattle.apart_laws.proofs.Serving.{alone_there, lost_spares}
use Rattle.apart_laws.proofs.Steps.{spares_all}
use Rattle.apart_laws.proofs.gateways_gone_spare_others.Goals as goal

pub returns : goal.returns
returns c rows project k r g known at own had =
    let bare : RouterRow = record r { gateway = None } in
    let alone = alone_there (λ (q : RouterRow). q.id) rows.routers k r (omega (arith, known.numbered.ids r.id)) at in
    spares_all project rows (without_row (with_put rows (Router bare)) Port g.port) (lost_spares project rows r bare k at refl refl own alone g had refl)
