use Rattle.std.proofs.Common.{◌∙◌, ap}
use Rattle.std.specs.Prelude.{find, option_map}
use Rattle.net_addr.specs.Addresses.{addr_eq}
use Rattle.net_addr.specs.declared.address.Addr.TheVariants.{V4}
use Rattle.api_types.specs.RouterViews.{Float}
use Rattle.api_types.specs.Table.{ident_eq}
use Rattle.plane_types.specs.declared.table.FloatRow.{FloatRow}
use Rattle.plane_types.proofs.RunLemmas.{made_near}
use Rattle.host_plane.proofs.source.floating_for.Goals as goal

abbrev float_of : FloatRow → Float
float_of x = record { floating = x.floating; fixed = x.fixed }

pub returns : goal.returns
returns c =
    c.floating_among.ensures
    ∙ ap (λ fs. option_map (λ (f : Float). f.floating) (find (λ (f : Float). addr_eq (V4 f.fixed) c.args.fixed.now) fs))
    (made_near (λ (x : FloatRow). ident_eq c.args.router x.router) float_of c.floats_near.result.now c.args.tables.now.lists.floats c.floats_near.ensures)
