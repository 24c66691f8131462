use Rattle.std.proofs.Common.{◌∙◌, ap, sym, map}
use Rattle.std.specs.Prelude.{option_map}
use Rattle.api_types.specs.RouterRows.{gateway_address as gateway_by_rows, router_view}
use Rattle.plane_types.specs.Parts.{packet_of, use_of}
use Rattle.plane_types.proofs.RouteLemmas.{gateway_kept}
use Rattle.net_meaning.proofs.source.sourced_gateway.Goals as goal

pub returns-in-Some-with_key : goal.returns-in-Some-with_key
returns-in-Some-with_key c =
    gateway_kept (router_view c.args.rows.now c.args.router.now) (map use_of c.args.uses.now) (packet_of c.args.packet.now) (gateway_by_rows c.args.rows.now c.args.router.now) c.in-Some.outer c.key.result (option_map use_of c.with_key.result) (use_of c.in-Some-with_key.entry) (packet_of c.sourced_at.result)
    (sym c.gateway_address.ensures ∙ c.in-Some.is) c.key.ensures c.with_key.ensures (ap (option_map use_of) c.in-Some-with_key.is) c.sourced_at.ensures
