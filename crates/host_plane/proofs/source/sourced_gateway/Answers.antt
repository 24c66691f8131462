use Rattle.std.proofs.Common.{◌≡◌, ◌∙◌, ◌++◌, true, ap, sym}
use Rattle.std.specs.Prelude.{find, option_map}
use Rattle.plane_types.proofs.RouteLemmas.{gateway_kept}
use Rattle.plane_types.specs.Parts.{packet_of, use_of}
use Rattle.plane_types.specs.Keys.{key_eq}
use Rattle.plane_types.specs.Routing.{Use, uses_at, uses_by}
use Rattle.plane_types.specs.TableStep.{table_view}
use Rattle.host_plane.proofs.source.sourced_gateway.Goals as goal

pub returns-in-Some-with_key : goal.returns-in-Some-with_key
returns-in-Some-with_key c =
    let r = c.args.router.now in
    let entries = c.args.entries.now ++ c.args.fresh.now in
    let uses_are : uses_at r.router c.in-Some.outer entries ≡ uses_by r.snat r.gateway r.router entries = sym (ap (λ b. uses_by b r.gateway r.router entries) c.requires ∙ ap (λ g. uses_by true g r.router entries) c.in-Some.is) in
    gateway_kept (table_view c.args.tables.now.lists r) (uses_by r.snat r.gateway r.router entries) (packet_of c.args.packet.now) r.gateway c.in-Some.outer c.key.result (option_map use_of c.with_key.result) (use_of c.in-Some-with_key.entry) (packet_of c.sourced_at.result)
    c.in-Some.is c.key.ensures (c.with_key.ensures ∙ ap (find (λ (u : Use). key_eq u.key c.key.result)) uses_are) (ap (option_map use_of) c.in-Some-with_key.is) c.sourced_at.ensures
