use Rattle.std.proofs.Common.{◌≡◌, ◌∙◌, [], false, ap, refl, sym}
use Rattle.std.specs.Prelude.{nat_lt}
use Rattle.std.specs.List.{filter_map, list_any}
use Rattle.std.proofs.Math.Path.{transport}
use Rattle.plane_types.specs.Keyed.{rows_by_key}
use Rattle.plane_types.specs.KeyedTables.{hosted_router, keyed_routes, route_order, router_routes}
use Rattle.plane_types.specs.Numbered.{numbered_after, rows_after, with_numbers}
use Rattle.plane_types.specs.NumberedRows.{numbered_rows, numbered_rows_after}
use Rattle.plane_types.specs.TableRows.{route_rows, router_rows}
use Rattle.table_edits.specs.ChunksSeen.{chunk_rows}
use Rattle.table_edits.specs.Rewires.{Rewires}
use Rattle.table_edits.proofs.KindsAfter.{routers_after}
use Rattle.table_edits.proofs.NumberedLaw.{rows_lead}
use Rattle.l3_delta.specs.RouterStays.{is_hosted_at}
use Rattle.l3_delta.proofs.HostedLemmas.{all_stay}
use Rattle.l3_delta.proofs.RoutesLaw.{as_routes, none_here, rows_before}
use Rattle.l3_delta.proofs.TouchedLemmas.{Ports}
use Rattle.l3_delta.proofs.delta.routed_edits.Goals as goal

pub returns-then-not-is_any_here-clause-routers : goal.returns-then-not-is_any_here-clause-routers
unfolding router_rows
returns-then-not-is_any_here-clause-routers c =
    let change = c.args.change.now in
    let before = change.before.now in
    let host = change.host.now in
    let items = change.items.now in
    let routers = c.args.routers.now in
    let came = hosted_router (numbered_rows before) host change.old in
    let comes = hosted_router (numbered_rows change.after.now) host change.new in
    let leads = change.leads_on.leads in
    let s : Ports before change.after.now items change.ports routers =
    record { leads_on = change.leads_on; numbered = change.numbered; routed = c.requires.routers } in
    let none : list_any (is_hosted_at host routers) c.args.touched.now ≡ false = sym c.is_any_here.ensures ∙ c.if-not-is_any_here.true in
    let table : filter_map came routers.rows ≡ change.tables.now.lists.routers =
    sym (change.realised.routers ∙ (λ j. filter_map (hosted_router (numbered_rows before) host (sym change.had j)) (sym c.requires.routers j).rows)) in
    let now : filter_map comes (rows_after routers.rows routers.items) ≡ router_rows change.after.now host change.new =
    ap (λ n. filter_map comes (rows_after n.rows n.items)) c.requires.routers ∙ ap (filter_map comes) (sym (routers_after before items) ∙ ap (λ r. r.routers) (sym leads)) in
    transport
    (λ j. Rewires nat_lt (rows_by_key nat_lt came (with_numbers 0 (c.requires.routers j).rows))
    (rows_by_key nat_lt (hosted_router (numbered_rows (leads j)) host change.new) (numbered_after (c.requires.routers j).rows (c.requires.routers j).items))
    (table j) (now j) (sym c.new.ensures j))
    (rows_lead routers.rows routers.items came comes [] [] tt refl
    (λ k off. all_stay before change.after.now items change.ports routers s host change.old change.new c.args.touched.now c.requires.named c.requires.stay none k))

pub returns-then-not-is_any_here-clause-routes : goal.returns-then-not-is_any_here-clause-routes
returns-then-not-is_any_here-clause-routes c =
    let change = c.args.change.now in
    let routers = c.args.routers.now in
    let s : Ports change.before.now change.after.now change.items.now change.ports routers =
    record { leads_on = change.leads_on; numbered = change.numbered; routed = c.requires.routers } in
    let none : list_any (is_hosted_at change.host.now routers) c.args.touched.now ≡ false = sym c.is_any_here.ensures ∙ c.if-not-is_any_here.true in
    transport
    (λ j. Rewires route_order (keyed_routes (numbered_rows change.before.now) change.host.now) (keyed_routes (numbered_rows_after change.before.now change.items.now) change.host.now)
    change.tables.now.lists.routes (route_rows change.after.now change.host.now) (sym c.new-then-not-is_any_here.ensures j))
    (as_routes change.before.now change.after.now change.items.now change.ports routers s change.host.now change.old change.new c.args.touched.now c.requires.named c.requires.stay
    (chunk_rows (router_routes (numbered_rows change.before.now) change.host.now) routers.rows) change.tables.now.lists.routes
    (sym (change.realised.routes ∙ rows_before change.before.now change.after.now change.items.now change.ports routers s change.host.now change.old change.new c.args.touched.now c.requires.named c.requires.stay))
    []
    (none_here change.before.now change.after.now change.items.now change.ports routers s change.host.now change.old change.new c.args.touched.now c.requires.named c.requires.stay c.requires.down none))
