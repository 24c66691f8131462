use Rattle.std.proofs.Common.{◌≡◌, ◌∙◌, sym}
use Rattle.std.specs.Prelude.{IfOk, nat_lt}
use Rattle.std.proofs.Math.Path.{transport}
use Rattle.plane_types.specs.KeyedTables.{keyed_floats, keyed_routers, keyed_routes, route_order}
use Rattle.plane_types.specs.NewTags.{new_tags}
use Rattle.plane_types.specs.NumberedRows.{numbered_rows, numbered_rows_after}
use Rattle.plane_types.specs.TableRows.{float_rows, route_rows, router_rows}
use Rattle.table_edits.specs.Rewires.{Rewires}
use Rattle.l3_delta.proofs.delta.routers_delta.Goals as goal

pub delta_of-requires : goal.delta_of-requires
delta_of-requires c =
    let change = c.in_ok-change.change in
    let is = c.in_ok-change.ensures in
    change.given ∙ (λ j. new_tags (is.after j) (is.host j) (is.tables j).lists.tags) ∙ sym c.requires.tags

pub returns-clause-routers : goal.returns-clause-routers
returns-clause-routers c =
    let change = c.in_ok-change.change in
    let is = c.in_ok-change.ensures in
    let old : change.old ≡ c.args.tables.now.lists.tags = change.had ∙ (λ j. (is.tables j).lists.tags) in
    let new : change.new ≡ c.args.tags.now =
    change.given ∙ (λ j. new_tags (is.after j) (is.host j) (is.tables j).lists.tags) ∙ sym c.requires.tags in
    transport
    (λ j. IfOk c.delta_of.result (λ d. Rewires nat_lt
    (keyed_routers (numbered_rows (is.before j)) (is.host j) (old j))
    (keyed_routers (numbered_rows_after (is.before j) (is.items j)) (is.host j) (new j))
    (is.tables j).lists.routers (router_rows (is.after j) (is.host j) (new j)) d.routers))
    c.delta_of.ensures.routers

pub returns-clause-routes : goal.returns-clause-routes
returns-clause-routes c =
    let is = c.in_ok-change.ensures in
    transport
    (λ j. IfOk c.delta_of.result (λ d. Rewires route_order
    (keyed_routes (numbered_rows (is.before j)) (is.host j))
    (keyed_routes (numbered_rows_after (is.before j) (is.items j)) (is.host j))
    (is.tables j).lists.routes (route_rows (is.after j) (is.host j)) d.routes))
    c.delta_of.ensures.routes

pub returns-clause-floats : goal.returns-clause-floats
returns-clause-floats c =
    let is = c.in_ok-change.ensures in
    transport
    (λ j. IfOk c.delta_of.result (λ d. Rewires nat_lt
    (keyed_floats (numbered_rows (is.before j)) (is.host j))
    (keyed_floats (numbered_rows_after (is.before j) (is.items j)) (is.host j))
    (is.tables j).lists.floats (float_rows (is.after j) (is.host j)) d.floats))
    c.delta_of.ensures.floats
