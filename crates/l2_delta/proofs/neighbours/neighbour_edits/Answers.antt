use Rattle.std.proofs.Common.{◌≡◌, ◌∙◌, ap, sym}
use Rattle.std.proofs.Math.Path.{transport}
use Rattle.std.proofs.lemmas.Result.{IfOk-weaker}
use Rattle.plane_types.specs.Keyed.{with_keys}
use Rattle.plane_types.specs.KeyedTables.{neighbour_key}
use Rattle.plane_types.specs.TableRows.{neighbour_rows}
use Rattle.table_edits.specs.Rewires.{Rewires}
use Rattle.l2_delta.proofs.MapChanges.{neighbours_at, same_neighbour_order}
use Rattle.l2_delta.proofs.neighbours.neighbour_edits.Goals as goal

pub edits_by_own_key-requires-clause-rises : goal.edits_by_own_key-requires-clause-rises
edits_by_own_key-requires-clause-rises c =
    let change = c.args.change.now in
    let facts = neighbours_at change.before.now change.after.now change.items.now change.host.now change.old change.new change.tables.now.lists.tags change.ports change.leads_on change.realised.tags change.had change.given change.numbered
    c.args.ports.now c.requires.down c.requires.stay c.requires.networks c.args.numbers.now c.requires.numbers c.args.floatings.now c.requires.floatings_down c.requires.floatings_stay c.in_ok-keys.keys.items c.neighbours.result.now c.as_slice.result.now
    c.in_ok-keys.ensures (c.neighbours.ensures.rows ∙ change.realised.neighbours) (c.as_slice.ensures.items ∙ c.in_ok-given.ensures) in
    facts.rises

pub edits_by_own_key-requires-clause-given_rise : goal.edits_by_own_key-requires-clause-given_rise
edits_by_own_key-requires-clause-given_rise c =
    let change = c.args.change.now in
    let facts = neighbours_at change.before.now change.after.now change.items.now change.host.now change.old change.new change.tables.now.lists.tags change.ports change.leads_on change.realised.tags change.had change.given change.numbered
    c.args.ports.now c.requires.down c.requires.stay c.requires.networks c.args.numbers.now c.requires.numbers c.args.floatings.now c.requires.floatings_down c.requires.floatings_stay c.in_ok-keys.keys.items c.neighbours.result.now c.as_slice.result.now
    c.in_ok-keys.ensures (c.neighbours.ensures.rows ∙ change.realised.neighbours) (c.as_slice.ensures.items ∙ c.in_ok-given.ensures) in
    facts.given_rise

pub returns : goal.returns
returns c =
    let change = c.args.change.now in
    let facts = neighbours_at change.before.now change.after.now change.items.now change.host.now change.old change.new change.tables.now.lists.tags change.ports change.leads_on change.realised.tags change.had change.given change.numbered
    c.args.ports.now c.requires.down c.requires.stay c.requires.networks c.args.numbers.now c.requires.numbers c.args.floatings.now c.requires.floatings_down c.requires.floatings_stay c.in_ok-keys.keys.items c.neighbours.result.now c.as_slice.result.now
    c.in_ok-keys.ensures (c.neighbours.ensures.rows ∙ change.realised.neighbours) (c.as_slice.ensures.items ∙ c.in_ok-given.ensures) in
    let table : c.neighbours.result.now ≡ change.tables.now.lists.neighbours = c.neighbours.ensures.rows in
    let had : c.neighbours.result.now ≡ neighbour_rows change.before.now change.host.now change.old = table ∙ change.realised.neighbours ∙ ap (neighbour_rows change.before.now change.host.now) (sym change.had) in
    let now = neighbour_rows change.after.now change.host.now change.new in
    IfOk-weaker c.edits_by_own_key.result _ _
    (λ es are. transport
    (λ i. Rewires (same_neighbour_order i) (with_keys neighbour_key (had i)) (with_keys neighbour_key (neighbour_rows (change.leads_on.leads i) change.host.now change.new)) (table i) now es)
    are)
    (c.edits_by_own_key.ensures now facts.now_rise facts.away facts.there)
