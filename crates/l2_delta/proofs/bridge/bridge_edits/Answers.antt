use Rattle.std.proofs.Common.{◌≡◌, ◌∙◌, ap, sym}
use Rattle.std.proofs.Math.Path.{transport}
use Rattle.std.proofs.lemmas.Result.{IfOk-weaker}
use Rattle.plane_types.specs.Keyed.{with_keys}
use Rattle.plane_types.specs.KeyedTables.{bridge_key}
use Rattle.plane_types.specs.TableRows.{bridge_rows}
use Rattle.table_edits.specs.Rewires.{Rewires}
use Rattle.l2_delta.proofs.MapChanges.{bridge_entries_at, same_bridge_order}
use Rattle.l2_delta.proofs.bridge.bridge_edits.Goals as goal

pub edits_by_own_key-requires-clause-rises : goal.edits_by_own_key-requires-clause-rises
edits_by_own_key-requires-clause-rises c =
    let change = c.args.change.now in
    let facts = bridge_entries_at change.before.now change.after.now change.items.now change.host.now change.old change.new change.tables.now.lists.tags change.ports change.leads_on change.realised.tags change.had change.given change.numbered
    c.args.ports.now c.requires.down c.requires.stay c.requires.networks c.in_ok-keys.keys.items c.bridge.result.now c.as_slice.result.now
    c.in_ok-keys.ensures (c.bridge.ensures.rows ∙ change.realised.bridge) (c.as_slice.ensures.items ∙ c.in_ok-given.ensures) in
    facts.rises

pub edits_by_own_key-requires-clause-given_rise : goal.edits_by_own_key-requires-clause-given_rise
edits_by_own_key-requires-clause-given_rise c =
    let change = c.args.change.now in
    let facts = bridge_entries_at change.before.now change.after.now change.items.now change.host.now change.old change.new change.tables.now.lists.tags change.ports change.leads_on change.realised.tags change.had change.given change.numbered
    c.args.ports.now c.requires.down c.requires.stay c.requires.networks c.in_ok-keys.keys.items c.bridge.result.now c.as_slice.result.now
    c.in_ok-keys.ensures (c.bridge.ensures.rows ∙ change.realised.bridge) (c.as_slice.ensures.items ∙ c.in_ok-given.ensures) in
    facts.given_rise

pub returns : goal.returns
returns c =
    let change = c.args.change.now in
    let facts = bridge_entries_at change.before.now change.after.now change.items.now change.host.now change.old change.new change.tables.now.lists.tags change.ports change.leads_on change.realised.tags change.had change.given change.numbered
    c.args.ports.now c.requires.down c.requires.stay c.requires.networks c.in_ok-keys.keys.items c.bridge.result.now c.as_slice.result.now
    c.in_ok-keys.ensures (c.bridge.ensures.rows ∙ change.realised.bridge) (c.as_slice.ensures.items ∙ c.in_ok-given.ensures) in
    let table : c.bridge.result.now ≡ change.tables.now.lists.bridge = c.bridge.ensures.rows in
    let had : c.bridge.result.now ≡ bridge_rows change.before.now change.host.now change.old = table ∙ change.realised.bridge ∙ ap (bridge_rows change.before.now change.host.now) (sym change.had) in
    let now = bridge_rows change.after.now change.host.now change.new in
    IfOk-weaker c.edits_by_own_key.result _ _
    (λ es are. transport
    (λ i. Rewires (same_bridge_order i) (with_keys bridge_key (had i)) (with_keys bridge_key (bridge_rows (change.leads_on.leads i) change.host.now change.new)) (table i) now es)
    are)
    (c.edits_by_own_key.ensures now facts.now_rise facts.away facts.there)
