use Rattle.std.proofs.Common.{◌∙◌, ◌++◌, ℕ, List, ap, map, sym}
use Rattle.std.specs.Prelude.{flat_map}
use Rattle.api_types.specs.Holders.{gateway_port}
use Rattle.api_types.specs.declared.port.PortRow.{PortRow}
use Rattle.plane_types.specs.KeyedTables.{WayKey}
use Rattle.l3_delta.specs.WayKeys.{connected_keys, defaults_of, extra_keys, leads}
use Rattle.l3_delta.proofs.way_keys.way_keys.Goals as goal

pub returns : goal.returns
returns c = λ xs stand same.
    let rows = c.args.rows.now in
    let r = c.args.router.now in
    let legs = map (λ (x : ℕ × PortRow). x.1) xs in
    let last : List WayKey = defaults_of rows legs (gateway_port rows r) in
    c.in_ok-add_defaults.ensures
    ∙ (λ j. c.in_ok-add_extra.ensures j ++ defaults_of rows (sym same j) (c.gateway_port.ensures j))
    ∙ (λ j.
    c.in_ok-add_connected.ensures xs stand same j
    ++ extra_keys (leads rows (sym same j)) 0 (c.as_slice.ensures j) ++ last)
    ∙ ap (λ (l : List WayKey). l ++ flat_map (connected_keys rows) xs ++ extra_keys (leads rows legs) 0 r.routes ++ last) c.new-keys.ensures.items
