use Rattle.std.proofs.Common.{◌≡◌, ◌∙◌, ◌+◌, ◌<◌, ◌++◌, ℕ, List, ◌∷◌, Bor, append_assoc, drop, flat_map, length, get_or, map, ap, sym}
use Rattle.std.specs.List.{filter_map}
use Rattle.std.proofs.lemmas.List.{at_drop_more}
use Rattle.api_types.specs.RowLists.{RowLists}
use Rattle.api_types.specs.declared.port.Fixed.{Fixed}
use Rattle.api_types.specs.declared.port.PortRow.{PortRow}
use Rattle.api_types.specs.Ascending.{ascending as in_order}
use Rattle.api_types.specs.RouterRows.{by_address, connected_by}
use Rattle.api_types.specs.RowsWith.{subnet_with}
use Rattle.api_types.specs.RouterViews.{Way as TheWay}
use Rattle.plane_rows.specs.Ways.{way_of}
use Rattle.plane_rows.proofs.ways.add_connected.Goals as goal

-- the routes to the subnets of a port
abbrev of_port : RowLists → List PortRow → PortRow → List TheWay
of_port rows exits p = filter_map (λ (f : Fixed). connected_by exits (subnet_with rows f.subnet)) (in_order by_address p.fixed)

abbrev of_all : RowLists → List PortRow → List (Bor PortRow) → List TheWay
of_all rows exits ports = flat_map (of_port rows exits) (map (λ p. p.now) ports)

at_item : (rows : RowLists) (exits : List PortRow) (legs : List (Bor PortRow)) (i : ℕ) (p : Bor PortRow) → i < length legs → p ≡ get_or legs i p
    → of_all rows exits (drop i legs) ≡ of_port rows exits p.now ++ of_all rows exits (drop (i + 1) legs)
at_item rows exits legs i p below is = at_drop_more (of_all rows exits) legs i p below ∙ ap (λ q. of_all rows exits (q ∷ drop (i + 1) legs)) (sym is)

pub loop-port-preserved : goal.loop-port-preserved
loop-port-preserved c =
    let rows = c.args.rows.now in
    let exits = c.args.exits.now in
    let legs = c.legs-legs.result.now in
    let rest = of_all rows exits (drop (c.loop-port.port-index + 1) legs) in
    ap (λ ws. ws ++ rest) c.in_ok-add_connected_of.ensures
    ∙ append_assoc (map way_of c.loop-port.ways.items) (of_port rows exits c.port-item.result.now) rest
    ∙ ap (λ ws. map way_of c.loop-port.ways.items ++ ws) (sym (at_item rows exits legs c.loop-port.port-index c.port-item.result c.loop-port-test.true c.port-item.is))
    ∙ c.loop-port.invariant
