use Rattle.std.proofs.Common.{◌≡◌, ◌∙◌, ◌+◌, ◌++◌, ℕ, List, Some, append_assoc, ap, drop, refl, sym}
use Rattle.std.specs.Prelude.{flat_map}
use Rattle.api_types.specs.RowLists.{RowLists}
use Rattle.api_types.specs.declared.port.PortRow.{PortRow}
use Rattle.plane_types.specs.KeyedTables.{WayKey}
use Rattle.l3_delta.specs.WayKeys.{connected_keys}
use Rattle.l3_delta.proofs.PortNumbers.{AtPlace, at_place, stands_at}
use Rattle.l3_delta.proofs.way_keys.add_connected.Goals as goal

-- those of one more port
one_more : (rows : RowLists) (keys now : List WayKey) (xs : List (ℕ × PortRow)) (i : ℕ)
    (p : PortRow) (a : AtPlace xs i p) (k : ℕ) → k ≡ (a.x).0
    → now ≡ keys ++ connected_keys rows (k, p)
    → now ++ flat_map (connected_keys rows) (drop (i + 1) xs)
    ≡ keys ++ flat_map (connected_keys rows) (drop i xs)
one_more rows keys now xs i p a k number is =
    let rest : List WayKey = flat_map (connected_keys rows) (drop (i + 1) xs) in
    ap (λ ks. ks ++ rest) is
    ∙ append_assoc keys (connected_keys rows (k, p)) rest
    ∙ (λ j. keys ++ (connected_keys rows (number j, sym a.is j) ++ rest))
    ∙ ap (λ ys. keys ++ flat_map (connected_keys rows) ys) (sym a.left)

pub loop-port-preserved : goal.loop-port-preserved
loop-port-preserved c = λ xs stand same.
    let legs = c.args.legs.now in
    let i = c.loop-port.port-index in
    let a = at_place xs legs i c.port-item.result c.loop-port-test.true c.port-item.is same in
    one_more c.args.rows.now c.loop-port.keys.items c.add_numbered.new.keys.items xs i c.port-item.result.now a (a.x).0 refl
    (c.in_ok-add_numbered.ensures (a.x).0 (stands_at _ xs i a.x stand a.at ∙ ap Some a.is))
    ∙ c.loop-port.invariant xs stand same
