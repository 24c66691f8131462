use Rattle.std.proofs.Common.{◌≡◌, ◌∙◌, ◌+◌, ◌<◌, ℕ, List, ◌∷◌, Bor, Option, drop, find, flat_map, length, get_or, map, ap, sym}
use Rattle.std.specs.Option.{option_or}
use Rattle.std.proofs.lemmas.List.{at_drop_more}
use Rattle.std.proofs.lemmas.List.Folds.{find-append}
use Rattle.net_addr.specs.declared.address.Addr.{Addr}
use Rattle.api_types.specs.RowLists.{RowLists}
use Rattle.api_types.specs.declared.port.Fixed.{Fixed}
use Rattle.api_types.specs.declared.port.PortRow.{PortRow}
use Rattle.api_types.specs.RouterRows.{holds_next}
use Rattle.plane_rows.proofs.ways.fixed_toward.Goals as goal

abbrev toward : RowLists → Addr → List (Bor PortRow) → Option Fixed
toward rows x legs = find (holds_next rows x) (flat_map (λ (p : PortRow). p.fixed) (map (λ p. p.now) legs))

at_item : (rows : RowLists) (x : Addr) (legs : List (Bor PortRow)) (i : ℕ) (p : Bor PortRow) → i < length legs → p ≡ get_or legs i p
    → toward rows x (drop i legs) ≡ option_or (find (holds_next rows x) p.now.fixed) (toward rows x (drop (i + 1) legs))
at_item rows x legs i p below is =
    at_drop_more (toward rows x) legs i p below
    ∙ ap (λ q. toward rows x (q ∷ drop (i + 1) legs)) (sym is)
    ∙ find-append (holds_next rows x) p.now.fixed (flat_map (λ (q : PortRow). q.fixed) (map (λ q. q.now) (drop (i + 1) legs)))

pub returns-in-Some : goal.returns-in-Some
returns-in-Some c =
    sym
    (at_item c.args.rows.now c.args.address.now c.args.legs.now c.loop-port.port-index c.port-item.result c.loop-port-test.true c.port-item.is
    ∙ ap (λ o. option_or o (toward c.args.rows.now c.args.address.now (drop (c.loop-port.port-index + 1) c.args.legs.now))) (sym c.fixed_of_port.ensures ∙ c.in-Some.is))
    ∙ c.loop-port.invariant

pub loop-port-preserved : goal.loop-port-preserved
loop-port-preserved c =
    sym
    (at_item c.args.rows.now c.args.address.now c.args.legs.now c.loop-port.port-index c.port-item.result c.loop-port-test.true c.port-item.is
    ∙ ap (λ o. option_or o (toward c.args.rows.now c.args.address.now (drop (c.loop-port.port-index + 1) c.args.legs.now))) (sym c.fixed_of_port.ensures ∙ c.in_default.is))
    ∙ c.loop-port.invariant
