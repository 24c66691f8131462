-- One turn of a packet at a port.
use Rattle.std.proofs.Common.{◌≡◌, ◌∙◌, ◌-◌, ◌+◌, ◌<◌, ◌≤◌, ℕ, zero, suc, List, ap, sym, refl, arith}
use Rattle.api_types.specs.RowLists.{RowLists}
use Rattle.api_types.specs.declared.port.PortRow.{PortRow}
use Rattle.plane_types.specs.Meaning.{Trace, fate_at_port, drop_fate, port_fate}
use Rattle.plane_types.specs.Packets.{Packet}
use Rattle.plane_types.specs.declared.entry.Entry.{Entry}
use Rattle.plane_types.specs.declared.verdict.DropCause.TheVariants.{Unknown}
use Rattle.net_meaning.specs.Views.{next_by, at_port_fate, trace_after}
use Rattle.net_meaning.specs.declared.at_port.AtPort.{AtPort}

got_more : (rows : RowLists) (entries : List Entry) (many : ℕ) (q : PortRow) (p : Packet) (t : Trace) → port_fate rows entries (suc many) q p t ≡ fate_at_port rows entries (port_fate rows entries many) q p t
unfolding port_fate
got_more rows entries many q p t = refl

got_none : (rows : RowLists) (entries : List Entry) (q : PortRow) (p : Packet) (t : Trace) → port_fate rows entries zero q p t ≡ drop_fate t Unknown
unfolding port_fate
got_none rows entries q p t = refl

-- what a turn leads to is what becomes of the packet
pub turn_on : (rows : RowLists) (entries : List Entry) (many passed : ℕ) (q : PortRow) (p : Packet) (t new : Trace) (at_port : AtPort) → passed < many
    → at_port_fate (port_fate rows entries (many - (passed + 1))) t at_port ≡ fate_at_port rows entries (port_fate rows entries (many - (passed + 1))) q p t
    → new ≡ trace_after t at_port
    → next_by (port_fate rows entries (many - (passed + 1))) at_port.next new ≡ port_fate rows entries (many - passed) q p t
turn_on rows entries many passed q p t new at_port below turn_is new_is =
    let left : many - passed ≡ suc (many - (passed + 1)) = omega arith in
    ap (next_by (port_fate rows entries (many - (passed + 1))) at_port.next) new_is ∙ turn_is
    ∙ sym (ap (λ n. port_fate rows entries n q p t) left ∙ got_more rows entries (many - (passed + 1)) q p t)

-- where no turn is left
pub no_turn : (rows : RowLists) (entries : List Entry) (many passed : ℕ) (q : PortRow) (p : Packet) (t : Trace) → many ≤ passed → drop_fate t Unknown ≡ port_fate rows entries (many - passed) q p t
no_turn rows entries many passed q p t past =
    let left : many - passed ≡ 0 = omega arith in
    sym (ap (λ n. port_fate rows entries n q p t) left ∙ got_none rows entries q p t)
