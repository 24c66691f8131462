use Rattle.std.proofs.Common.{◌∙◌, ◌-◌, ◌+◌, ap, sym}
use Rattle.plane_types.specs.Meaning.{port_fate as got_by}
use Rattle.plane_types.specs.Parts.{packet_of}
use Rattle.net_meaning.specs.Views.{next_by, trace_of}
use Rattle.net_meaning.proofs.AtPortLemmas.{no_turn, turn_on}
use Rattle.net_meaning.proofs.at_port.carry_packet.Goals as goal

pub returns-in-Ends : goal.returns-in-Ends
returns-in-Ends c =
    ap (λ n. next_by (got_by c.args.rows.now c.args.entries.now (c.args.many - (c.loop-routers.routers + 1))) n (trace_of c.note.new.trace)) (sym c.in-Ends.is)
    ∙ turn_on c.args.rows.now c.args.entries.now c.args.many c.loop-routers.routers c.loop-routers.at.now (packet_of c.loop-routers.packet) (trace_of c.loop-routers.trace) (trace_of c.note.new.trace) c.in_ok-at_port.at_port c.loop-routers-test.true
    (c.in_ok-at_port.ensures (got_by c.args.rows.now c.args.entries.now (c.args.many - (c.loop-routers.routers + 1))) (trace_of c.loop-routers.trace) (sym c.as_slice.ensures))
    c.in_ok-note.ensures
    ∙ c.loop-routers.invariant

pub loop-routers-preserved : goal.loop-routers-preserved
loop-routers-preserved c =
    ap (λ n. next_by (got_by c.args.rows.now c.args.entries.now (c.args.many - (c.loop-routers.routers + 1))) n (trace_of c.note.new.trace)) (sym c.in-To.is)
    ∙ turn_on c.args.rows.now c.args.entries.now c.args.many c.loop-routers.routers c.loop-routers.at.now (packet_of c.loop-routers.packet) (trace_of c.loop-routers.trace) (trace_of c.note.new.trace) c.in_ok-at_port.at_port c.loop-routers-test.true
    (c.in_ok-at_port.ensures (got_by c.args.rows.now c.args.entries.now (c.args.many - (c.loop-routers.routers + 1))) (trace_of c.loop-routers.trace) (sym c.as_slice.ensures))
    c.in_ok-note.ensures
    ∙ c.loop-routers.invariant

pub returns : goal.returns
returns c =
    no_turn c.args.rows.now c.args.entries.now c.args.many c.loop-routers.routers c.loop-routers.at.now (packet_of c.loop-routers.packet) (trace_of c.loop-routers.trace) c.loop-routers-test.false
    ∙ c.loop-routers.invariant
