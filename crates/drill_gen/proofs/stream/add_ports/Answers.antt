use Rattle.std.proofs.Common.{◌≡◌, ◌∙◌, ◌+◌, ◌-◌, ◌++◌, ap, ap₂, arith, suc, sym}
use Rattle.drill_gen.specs.Draws.{state_behind}
use Rattle.drill_gen.specs.Stream.{port_request, port_requests}
use Rattle.drill_gen.proofs.StreamLemmas.{no_draws, no_ports, one_draw, one_port}
use Rattle.drill_gen.proofs.stream.add_ports.Goals as goal

pub loop-port-preserved : goal.loop-port-preserved
loop-port-preserved c =
    let left : c.args.size - c.loop-port._port ≡ suc (c.args.size - (c.loop-port._port + 1)) = omega (arith, c.loop-port-test.true) in
    let asked = c.as_slice.ensures.value ∙ c.in_ok-asked.ensures ∙ ap port_request c.draw-number.ensures.drawn in
    let bytes = c.in_ok-extend_from_slice.ensures.items ∙ ap (λ r. c.loop-port.bytes.items ++ r) asked in
    record {
      added = ap₂ (λ b s. b ++ port_requests (c.args.size - (c.loop-port._port + 1)) s) bytes c.draw-number.ensures.state ∙ one_port _ _ _ _ left ∙ c.loop-port.invariant.added;
      state = ap (λ s. state_behind (c.args.size - (c.loop-port._port + 1)) s) c.draw-number.ensures.state ∙ one_draw _ _ _ left ∙ c.loop-port.invariant.state;
    }

pub returns-clause-added : goal.returns-clause-added
returns-clause-added c =
    let left : c.args.size - c.loop-port._port ≡ 0 = omega (arith, c.loop-port-test.false) in
    sym (no_ports c.loop-port.bytes.items _ c.loop-port.state left) ∙ c.loop-port.invariant.added

pub returns-clause-state : goal.returns-clause-state
returns-clause-state c =
    let left : c.args.size - c.loop-port._port ≡ 0 = omega (arith, c.loop-port-test.false) in
    sym (no_draws _ c.loop-port.state left) ∙ c.loop-port.invariant.state
