use Rattle.std.proofs.Common.{arith, subst, ◌<◌, ◌^◌}
use Rattle.std.proofs.lemmas.List.{take_all}
use Rattle.api_types.specs.Lists.{Each}
use Rattle.api_types.specs.declared.port.PortRow.{PortRow}
use Rattle.call_parts.proofs.TypedRows.{one_more}
use Rattle.call_parts.proofs.typed.have_macs.Goals as goal

pub loop-port-preserved : goal.loop-port-preserved
loop-port-preserved c =
    one_more (λ (p : PortRow). p.mac < 2 ^ 48) c.args.ports.now c.loop-port.port-index c.port-item.result c.loop-port-test.true c.port-item.is
    (subst (λ (p : PortRow). p.mac < 2 ^ 48) c.deref.ensures c.is_mac.ensures) c.loop-port.invariant

pub returns : goal.returns
returns c =
    subst (Each (λ (p : PortRow). p.mac < 2 ^ 48)) (take_all c.loop-port.port-index c.args.ports.now (omega (arith, c.loop-port-test.false))) c.loop-port.invariant
