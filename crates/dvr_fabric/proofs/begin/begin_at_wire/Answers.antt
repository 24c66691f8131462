use Rattle.std.proofs.Common.{◌∙◌, sym}
use Rattle.dvr_fabric.proofs.PositionLemmas.{began_at_wire, not_taken, unsupported}
use Rattle.dvr_fabric.proofs.begin.begin_at_wire.Goals as goal

pub returns-then-is_unsupported-clause-begun : goal.returns-then-is_unsupported-clause-begun
returns-then-is_unsupported-clause-begun c = unsupported c.args.fleet.now c.args.physical.now c.args.tag c.args.frame.now (sym c.is_unsupported.ensures ∙ c.if-is_unsupported.true)

pub returns-in-Some-clause-begun : goal.returns-in-Some-clause-begun
returns-in-Some-clause-begun c = began_at_wire c.args.fleet.now c.args.physical.now c.args.tag c.args.frame.now c.in-Some.at c.in-Some.ensures.0 (sym c.is_unsupported.ensures ∙ c.if-is_unsupported.false) c.in-Some.ensures.1

pub returns-in-None-clause-begun : goal.returns-in-None-clause-begun
returns-in-None-clause-begun c = not_taken c.args.fleet.now c.args.physical.now c.args.tag c.args.frame.now (sym c.is_unsupported.ensures ∙ c.if-is_unsupported.false) c.in-None.ensures
