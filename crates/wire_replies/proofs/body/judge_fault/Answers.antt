use Rattle.std.proofs.Common.{ap, sym, ◌∙◌}
use Rattle.wire_replies.specs.Faults.{is_fault, fault_reply}
use Rattle.wire_replies.proofs.body.judge_fault.Goals as goal

pub returns-then-is_fault-clause-ok : goal.returns-then-is_fault-clause-ok
returns-then-is_fault-clause-ok c = (
  ap (is_fault c.args.code) (sym c.as_str.ensures) ∙ sym c.is_fault.ensures ∙ c.if-is_fault.true,
  c.fault_reply.ensures ∙ ap fault_reply c.as_str-then-is_fault.ensures,
)

pub returns-clause-bad : goal.returns-clause-bad
returns-clause-bad c = ap (is_fault c.args.code) (sym c.as_str.ensures) ∙ sym c.is_fault.ensures ∙ c.if-is_fault.false
