use Rattle.std.proofs.Common.{subst, sym}
use Rattle.call_parts.specs.State.{State}
use Rattle.api_machine.specs.Machine.{IsSound}
use Rattle.api_machine.proofs.machine.Machine.of.Goals as goal

pub invariant_of-result : goal.invariant_of-result
invariant_of-result c =
    let sound = subst (λ (s : State). IsSound (record { settings = c.args.settings; rows = s.rows; version = s.version })) (sym c.make-state.ensures)
    (record { rules = c.hosts-rules.ensures.rules; consistent = c.requires.consistent; typed = c.are_typed.ensures; carried = c.requires.carried }) in
    record { sound = sound; same = tt }
