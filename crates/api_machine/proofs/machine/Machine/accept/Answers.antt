use Rattle.std.proofs.Common.{◌∙◌, ap, subst, sym}
use Rattle.call_parts.specs.State.{State}
use Rattle.kept_laws.specs.Kept.{AreKept}
use Rattle.api_machine.specs.Machine.{MachineParts}
use Rattle.api_machine.proofs.machine.Machine.accept.Goals as goal

pub invariant_of-self : goal.invariant_of-self
invariant_of-self c =
    let opened = subst (λ (m : MachineParts). AreKept m.settings m.rows c.args.ready.rows) (sym c.self.view_is) c.requires.kept in
    let kept = subst (λ (r : State). AreKept c.self.inside.settings c.self.inside.state.rows r.rows) (sym c.ready.view_is) opened in
    let placed = subst (λ (s : State). AreKept c.self.inside.settings c.self.inside.state.rows s.rows) (sym c.make.ensures) kept in
    record {
      sound = record { rules = c.self.invariant.sound.rules; consistent = placed.consistent; typed = placed.typed; carried = placed.carried c.self.invariant.sound.carried };
      same = c.ready.invariant ∙ sym (ap (λ (s : State). s.rows) c.make.ensures);
    }
