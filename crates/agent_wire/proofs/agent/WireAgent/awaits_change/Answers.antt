use Rattle.std.proofs.Common.{◌∙◌, ap, sym}
use Rattle.agent_wire.specs.Phases.{is_next}
use Rattle.agent_wire.proofs.PhaseLemmas.{next_awaited, none_awaited}
use Rattle.agent_wire.proofs.agent.WireAgent.awaits_change.Goals as goal

pub returns-then-not-is_following : goal.returns-then-not-is_following
returns-then-not-is_following c = none_awaited c.args.self.now.state c.args.number (sym c.if-not-is_following.ensures)

pub returns : goal.returns
returns c = c.is_next.ensures ∙ ap (λ h. is_next h c.args.number) c.held.ensures ∙ next_awaited c.args.self.now.state c.args.number (sym c.if-not-is_following.ensures)
