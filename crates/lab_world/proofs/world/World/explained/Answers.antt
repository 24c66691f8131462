use Rattle.std.proofs.Common.{◌∙◌, ◌≡◌, ap, subst, sym}
use Rattle.plane_types.specs.Verdicts.{rows_verdict}
use Rattle.plane_types.specs.declared.ask.LabAnswer.TheVariants.{Seen}
use Rattle.plane_types.specs.declared.ask.LabCall.TheVariants.{Explain}
use Rattle.world_laws.specs.World.{World}
use Rattle.lab_world.specs.Lab.{Answered, event_refusal, lab_outcome}
use Rattle.lab_world.specs.Parts.{world_seen}
use Rattle.lab_world.proofs.Asking.{explained_told}
use Rattle.lab_world.proofs.Seen.{entries_joined}
use Rattle.lab_world.proofs.world.World.explained.Goals as goal

pub returns-clause-ok : goal.returns-clause-ok
returns-clause-ok c =
    let i = c.self.inside in
    let m = i.machine in
    let w : World = world_seen m.settings m.rows m.version i.bus i.hosts i.manual in
    subst (λ (v : World). lab_outcome v c.args.caller.now (Explain c.args.event.now) ≡ Answered (Seen c.in_ok-verdict.verdict) v) c.self.view_is
    (explained_told w c.args.caller.now c.args.event.now c.in_ok-verdict.verdict
    (ap (λ rows. event_refusal rows c.args.caller.now c.args.event.now) (sym c.rows.ensures.rows) ∙ c.in_ok-ensure_event_allowed.ensures.ok)
    (c.in_ok-verdict.ensures ∙ (λ j. rows_verdict (c.rows-2.ensures.rows j) ((c.in_ok-entries.ensures ∙ entries_joined i.hosts) j) c.args.event.now)))
