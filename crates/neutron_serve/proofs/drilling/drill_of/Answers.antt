use Rattle.std.proofs.Common.{◌∙◌, ap, refl, subst}
use Rattle.http_session.specs.Serves.{Scene, Serves, scene}
use Rattle.http_session.specs.declared.session_end.SessionEnd.{SessionEnd}
use Rattle.http_session.specs.declared.session_end.SessionEnd.TheVariants.{Done}
use Rattle.keeper_core.specs.Ends.{sure_unread, sure_written}
use Rattle.keeper_core.specs.Kept.{sure_rows}
use Rattle.keeper_core.specs.declared.last_read.LastRead.TheVariants.{Unread}
use Rattle.neutron_serve.specs.Drills.{DrillSteps, drill_replies}
use Rattle.neutron_serve.specs.declared.drilling.Drill.{Drill}
use Rattle.neutron_serve.proofs.drilling.drill_of.Goals as goal

pub returns-in-Done : goal.returns-in-Done
returns-in-Done c =
    let end = c.session-end in
    let last = scene end.new.world (sure_rows end.new.keeper) (sure_unread end.new.input) (sure_written end.new.output) in
    record {
      after = last;
      serves = subst (λ (m : Scene Drill). Serves DrillSteps drill_replies 1099511627776 m last Done)
          (λ j. scene (c.in_ok-drill.ensures j) (sure_rows ((c.make-keeper.ensures ∙ c.in_ok-empty.ensures) j))
          (sure_unread ((c.make-input.ensures ∙ ap (λ l. record { left = l; piece = 65536; last = Unread }) c.in_ok-requests.ensures) j)) (sure_written (c.make-replies.ensures j)))
          (subst (λ (e : SessionEnd). Serves DrillSteps drill_replies 1099511627776 (scene c.in_ok-drill.drill (sure_rows c.make-keeper.result) (sure_unread c.make-input.result) (sure_written c.make-replies.result)) last e) c.in-Done.is end.ensures.serves);
      written = refl;
      sure = refl;
      whole = c.if-drill.true;
      tally_is = refl;
      version_is = c.version.ensures;
    }
