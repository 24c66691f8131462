use Rattle.std.proofs.Common.{◌≡◌, ◌∙◌, ◌++◌, ap, sym}
use Rattle.std.specs.Prelude.{option_to_list}
use Rattle.host_plane.specs.Views.{view_of_step}
use Rattle.plane_laws.proofs.Counted.{once-counted}
use Rattle.plane_laws.proofs.MadeLaw.{admits-one, step-admits}
use Rattle.plane_types.specs.Fabric.{after_step, next_position as moved_by, step_path, walk}
use Rattle.plane_types.specs.Hosts.{Host, is_named}
use Rattle.plane_types.specs.Places.{Place, view_of_place}
use Rattle.plane_types.specs.TableStep.{Stepped, table_step}
use Rattle.fabric_run.specs.Views.{view_of_host}
use Rattle.fabric_run.proofs.TellsLemmas.{tells_after}
use Rattle.fabric_run.proofs.PositionLemmas.{step_to}
use Rattle.fabric_run.proofs.position.advance.Goals as goal

pub returns-clause-walked : goal.returns-clause-walked
returns-clause-walked g c = λ many r tells.
    let hosts = g.F.Fleet.hosts c.args.fleet.now in
    let h : Host = view_of_host c.host_at-host.result in
    let place : Place = view_of_place c.in-Next.place in
    let entries = h.entries ++ r.fresh in
    let made : Stepped = table_step h.tables entries place in
    let step_is : view_of_step c.step-step.result ≡ made.step = c.step-step.ensures.step ∙ ap (λ es. (table_step h.tables (h.entries ++ es) place).step) tells.fresh in
    record {
      next = after_step h place made r;
      told = tells_after hosts (λ name. once-counted (is_named name) hosts (c.requires.names name)) c.args.run.now c.note.new.self r h place made c.args.position.now.at
          (option_to_list c.added_by-added.result.router ++ option_to_list c.added_by-added.result.network) (option_to_list c.added_by-added.result.tag) c.step-step.new.fresh.items
          c.host_at-host.ensures tells (admits-one h.tables entries made.made (step-admits h.tables entries place))
          (c.added_by-added.ensures.path ∙ ap (step_path h place) step_is) c.in_ok-note.ensures.path
          (c.step-step.ensures.made ∙ ap (λ es. c.args.run.now.fresh.items ++ (table_step h.tables (h.entries ++ es) place).made) tells.fresh)
          (ap (λ f. f.items) c.in_ok-note.ensures.fresh) c.in_ok-note.ensures.made c.added_by-added.ensures.trail c.in_ok-note.ensures.trail;
      same = step_to hosts many c.args.position.now.at (view_of_step c.args.position.now.step) place h r (ap view_of_step c.in-Next.is) c.host_at-host.ensures
          ∙ ap (moved_by hosts (walk hosts many) h (after_step h place made r)) (sym step_is) ∙ sym (c.follow_step.ensures.led (walk hosts many) (after_step h place made r));
    }
