use Rattle.std.proofs.Common.{◌≡◌, ◌∙◌, ◌++◌, ap, sym}
use Rattle.std.specs.Prelude.{slice_get}
use Rattle.dvr_fabric.proofs.PositionLemmas.{stays_at}
use Rattle.dvr_fabric.proofs.TellsLemmas.{adds_made}
use Rattle.dvr_fabric.specs.Found.{view_of_host}
use Rattle.dvr_fabric.specs.Positions.{ids_of}
use Rattle.dvr_fabric.specs.declared.position.Next.TheVariants.{Step as NextStep}
use Rattle.dvr_types.specs.DvrFabric.{DvrHost, DvrRun, next_of_tables}
use Rattle.host_plane.specs.Views.{view_of_step}
use Rattle.plane_laws.proofs.MadeLaw.{admits-one, step-admits}
use Rattle.plane_types.specs.Fabric.{after_step, step_path}
use Rattle.plane_types.specs.Places.{Place, view_of_place}
use Rattle.plane_types.specs.TableStep.{Stepped, table_step}
use Rattle.dvr_fabric.proofs.advance.step_by_tables.Goals as goal

pub returns-in-Some-clause-leads : goal.returns-in-Some-clause-leads
returns-in-Some-clause-leads c = λ on r same.
    let hosts = c.args.fleet.now in
    let d : DvrHost = view_of_host c.args.host.now in
    let place : Place = view_of_place c.args.place.now in
    let made : Stepped = table_step d.host.tables (d.host.entries ++ r.run.fresh) place in
    let step_is : view_of_step c.step-step.result ≡ made.step = c.step-step.ensures.step ∙ ap (λ es. (table_step d.host.tables (d.host.entries ++ es) place).step) (sym same) in
    let next : DvrRun = record { run = after_step d.host place made r.run; hosts = r.hosts } in
    record {
      next = next;
      adds = adds_made d place made r (ids_of c.path_added-passed.result) c.step-step.new.fresh.items
          (admits-one d.host.tables (d.host.entries ++ r.run.fresh) made.made (step-admits d.host.tables (d.host.entries ++ r.run.fresh) place))
          (c.path_added-passed.ensures ∙ ap (step_path d.host place) step_is)
          (c.step-step.ensures.made ∙ ap (λ es. es ++ (table_step d.host.tables (d.host.entries ++ es) place).made) (sym same));
      same = ap (next_of_tables hosts on d next) (sym step_is) ∙ sym (c.in-Some.ensures.led on next);
    }

pub returns-clause-leads : goal.returns-clause-leads
returns-clause-leads c = λ on r same.
    let hosts = c.args.fleet.now in
    let d : DvrHost = view_of_host c.args.host.now in
    let place : Place = view_of_place c.args.place.now in
    let made : Stepped = table_step d.host.tables (d.host.entries ++ r.run.fresh) place in
    let step_is : view_of_step c.step-step.result ≡ made.step = c.step-step.ensures.step ∙ ap (λ es. (table_step d.host.tables (d.host.entries ++ es) place).step) (sym same) in
    let next : DvrRun = record { run = after_step d.host place made r.run; hosts = r.hosts } in
    record {
      next = next;
      adds = adds_made d place made r (ids_of c.path_added-passed.result) c.step-step.new.fresh.items
          (admits-one d.host.tables (d.host.entries ++ r.run.fresh) made.made (step-admits d.host.tables (d.host.entries ++ r.run.fresh) place))
          (c.path_added-passed.ensures ∙ ap (step_path d.host place) step_is)
          (c.step-step.ensures.made ∙ ap (λ es. es ++ (table_step d.host.tables (d.host.entries ++ es) place).made) (sym same));
      same = ap (next_of_tables hosts on d next) (sym step_is) ∙ sym (c.in-None.ensures.led on next)
          ∙ sym (stays_at on d next (NextStep c.step-step.result) (slice_get hosts c.args.host.now.at) c.requires.here.1);
    }
