use Rattle.std.proofs.Common.{◌∙◌, ap, suc, sym}
use Rattle.std.specs.Prelude.{slice_get}
use Rattle.dvr_fabric.proofs.TellsLemmas.{tells_noted}
use Rattle.dvr_fabric.specs.Found.{view_of_host}
use Rattle.dvr_fabric.specs.Positions.{fate_there, ids_of, run_with}
use Rattle.dvr_types.specs.DvrFabric.{dvr_walk, is_dvr_named, run_at}
use Rattle.plane_laws.proofs.Counted.{once-counted}
use Rattle.dvr_fabric.proofs.advance.advance.Goals as goal

pub returns-in_default-clause-walked : goal.returns-in_default-clause-walked
returns-in_default-clause-walked c = λ many r tells.
    let hosts = c.args.fleet.now in
    let ends = c.in_default.ensures.leads.0 in
    let at = c.host_at-host.ensures.there in
    record {
      next = r;
      told = record {
        path = tells.path;
        fresh = c.in_default.ensures.leads.1 ∙ c.in_ok-reserve.ensures.items ∙ tells.fresh;
        made = tells.made;
        makers = tells.makers;
        passed = tells.passed;
      };
      same = ap (fate_there (dvr_walk hosts (suc many)) r c.args.position.now.next) at ∙ ends (dvr_walk hosts (suc many)) r
          ∙ sym (ap (fate_there (dvr_walk hosts many) r c.args.position.now.next) at ∙ ends (dvr_walk hosts many) r);
    }

pub returns-clause-walked : goal.returns-clause-walked
returns-clause-walked c = λ many r tells.
    let hosts = c.args.fleet.now in
    let d = view_of_host c.host_at-host.result in
    let x = view_of_host c.host_at.result in
    let s = c.in-Some.stepped in
    let g = c.in-Some.ensures.leads many r (sym (c.in_ok-reserve.ensures.items ∙ tells.fresh)) in
    record {
      next = run_at d x g.next;
      told = tells_noted hosts (λ name. once-counted (is_dvr_named name) hosts (c.requires.names name)) c.args.run.now c.note.new.self r g.next d x c.host_at-host.result.at (ids_of s.passed) c.step_from.new.fresh.items
          c.host_at-host.ensures.here.1 tells g.adds c.in_ok-note.ensures.path (ap (λ f. f.items) c.in_ok-note.ensures.fresh) c.in_ok-note.ensures.made c.in_ok-note.ensures.hosts;
      same = ap (fate_there (dvr_walk hosts (suc many)) r c.args.position.now.next) c.host_at-host.ensures.there
          ∙ g.same
          ∙ ap (λ o. fate_there (dvr_walk hosts many) (run_with d g.next o) s.next.next (slice_get hosts s.next.at)) c.host_at.ensures.there;
    }
