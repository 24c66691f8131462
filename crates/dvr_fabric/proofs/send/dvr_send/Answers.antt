use Rattle.std.proofs.Common.{◌∙◌, ◌≤◌, ap, subst, sym}
use Rattle.std.specs.Prelude.{count_by}
use Rattle.std.proofs.lemmas.Result.{IfOk-weaker}
use Rattle.dvr_fabric.proofs.MeansLaw.{means, means-after, two-handle}
use Rattle.dvr_fabric.specs.Meaning.{Means, MeansAfter, TwoHosts}
use Rattle.dvr_types.specs.DvrFabric.{is_dvr_named}
use Rattle.dvr_types.specs.DvrHosts.{dvr_hosts}
use Rattle.dvr_types.specs.DvrVerdicts.{dvr_verdict}
use Rattle.dvr_fabric.proofs.send.dvr_send.Goals as goal

pub send_over-requires : goal.send_over-requires
send_over-requires c = λ name. subst (λ hs. count_by (is_dvr_named name) hs ≤ 1) (sym c.of-fleet.ensures) (c.requires.names name)

pub returns-clause-verdict : goal.returns-clause-verdict
returns-clause-verdict c = IfOk-weaker c.send_over.result _ _ (λ v h. h ∙ ap (λ hs. dvr_verdict hs c.args.event.now) c.of-fleet.ensures) c.send_over.ensures

pub returns-clause-means : goal.returns-clause-means
returns-clause-means c =
    let hosts = dvr_hosts c.args.hosts.now c.args.entries.now in
    IfOk-weaker c.send_over.result _ _
    (λ v h rows stand. subst (Means rows hosts c.args.event.now) (sym (h ∙ ap (λ hs. dvr_verdict hs c.args.event.now) c.of-fleet.ensures)) (means rows hosts stand c.args.event.now))
    c.send_over.ensures

pub returns-clause-two_hosts : goal.returns-clause-two_hosts
returns-clause-two_hosts c =
    let hosts = dvr_hosts c.args.hosts.now c.args.entries.now in
    IfOk-weaker c.send_over.result _ _
    (λ v h rows stand. subst (TwoHosts rows hosts c.args.event.now) (sym (h ∙ ap (λ hs. dvr_verdict hs c.args.event.now) c.of-fleet.ensures)) (two-handle rows hosts stand c.args.event.now))
    c.send_over.ensures

pub returns-clause-lists : goal.returns-clause-lists
returns-clause-lists c =
    let hosts = dvr_hosts c.args.hosts.now c.args.entries.now in
    IfOk-weaker c.send_over.result _ _
    (λ v h carries rows start events held is. subst (MeansAfter rows start events c.args.event.now) (sym (h ∙ ap (λ hs. dvr_verdict hs c.args.event.now) c.of-fleet.ensures)) (means-after carries rows start events held hosts is c.args.event.now))
    c.send_over.ensures
