use Rattle.std.proofs.Common.{subst}
use Rattle.std.proofs.lemmas.Result.{IfOk-weaker}
use Rattle.wire_laws.specs.WireStates.{ask_of}
use Rattle.wire_replies.specs.Requests.{request_bytes}
use Rattle.agent_run.specs.Rounds.{AsksOnce, WantsOnce}
use Rattle.agent_run.proofs.AskLemmas.{asked_wanting, on_err, runs_heard, runs_lost}
use Rattle.agent_run.proofs.rounds.run_round.Goals as goal

pub returns-in_err-came-clause-err : goal.returns-in_err-came-clause-err
returns-in_err-came-clause-err g c =
    on_err c.from_residual.result _
    (subst (λ ask. WantsOnce g.L.In.Source.told g.L.Out.Sink.told (request_bytes ask) c.args.address.now (g.L.Link.told c.args.link.now) (g.L.Link.told c.ask_once.new.link)) c.ask-asked.ensures c.in_err-came.ensures.err)

pub returns-in-Some-clause-ok : goal.returns-in-Some-clause-ok
returns-in-Some-clause-ok g c =
    let once = subst (λ ask. AsksOnce g.L.In.Source.told g.L.Out.Sink.told (request_bytes ask) c.args.address.now (g.L.Link.told c.args.link.now) (g.L.Link.told c.ask_once.new.link) c.in_ok-came.came) c.ask-asked.ensures c.in_ok-came.ensures.ok in
    let asked = subst (AsksOnce g.L.In.Source.told g.L.Out.Sink.told (request_bytes (ask_of c.args.agent.now.state)) c.args.address.now (g.L.Link.told c.args.link.now) (g.L.Link.told c.ask_once.new.link)) c.in-Some.is once in
    IfOk-weaker c.hear.result _ _ (λ said heard. runs_heard g.L.In.Source.told g.L.Out.Sink.told c.args.address.now c.args.agent.now c.hear.new.agent (g.L.Link.told c.args.link.now) (g.L.Link.told c.ask_once.new.link) c.in-Some.reply said asked heard) c.hear.ensures.ok

pub returns-in-Some-clause-err : goal.returns-in-Some-clause-err
returns-in-Some-clause-err g c =
    let once = subst (λ ask. AsksOnce g.L.In.Source.told g.L.Out.Sink.told (request_bytes ask) c.args.address.now (g.L.Link.told c.args.link.now) (g.L.Link.told c.ask_once.new.link) c.in_ok-came.came) c.ask-asked.ensures c.in_ok-came.ensures.ok in
    on_err c.hear.result _ (asked_wanting g.L.In.Source.told g.L.Out.Sink.told c.args.address.now (request_bytes (ask_of c.args.agent.now.state)) (g.L.Link.told c.args.link.now) (g.L.Link.told c.ask_once.new.link) c.in_ok-came.came once)

pub returns-in-None-clause-ok : goal.returns-in-None-clause-ok
returns-in-None-clause-ok g c =
    let once = subst (λ ask. AsksOnce g.L.In.Source.told g.L.Out.Sink.told (request_bytes ask) c.args.address.now (g.L.Link.told c.args.link.now) (g.L.Link.told c.ask_once.new.link) c.in_ok-came.came) c.ask-asked.ensures c.in_ok-came.ensures.ok in
    runs_lost g.L.In.Source.told g.L.Out.Sink.told c.args.address.now c.args.agent.now (g.L.Link.told c.args.link.now) (g.L.Link.told c.ask_once.new.link)
    (subst (AsksOnce g.L.In.Source.told g.L.Out.Sink.told (request_bytes (ask_of c.args.agent.now.state)) c.args.address.now (g.L.Link.told c.args.link.now) (g.L.Link.told c.ask_once.new.link)) c.in-None.is once)
