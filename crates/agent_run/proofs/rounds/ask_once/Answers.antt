use Rattle.std.proofs.lemmas.Result.{IfOk-weaker}
use Rattle.wire_replies.specs.Requests.{request_bytes}
use Rattle.agent_run.proofs.AskLemmas.{asked_over, failed_over, not_asked, not_wanting, on_err, wanting_over}
use Rattle.agent_run.proofs.rounds.ask_once.Goals as goal

pub returns-in-Ok-reply-clause-ok : goal.returns-in-Ok-reply-clause-ok
returns-in-Ok-reply-clause-ok g c =
    asked_over g.L.In.Source.told g.L.Out.Sink.told c.args.address.now (request_bytes c.args.ask) (c.in-Ok.input, c.in-Ok.output) (c.exchange-reply.new.input, c.exchange-reply.new.output)
    (g.L.Link.told c.args.link.now) (g.L.Link.told c.open.new.self) (g.L.Link.told c.done.new.self) c.exchange-reply.result c.in-Ok-reply.reply
    c.in-Ok.ensures.opens c.done.ensures c.in-Ok-reply.is c.exchange-reply.ensures.ok

pub returns-in-Err-clause-ok : goal.returns-in-Err-clause-ok
returns-in-Err-clause-ok g c =
    IfOk-weaker c.without_reply.result _ _ (λ came lost.
    failed_over g.L.In.Source.told g.L.Out.Sink.told c.args.address.now (request_bytes c.args.ask) (c.in-Ok.input, c.in-Ok.output) (c.exchange-reply.new.input, c.exchange-reply.new.output)
    (g.L.Link.told c.args.link.now) (g.L.Link.told c.open.new.self) (g.L.Link.told c.done.new.self) c.exchange-reply.result c.in-Err.refusal came
    c.in-Ok.ensures.opens c.done.ensures c.in-Err.is lost.1 lost.0 c.in-Ok.ensures.fresh c.exchange-reply.ensures.err c.exchange-reply.ensures.cause) c.without_reply.ensures

pub returns-in-Err-clause-err : goal.returns-in-Err-clause-err
returns-in-Err-clause-err g c =
    on_err c.without_reply.result _
    (wanting_over g.L.In.Source.told g.L.Out.Sink.told c.args.address.now (request_bytes c.args.ask) (c.in-Ok.input, c.in-Ok.output) (c.exchange-reply.new.input, c.exchange-reply.new.output)
    (g.L.Link.told c.args.link.now) (g.L.Link.told c.open.new.self) (g.L.Link.told c.done.new.self) c.exchange-reply.result c.in-Err.refusal
    c.in-Ok.ensures.opens c.done.ensures c.in-Err.is c.exchange-reply.ensures.err)

pub returns-in-Err-Failed-clause-ok : goal.returns-in-Err-Failed-clause-ok
returns-in-Err-Failed-clause-ok g c =
    not_asked g.L.In.Source.told g.L.Out.Sink.told c.args.address.now (request_bytes c.args.ask) c.in-Err-Failed.field-0 (g.L.Link.told c.args.link.now) (g.L.Link.told c.open.new.self) c.in-Err-Failed.ensures.opens c.in-Err-Failed.field-0-is

pub returns-in-Err-OutOfMemory-clause-err : goal.returns-in-Err-OutOfMemory-clause-err
returns-in-Err-OutOfMemory-clause-err g c =
    not_wanting g.L.In.Source.told g.L.Out.Sink.told c.args.address.now (request_bytes c.args.ask) c.in-Err-OutOfMemory.field-0 (g.L.Link.told c.args.link.now) (g.L.Link.told c.open.new.self) c.in-Err-OutOfMemory.ensures.opens
