use Rattle.std.proofs.Common.{◌∙◌, ap, sym, subst}
use Rattle.http_heads.specs.Heads.{Takes}
use Rattle.http_session.specs.Reading.{IsStop, is_no_read}
use Rattle.http_session.specs.Requests.{IsRequest, BeginsWith}
use Rattle.http_session.specs.Serves.{scene}
use Rattle.http_session.specs.Turns.{IsTurn}
use Rattle.http_session.proofs.Turning.{found_turn, bad_turn, quiet_turn, fault_turn, spent_turn}
use Rattle.http_session.proofs.turn.take_turn.Goals as goal

pub answer_request-turn-requires-clause-begins : goal.answer_request-turn-requires-clause-begins
answer_request-turn-requires-clause-begins g c =
    let is = c.in-Found.ensures.is.2 in
    subst (λ l. BeginsWith l c.in-Found.request) (sym c.as_slice.ensures.value) (is.0, _, is.1, is.2)

pub drop_front-requires : goal.drop_front-requires
drop_front-requires g c = c.in-Found.ensures.is.0

pub returns-in-Found-clause-is : goal.returns-in-Found-clause-is
returns-in-Found-clause-is g c =
    let turn = c.answer_request-turn in
    subst (λ b. IsTurn g.H.Handler.steps g.H.Handler.fixed c.args.taking.now.limit
    (record { scene = scene c.args.world.now (g.K.Keeper.told c.args.keeper.now) (g.I.Source.told c.args.input.now) (g.O.Sink.told c.args.output.now); buffer = c.args.taking.now.buffer; taken = c.args.taking.now.taken })
    (record { scene = scene turn.new.world (g.K.Keeper.told turn.new.keeper) (g.I.Source.told c.await_request.new.input) (g.O.Sink.told turn.new.output); buffer = b; taken = c.await_request.new.taken })
    turn.result)
    (sym c.drop_front.ensures)
    (found_turn g.H.Handler.steps g.H.Handler.fixed c.args.taking.now.limit c.args.world.now turn.new.world (g.K.Keeper.told c.args.keeper.now) (g.K.Keeper.told turn.new.keeper)
    (g.I.Source.told c.args.input.now) (g.I.Source.told c.await_request.new.input) (g.O.Sink.told c.args.output.now) (g.O.Sink.told turn.new.output)
    c.args.taking.now.buffer c.await_request.new.buffer c.args.taking.now.taken c.await_request.new.taken
    c.in-Found.ensures.reads turn.result c.in-Found.request c.in-Found.ensures.within c.in-Found.ensures.is
    (λ asked rest takes is. turn.ensures.is asked rest (subst (λ l. Takes l asked rest) (sym c.as_slice.ensures.value) takes) (subst (λ l. IsRequest l c.in-Found.request asked) (sym c.as_slice.ensures.value) is)))

pub returns-in-Stopped-Bad-clause-is : goal.returns-in-Stopped-Bad-clause-is
returns-in-Stopped-Bad-clause-is g c =
    bad_turn g.H.Handler.steps g.H.Handler.fixed c.args.taking.now.limit c.args.world.now c.args.world.now (g.K.Keeper.told c.args.keeper.now) (g.K.Keeper.told c.args.keeper.now)
    (g.I.Source.told c.args.input.now) (g.I.Source.told c.await_request.new.input) (g.O.Sink.told c.args.output.now) (g.O.Sink.told c.send_refusal.new.output)
    c.args.taking.now.buffer c.await_request.new.buffer c.args.taking.now.taken c.await_request.new.taken c.in-Stopped-Bad.ensures.reads c.send_refusal.result c.in-Stopped-Bad.bad
    (subst (λ s. IsStop c.args.taking.now.limit c.await_request.new.buffer (g.I.Source.told c.await_request.new.input) c.await_request.new.taken s) c.in-Stopped-Bad.field-0-is c.in-Stopped-Bad.ensures.is) c.send_refusal.ensures.is

pub returns-in-Stopped-AtEnd-clause-is : goal.returns-in-Stopped-AtEnd-clause-is
returns-in-Stopped-AtEnd-clause-is g c =
    quiet_turn g.H.Handler.steps g.H.Handler.fixed c.args.taking.now.limit c.args.world.now c.args.world.now (g.K.Keeper.told c.args.keeper.now) (g.K.Keeper.told c.args.keeper.now)
    (g.I.Source.told c.args.input.now) (g.I.Source.told c.await_request.new.input) (g.O.Sink.told c.args.output.now) (g.O.Sink.told c.args.output.now)
    c.args.taking.now.buffer c.await_request.new.buffer c.args.taking.now.taken c.await_request.new.taken c.in-Stopped-AtEnd.ensures.reads
    (subst (λ s. IsStop c.args.taking.now.limit c.await_request.new.buffer (g.I.Source.told c.await_request.new.input) c.await_request.new.taken s) c.in-Stopped-AtEnd.field-0-is c.in-Stopped-AtEnd.ensures.is)

pub returns-in-Stopped-NoRead-clause-is : goal.returns-in-Stopped-NoRead-clause-is
returns-in-Stopped-NoRead-clause-is g c =
    fault_turn g.H.Handler.steps g.H.Handler.fixed c.args.taking.now.limit c.args.world.now c.args.world.now (g.K.Keeper.told c.args.keeper.now) (g.K.Keeper.told c.args.keeper.now)
    (g.I.Source.told c.args.input.now) (g.I.Source.told c.await_request.new.input) (g.O.Sink.told c.args.output.now) (g.O.Sink.told c.args.output.now)
    c.args.taking.now.buffer c.await_request.new.buffer c.args.taking.now.taken c.await_request.new.taken c.in-Stopped-NoRead.ensures.reads
    (subst (λ s. IsStop c.args.taking.now.limit c.await_request.new.buffer (g.I.Source.told c.await_request.new.input) c.await_request.new.taken s) c.in-Stopped-NoRead.field-0-is c.in-Stopped-NoRead.ensures.is)

pub returns-in-Stopped-Spent-clause-is : goal.returns-in-Stopped-Spent-clause-is
returns-in-Stopped-Spent-clause-is g c =
    spent_turn g.H.Handler.steps g.H.Handler.fixed c.args.taking.now.limit c.args.world.now c.args.world.now (g.K.Keeper.told c.args.keeper.now) (g.K.Keeper.told c.args.keeper.now)
    (g.I.Source.told c.args.input.now) (g.I.Source.told c.await_request.new.input) (g.O.Sink.told c.args.output.now) (g.O.Sink.told c.args.output.now)
    c.args.taking.now.buffer c.await_request.new.buffer c.args.taking.now.taken c.await_request.new.taken c.in-Stopped-Spent.ensures.reads
    (subst (λ s. IsStop c.args.taking.now.limit c.await_request.new.buffer (g.I.Source.told c.await_request.new.input) c.await_request.new.taken s) c.in-Stopped-Spent.field-0-is c.in-Stopped-Spent.ensures.is)

pub returns-in-Found-clause-last_read : goal.returns-in-Found-clause-last_read
returns-in-Found-clause-last_read g c = λ h. c.in-Found.ensures.last h ∙ sym c.answer_request-turn.ensures.no_read

pub returns-in-Stopped-Bad-clause-last_read : goal.returns-in-Stopped-Bad-clause-last_read
returns-in-Stopped-Bad-clause-last_read g c = λ h. c.in-Stopped-Bad.ensures.last h ∙ ap is_no_read c.in-Stopped-Bad.field-0-is ∙ sym c.send_refusal.ensures.no_read

pub returns-in-Stopped-AtEnd-clause-last_read : goal.returns-in-Stopped-AtEnd-clause-last_read
returns-in-Stopped-AtEnd-clause-last_read g c = λ h. c.in-Stopped-AtEnd.ensures.last h ∙ ap is_no_read c.in-Stopped-AtEnd.field-0-is

pub returns-in-Stopped-NoRead-clause-last_read : goal.returns-in-Stopped-NoRead-clause-last_read
returns-in-Stopped-NoRead-clause-last_read g c = λ h. c.in-Stopped-NoRead.ensures.last h ∙ ap is_no_read c.in-Stopped-NoRead.field-0-is

pub returns-in-Stopped-Spent-clause-last_read : goal.returns-in-Stopped-Spent-clause-last_read
returns-in-Stopped-Spent-clause-last_read g c = λ h. c.in-Stopped-Spent.ensures.last h ∙ ap is_no_read c.in-Stopped-Spent.field-0-is
