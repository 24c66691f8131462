use Rattle.std.proofs.Common.{◌≡◌, ◌==◌, arith, false, sym}
use Rattle.std.proofs.lemmas.Bool.Decides.{nat_tests}
use Rattle.std.proofs.lemmas.Result.{IfOk-weaker}
use Rattle.wire_laws.specs.WireStates.{last_number}
use Rattle.wire_types.specs.declared.reply.WireReply.TheVariants as reply
use Rattle.wire_types.specs.declared.step.WireStep.TheVariants as step
use Rattle.agent_wire.specs.HostAgents.{HostAgent}
use Rattle.agent_wire.proofs.HearLemmas.{has_number, page_passed}
use Rattle.agent_wire.proofs.SaidLemmas.{passes, said_added, said_last, said_over}
use Rattle.agent_wire.proofs.agent.WireAgent.take_page.Goals as goal

pub returns-then-not-awaits-clause-ok : goal.returns-then-not-awaits-clause-ok
returns-then-not-awaits-clause-ok c =
    let old : HostAgent = c.args.self.now in
    passes old (reply.Page c.args.version c.args.number c.args.last c.args.more) step.Again (page_passed old.settings old.host old.state c.args.version c.args.number c.args.last c.args.more (sym c.if-not-awaits.ensures))

pub returns-then-last-clause-ok : goal.returns-then-last-clause-ok
returns-then-last-clause-ok c =
    IfOk-weaker c.take_last_page.result _ _ (λ s puts. said_last c.args.self.now c.args.version c.args.number c.args.last c.args.more (sym c.if-not-awaits.ensures) s c.take_last_page.new.self c.if-last.true puts) c.take_last_page.ensures.ok

pub returns-then-number-eq18446744073709551615-clause-ok : goal.returns-then-number-eq18446744073709551615-clause-ok
returns-then-number-eq18446744073709551615-clause-ok c =
    said_over c.args.self.now c.args.version c.args.number c.args.last c.args.more (sym c.if-not-awaits.ensures) c.if-last.false c.if-number-eq18446744073709551615.true

pub add_page-requires : goal.add_page-requires
add_page-requires c =
    let inner : (c.args.number == last_number) ≡ false = grind (arith, nat_tests) in
    has_number c.args.self.now.state c.args.version c.args.number (sym c.if-not-awaits.ensures) (omega arith) inner

pub returns-clause-ok : goal.returns-clause-ok
returns-clause-ok c =
    let inner : (c.args.number == last_number) ≡ false = grind (arith, nat_tests) in
    said_added c.args.self.now c.args.version c.args.number c.args.last c.args.more (sym c.if-not-awaits.ensures) c.add_page.new.self c.if-last.false inner c.in_ok-add_page.ensures.ok
