use Rattle.std.proofs.Common.{◌∙◌, ap, arith, refl, subst, sym}
use Rattle.std.specs.Prelude.{Err, IfSome, Ok}
use Rattle.keeper_core.specs.Desk.{AreFresh, HandsOut, IsSpent}
use Rattle.neutron_serve.proofs.ServingLemmas.{none_came, none_passed, none_out, one_passed, served_by}
use Rattle.openings.proofs.AskLemmas.{none_after}
use Rattle.neutron_serve.proofs.serving.serve_next.Goals as goal

pub returns-in-Ok-Some-clause-comes : goal.returns-in-Ok-Some-clause-comes
returns-in-Ok-Some-clause-comes g c =
    let served = served_by c.in-Ok-Some.input c.in-Ok-Some.output c.session-end.new.input c.session-end.new.output c.session-end.result in
    let fresh = subst (λ o. IfSome o (λ pair. AreFresh (g.D.In.Source.told pair.0) (g.D.Out.Sink.told pair.1))) c.in-Ok-Some.field-0-is c.in-Ok-Some.ensures.fresh in
    let out = subst (λ o. HandsOut (Ok o) (g.D.Desk.told c.args.desk.now) (g.D.Desk.told c.next.new.self)) c.in-Ok-Some.field-0-is c.in-Ok-Some.ensures.asks in (
      served,
      refl,
      record {
        promises = c.session-end.ensures.promises;
        fresh = fresh;
        read_fault = λ e. let rose = c.session-end.ensures.read_fault e in let none = fresh.input_fresh in omega (arith, rose, none);
        write_fault = λ e. let rose = c.session-end.ensures.write_fault e in let none = fresh.output_fresh in omega (arith, rose, none);
      },
      one_passed served (g.D.Desk.told c.args.desk.now) (g.D.Desk.told c.next.new.self) (g.D.Desk.told c.done.new.self) out c.done.ensures,
    )

pub returns-in-Ok-Some-clause-none_out : goal.returns-in-Ok-Some-clause-none_out
returns-in-Ok-Some-clause-none_out g c = none_out _ 1 _ _ (returns-in-Ok-Some-clause-comes g c).3 c.requires.none_out

pub returns-in-Ok-None-clause-comes : goal.returns-in-Ok-None-clause-comes
returns-in-Ok-None-clause-comes g c =
    let out = subst (λ o. HandsOut (Ok o) (g.D.Desk.told c.args.desk.now) (g.D.Desk.told c.next.new.self)) c.in-Ok-None.field-0-is c.in-Ok-None.ensures.asks in
    (refl, refl, none_came _ _ out, subst IsSpent (sym out.comes.0) out.comes.1)

pub returns-in-Err-Failed-clause-comes : goal.returns-in-Err-Failed-clause-comes
returns-in-Err-Failed-clause-comes g c =
    let out = subst (λ e. HandsOut (Err e) (g.D.Desk.told c.args.desk.now) (g.D.Desk.told c.next.new.self)) c.in-Err-Failed.field-0-is c.in-Err-Failed.ensures.asks in
    (refl, refl, none_passed 1 _ _ (sym out.comes) out.asks.is, out.asks.cause.failed refl)

pub returns-in-Err-OutOfMemory-clause-comes : goal.returns-in-Err-OutOfMemory-clause-comes
returns-in-Err-OutOfMemory-clause-comes g c =
    let out = subst (λ e. HandsOut (Err e) (g.D.Desk.told c.args.desk.now) (g.D.Desk.told c.next.new.self)) c.in-Err-OutOfMemory.field-0-is c.in-Err-OutOfMemory.ensures.asks in
    let old = g.D.Desk.told c.args.desk.now in
    let new = g.D.Desk.told c.next.new.self in
    (refl, refl, none_passed 0 _ _ (sym out.comes) (out.asks.is ∙ ap (λ a. record old { asks = a; to_come = new.to_come; faults = new.faults }) (none_after old.asks)))
