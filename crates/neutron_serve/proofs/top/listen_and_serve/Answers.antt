use Rattle.std.proofs.Common.{ap, inl, inr, refl, subst, sym}
use Rattle.std.specs.Prelude.{Err}
use Rattle.keeper_core.specs.Desk.{Asks, IsNoneOut}
use Rattle.keeper_core.specs.declared.ask.DeskAsk.TheVariants.{Listen}
use Rattle.neutron_serve.specs.Connections.{ServesAll, carried}
use Rattle.neutron_serve.proofs.ServingLemmas.{listened_rose, listened_serving}
use Rattle.neutron_serve.proofs.top.listen_and_serve.Goals as goal

pub serve_all-requires-clause-none_out : goal.serve_all-requires-clause-none_out
serve_all-requires-clause-none_out g c = subst IsNoneOut (sym c.in-Ok.ensures.is) c.requires.none_out

pub returns-in-Ok-clause-listens : goal.returns-in-Ok-clause-listens
returns-in-Ok-clause-listens g c =
    let serves = c.serve_all in
    let mid = g.D.Desk.told c.listen.new.self in
    let last = carried serves.new.world (g.D.Store.Keeper.told serves.new.store) (g.D.Desk.told serves.new.desk) in
    inl (record {
      faults = mid.faults;
      later = c.in-Ok.ensures.cause.later;
      serves = subst (λ d. ServesAll g.D.In.Source.told g.D.Out.Sink.told c.args.most serves.result (carried c.args.world.now (g.D.Store.Keeper.told c.args.store.now) d) last) c.in-Ok.ensures.is serves.ensures.serves;
    })

pub returns-in-Ok-clause-outside : goal.returns-in-Ok-clause-outside
returns-in-Ok-clause-outside g c = listened_rose g.D.In.Source.told g.D.Out.Sink.told c.args.address.now c.args.most _ _ _ (returns-in-Ok-clause-listens g c)

pub returns-in-Ok-clause-serving : goal.returns-in-Ok-clause-serving
returns-in-Ok-clause-serving g c = listened_serving g.D.In.Source.told g.D.Out.Sink.told c.args.address.now c.args.most _ _ _ (returns-in-Ok-clause-listens g c)

pub returns-in-Err-Failed-clause-listens : goal.returns-in-Err-Failed-clause-listens
returns-in-Err-Failed-clause-listens g c =
    let asks = subst (λ e. Asks (Listen c.args.address.now) (Err e) (g.D.Desk.told c.args.desk.now) (g.D.Desk.told c.listen.new.self)) c.in-Err-Failed.field-0-is c.in-Err-Failed.ensures in
    inr (inl (record {
      status_is = refl;
      rose = asks.cause.failed refl;
      is = ap (λ d. carried c.args.world.now (g.D.Store.Keeper.told c.args.store.now) d) asks.is;
    }))

pub returns-in-Err-OutOfMemory-clause-listens : goal.returns-in-Err-OutOfMemory-clause-listens
returns-in-Err-OutOfMemory-clause-listens g c =
    let asks = subst (λ e. Asks (Listen c.args.address.now) (Err e) (g.D.Desk.told c.args.desk.now) (g.D.Desk.told c.listen.new.self)) c.in-Err-OutOfMemory.field-0-is c.in-Err-OutOfMemory.ensures in
    inr (inr (record { status_is = refl; is = ap (λ d. carried c.args.world.now (g.D.Store.Keeper.told c.args.store.now) d) asks.is }))
