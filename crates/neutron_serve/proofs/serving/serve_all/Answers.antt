use Rattle.std.proofs.Common.{◌∙◌, arith, refl, sym}
use Rattle.neutron_serve.proofs.ServingLemmas.{all_served, desk_failed, more_so_far, no_memory, none_left, none_so_far, served_and_ended}
use Rattle.neutron_serve.proofs.serving.serve_all.Goals as goal

pub connections-init : goal.connections-init
connections-init g c =
    record { so_far = none_so_far g.D.In.Source.told g.D.Out.Sink.told _; kept = record { tells = c.requires.kept; as_before = refl }; none_out = c.requires.none_out; later = omega arith }

pub returns-then-is_wanting-clause-serves : goal.returns-then-is_wanting-clause-serves
returns-then-is_wanting-clause-serves g c =
    served_and_ended g.D.In.Source.told g.D.Out.Sink.told _ _ _ _ _ _ c.connections-test.true c.connections.invariant.so_far c.in-Served.ensures.comes

pub returns-in-NoneLeft-clause-serves : goal.returns-in-NoneLeft-clause-serves
returns-in-NoneLeft-clause-serves g c = none_left g.D.In.Source.told g.D.Out.Sink.told _ _ _ _ _ c.connections-test.true c.connections.invariant.so_far c.in-NoneLeft.ensures.comes

pub returns-in-Failed-clause-serves : goal.returns-in-Failed-clause-serves
returns-in-Failed-clause-serves g c =
    desk_failed g.D.In.Source.told g.D.Out.Sink.told _ _ _ _ _ c.connections-test.true c.connections.invariant.later c.connections.invariant.so_far c.in-Failed.ensures.comes

pub returns-in-OutOfMemory-clause-serves : goal.returns-in-OutOfMemory-clause-serves
returns-in-OutOfMemory-clause-serves g c = no_memory g.D.In.Source.told g.D.Out.Sink.told _ _ _ _ _ c.connections-test.true c.connections.invariant.so_far c.in-OutOfMemory.ensures.comes

pub returns-clause-serves : goal.returns-clause-serves
returns-clause-serves g c =
    all_served g.D.In.Source.told g.D.Out.Sink.told _ _ _ _ (omega (arith, c.connections-test.false, c.connections.auto._connection-end)) c.connections.invariant.so_far

pub connections-preserved : goal.connections-preserved
connections-preserved g c =
    let so = c.connections.invariant in
    let turn = c.in-Served.ensures in record {
      so_far = more_so_far g.D.In.Source.told g.D.Out.Sink.told _ _ _ _ _ so.so_far turn.comes (sym c.is_wanting.ensures ∙ c.if-is_wanting.false);
      kept = record { tells = turn.kept.tells; as_before = turn.kept.as_before ∙ so.kept.as_before };
      none_out = turn.none_out;
      later = omega (arith, turn.later, so.later);
    }
