use Rattle.std.proofs.Common.{ap, ◌∙◌}
use Rattle.reach_sets.proofs.JudgeLemmas.{broken}
use Rattle.reach_sets.specs.TwoPorts.{event_between, two_ports}
use Rattle.reach_sets.proofs.judgement.break_at.Goals as goal

pub find_source-requires-clause-breaks : goal.find_source-requires-clause-breaks
find_source-requires-clause-breaks c = c.requires.first.0

pub returns : goal.returns
returns c =
    broken c.args.rows.now (two_ports c.args.pair.now) c.args.wanted.now c.args.number c.in_ok-source.source c.first_event-event.result c.requires.first c.in_ok-source.ensures.usual c.in_ok-source.ensures.shown
    (c.first_event-event.ensures ∙ ap (event_between c.args.rows.now (two_ports c.args.pair.now)) c.part-part.ensures)
