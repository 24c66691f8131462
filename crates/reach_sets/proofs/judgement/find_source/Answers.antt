use Rattle.std.proofs.Common.{true, false, sym, ap, ◌∙◌, inl}
use Rattle.reach_sets.proofs.JudgeLemmas.{other-shown, other-source, shown-by}
use Rattle.reach_sets.specs.Judged.{shows}
use Rattle.reach_sets.specs.TwoPorts.{two_ports}
use Rattle.reach_sets.proofs.judgement.find_source.Goals as goal

pub returns-then-is_against-clause-usual : goal.returns-then-is_against-clause-usual
returns-then-is_against-clause-usual c = inl c.usual_source-usual.ensures

pub returns-then-is_against-clause-shown : goal.returns-then-is_against-clause-shown
returns-then-is_against-clause-shown c =
    shown-by c.args.rows.now (two_ports c.args.pair.now) c.args.wanted.now c.args.number c.usual_source-usual.result c.part-part.result c.in_ok-came.came true c.part-part.ensures c.in_ok-came.ensures (sym c.is_against.ensures ∙ c.if-is_against.true)

pub returns-else-is_against-clause-usual : goal.returns-else-is_against-clause-usual
returns-else-is_against-clause-usual c =
    let none = shown-by c.args.rows.now (two_ports c.args.pair.now) c.args.wanted.now c.args.number c.usual_source-usual.result c.part-part.result c.in_ok-came.came false c.part-part.ensures c.in_ok-came.ensures (sym c.is_against.ensures ∙ c.if-is_against.false) in
    other-source c.args.rows.now c.requires.consistent (two_ports c.args.pair.now) c.requires.rows c.args.number c.args.wanted.now
    (ap (shows c.args.rows.now (two_ports c.args.pair.now) c.args.wanted.now c.args.number) (sym c.usual_source-usual.ensures) ∙ none)

pub returns-else-is_against-clause-shown : goal.returns-else-is_against-clause-shown
returns-else-is_against-clause-shown c =
    let none = shown-by c.args.rows.now (two_ports c.args.pair.now) c.args.wanted.now c.args.number c.usual_source-usual.result c.part-part.result c.in_ok-came.came false c.part-part.ensures c.in_ok-came.ensures (sym c.is_against.ensures ∙ c.if-is_against.false) in
    other-shown c.args.rows.now c.requires.consistent (two_ports c.args.pair.now) c.requires.rows c.args.number c.args.wanted.now c.requires.number c.requires.breaks
    (ap (shows c.args.rows.now (two_ports c.args.pair.now) c.args.wanted.now c.args.number) (sym c.usual_source-usual.ensures) ∙ none)
