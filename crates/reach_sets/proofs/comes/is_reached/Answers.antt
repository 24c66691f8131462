use Rattle.std.proofs.Common.{ap, sym, ◌∙◌}
use Rattle.reach_laws.specs.Numbers.{is_left_out}
use Rattle.reach_sets.proofs.PieceLemmas.{with-number, without-number}
use Rattle.reach_sets.specs.TwoPorts.{ReachesBetween, two_ports}
use Rattle.reach_sets.proofs.comes.is_reached.Goals as goal

pub returns-then-left_out : goal.returns-then-left_out
returns-then-left_out c = λ d piece.
    let rows = c.args.rows.now in
    let x = two_ports c.args.pair.now in
    without-number rows x c.args.kind c.args.number d (ReachesBetween rows x c.args.kind d) piece (sym c.if-left_out.true ∙ c.is_left_out-left_out.ensures ∙ ap (λ a. is_left_out c.args.kind a c.args.number) c.source.ensures)

pub returns : goal.returns
returns c = λ d piece.
    let rows = c.args.rows.now in
    let x = two_ports c.args.pair.now in
    with-number rows x c.args.kind c.args.number d c.in_ok-came.came (ReachesBetween rows x c.args.kind d) piece (sym c.if-left_out.false ∙ c.is_left_out-left_out.ensures ∙ ap (λ a. is_left_out c.args.kind a c.args.number) c.source.ensures) (c.in_ok-came.ensures d piece.alike)
