use Rattle.std.proofs.Common.{ap, sym, subst, ◌∙◌}
use Rattle.reach_laws.specs.Decides.{Decides}
use Rattle.reach_laws.specs.Numbers.{is_left_out}
use Rattle.reach_sets.proofs.JudgeLemmas.{against-decides}
use Rattle.reach_sets.proofs.PieceLemmas.{with-number, without-number}
use Rattle.reach_sets.specs.Breaking.{IsNumberAgainst}
use Rattle.reach_sets.specs.Judged.{IsAgainst, is_against}
use Rattle.reach_sets.specs.TwoPorts.{ReachesBetween, two_ports}
use Rattle.reach_sets.proofs.judgement.is_piece_against.Goals as goal

pub returns-then-left_out : goal.returns-then-left_out
returns-then-left_out c = λ d piece.
    let rows = c.args.rows.now in
    let x = two_ports c.args.pair.now in
    let w = c.args.wanted.now in
    without-number rows x w.proto c.args.at d (IsAgainst w.want (ReachesBetween rows x w.proto d)) piece (sym c.if-left_out.true ∙ c.is_left_out-left_out.ensures ∙ ap (λ a. is_left_out w.proto a c.args.at) c.source.ensures)

pub returns : goal.returns
returns c = λ d piece.
    let rows = c.args.rows.now in
    let x = two_ports c.args.pair.now in
    let w = c.args.wanted.now in
    let against : Decides (is_against w.want c.in_ok-came.came) (IsNumberAgainst rows x w d) =
    with-number rows x w.proto c.args.at d (is_against w.want c.in_ok-came.came) (IsAgainst w.want (ReachesBetween rows x w.proto d)) piece (sym c.if-left_out.false ∙ c.is_left_out-left_out.ensures ∙ ap (λ a. is_left_out w.proto a c.args.at) c.source.ensures)
    (against-decides w.want c.in_ok-came.came (ReachesBetween rows x w.proto d) (c.in_ok-came.ensures d piece.alike)) in
    subst (λ b. Decides b (IsNumberAgainst rows x w d)) (sym c.is_against.ensures) against
