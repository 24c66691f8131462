use Rattle.std.proofs.Common.{◌<◌, ◌≤◌, subst, sym}
use Rattle.reach_laws.specs.Numbers.{number_end}
use Rattle.reach_sets.proofs.CutLemmas.{cut-above, cut-piece, cut-within}
use Rattle.reach_sets.specs.TwoPorts.{two_ports}
use Rattle.reach_sets.proofs.cuts.piece_end.Goals as goal

pub returns-clause-above : goal.returns-clause-above
returns-clause-above c = subst (λ n. c.args.at < n) (sym c.next_cut.ensures) (cut-above c.args.rows.now (two_ports c.args.pair.now) c.args.kind c.args.at c.requires)

pub returns-clause-within : goal.returns-clause-within
returns-clause-within c = subst (λ n. n ≤ number_end c.args.kind) (sym c.next_cut.ensures) (cut-within c.args.rows.now (two_ports c.args.pair.now) c.args.kind c.args.at c.requires)

pub returns-clause-piece : goal.returns-clause-piece
returns-clause-piece c = λ d from below. cut-piece c.args.rows.now (two_ports c.args.pair.now) c.args.kind c.args.at d from (subst (λ n. d < n) c.next_cut.ensures below)
