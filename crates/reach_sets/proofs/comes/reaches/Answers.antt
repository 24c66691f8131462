use Rattle.reach_sets.proofs.PieceLemmas.{came-decides}
use Rattle.reach_sets.specs.TwoPorts.{two_ports}
use Rattle.reach_sets.proofs.comes.reaches.Goals as goal

pub returns : goal.returns
returns c =
    came-decides c.args.rows.now c.requires.consistent (two_ports c.args.pair.now) c.requires.rows c.args.kind c.other_source-source.result c.args.number c.part-part.result c.in_ok-came.came c.other_source-source.ensures c.part-part.ensures c.in_ok-came.ensures
