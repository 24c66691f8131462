use Rattle.std.proofs.Common.{drop, ap, ◌∙◌, arith, length}
use Rattle.dvr_run.proofs.Pieces.{part_after}
use Rattle.dvr_run.proofs.pending.Pending.drop_front.Goals as goal

pub returns : goal.returns
returns c = part_after c.self.inside.bytes.items c.self.inside.start c.self.inside.len c.args.count (omega (arith, c.requires, ap length c.self.view_is)) ∙ ap (drop c.args.count) c.self.view_is
