use Rattle.std.proofs.Common.{drop, ap, ◌∙◌, arith, length}
use Rattle.http_session.proofs.Pieces.{part_behind}
use Rattle.http_session.proofs.buffer.Buffer.drop_front.Goals as goal

pub returns : goal.returns
returns c = part_behind c.self.inside.bytes.items c.self.inside.start c.self.inside.len c.args.count (omega (arith, c.requires, ap length c.self.view_is)) ∙ ap (drop c.args.count) c.self.view_is
