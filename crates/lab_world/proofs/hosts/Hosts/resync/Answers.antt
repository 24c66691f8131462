use Rattle.std.proofs.Common.{rules, ◌≡◌, slice_index_or}
use Rattle.plane_types.specs.Node.{Node, after_resync}
use Rattle.lab_world.proofs.One.{done_at}
use Rattle.lab_world.proofs.hosts.Hosts.resync.Goals as goal

pub returns-clause-ok : goal.returns-clause-ok
returns-clause-ok c =
    let n : Node = c.index_mut.result.now in
    let is : n ≡ slice_index_or c.self.inside.nodes.items c.args.at n = search (rules, c.index_mut.ensures.value) in
    done_at (after_resync c.args.version c.args.rows.now) c.args.self.now c.self.inside.nodes.items c.args.at n c.resync.new.self c.self.view_is is c.requires.within c.in_ok-resync.ensures.agent
