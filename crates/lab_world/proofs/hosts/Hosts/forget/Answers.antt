use Rattle.std.proofs.Common.{rules, ◌≡◌, slice_index_or}
use Rattle.plane_types.specs.Node.{Node, after_forget}
use Rattle.lab_world.proofs.One.{done_at}
use Rattle.lab_world.proofs.hosts.Hosts.forget.Goals as goal

pub returns : goal.returns
returns c =
    let n : Node = c.index_mut.result.now in
    let is : n ≡ slice_index_or c.self.inside.nodes.items c.args.at n = search (rules, c.index_mut.ensures.value) in
    done_at after_forget c.args.self.now c.self.inside.nodes.items c.args.at n c.forget.new.self c.self.view_is is c.requires c.forget.ensures.agent
