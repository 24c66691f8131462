use Rattle.std.proofs.Common.{rules, ◌≡◌, ap, slice_index_or}
use Rattle.plane_types.specs.Node.{Node, after_restart}
use Rattle.lab_world.proofs.One.{done_at}
use Rattle.lab_world.proofs.hosts.Hosts.restart.Goals as goal

pub returns : goal.returns
returns c =
    let n : Node = c.index_mut.result.now in
    let is : n ≡ slice_index_or c.self.inside.nodes.items c.args.at n = search (rules, c.index_mut.ensures.value) in
    done_at after_restart c.args.self.now c.self.inside.nodes.items c.args.at n c.restart.new.self c.self.view_is is c.requires (ap (λ (m : Node). m.agent) c.restart.ensures)
