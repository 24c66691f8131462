use Rattle.std.proofs.Common.{rules, ◌≡◌, ◌<◌, ◌∙◌, Some, ap, arith, length, slice_index_or, sym}
use Rattle.std.proofs.lemmas.List.{length-map}
use Rattle.plane_types.specs.Hosts.{Host}
use Rattle.plane_types.specs.Node.{Node, agents_of, host_of}
use Rattle.lab_world.proofs.Placing.{at_host}
use Rattle.lab_world.proofs.hosts.HostsFleet.entries.Goals as goal

pub returns : goal.returns
returns c =
    let within : c.args.at < length c.args.self.now = omega (arith, c.requires, length-map (agents_of c.args.self.now) host_of, length-map c.args.self.now (λ (n : Node). n.agent)) in
    let is : c.index.result.now ≡ slice_index_or c.args.self.now c.args.at c.index.result.now = search (rules, c.index.ensures, c.self.view_is) in
    at_host (λ (h : Host). h.entries) c.args.self.now c.args.at c.index.result.now within is ∙ ap Some (sym c.entries.ensures.items)
