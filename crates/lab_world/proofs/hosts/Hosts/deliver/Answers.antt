use Rattle.std.proofs.Common.{rules, ◌≡◌, ◌∙◌, ap, slice_index_or, slice_set, sym}
use Rattle.api_types.proofs.ListLemmas.{some_equal}
use Rattle.plane_types.specs.Node.{Node, after_change, agents_of, hearing}
use Rattle.lab_world.proofs.One.{done_at, item_at, same_agents}
use Rattle.lab_world.proofs.Seen.{given_at, still_on_err}
use Rattle.lab_world.proofs.hosts.Hosts.deliver.Goals as goal

pub tell-requires-clause-fits : goal.tell-requires-clause-fits
tell-requires-clause-fits c =
    let n : Node = c.index_mut.result.now in
    let is : n ≡ slice_index_or c.self.inside.nodes.items c.args.at n = search (rules, c.index_mut.ensures.value) in
    c.requires.fits c.args.at n (item_at c.args.self.now c.self.inside.nodes.items c.args.at n c.self.view_is is c.requires.within)

pub tell-requires-clause-rows : goal.tell-requires-clause-rows
tell-requires-clause-rows c =
    let n : Node = c.index_mut.result.now in
    let is : n ≡ slice_index_or c.self.inside.nodes.items c.args.at n = search (rules, c.index_mut.ensures.value) in
    given_at c.args.after _ _ (λ rows each. each c.args.at n (item_at c.args.self.now c.self.inside.nodes.items c.args.at n c.self.view_is is c.requires.within)) c.requires.rows

pub returns-clause-heard : goal.returns-clause-heard
returns-clause-heard c = λ m there.
    let n : Node = c.index_mut.result.now in
    let is : n ≡ slice_index_or c.self.inside.nodes.items c.args.at n = search (rules, c.index_mut.ensures.value) in
    let same : n ≡ m = some_equal n m (sym (item_at c.args.self.now c.self.inside.nodes.items c.args.at n c.self.view_is is c.requires.within) ∙ there) in
    c.in_ok-heard.ensures.heard ∙ ap (λ (x : Node). hearing c.args.number x.agent.held) same

pub returns-clause-ok : goal.returns-clause-ok
returns-clause-ok c =
    let n : Node = c.index_mut.result.now in
    let is : n ≡ slice_index_or c.self.inside.nodes.items c.args.at n = search (rules, c.index_mut.ensures.value) in
    done_at (after_change c.args.number c.args.change.now) c.args.self.now c.self.inside.nodes.items c.args.at n c.tell.new.node c.self.view_is is c.requires.within c.in_ok-heard.ensures.agent

pub returns-in_err-heard-clause-err : goal.returns-in_err-heard-clause-err
returns-in_err-heard-clause-err c =
    let n : Node = c.index_mut.result.now in
    let is : n ≡ slice_index_or c.self.inside.nodes.items c.args.at n = search (rules, c.index_mut.ensures.value) in
    still_on_err c.from_residual.result _
    (ap (λ nodes. agents_of (slice_set nodes c.args.at c.tell.new.node)) c.self.view_is
    ∙ same_agents c.args.self.now c.args.at n c.tell.new.node (item_at c.args.self.now c.self.inside.nodes.items c.args.at n c.self.view_is is c.requires.within) c.in_err-heard.ensures.same)
