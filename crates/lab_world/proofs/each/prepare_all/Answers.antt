use Rattle.std.proofs.Common.{◌≡◌, ◌+◌, ◌<◌, ◌≤◌, ◌∙◌, ◌++◌, ◌∷◌, [], true, Some, ap, arith, length, slice_get, subst, sym}
use Rattle.std.proofs.lemmas.List.{length-append}
use Rattle.std.proofs.lemmas.Option.{slice_get-get_or}
use Rattle.api_types.specs.Rows.{after}
use Rattle.plane_types.specs.Node.{CanFollow, Node, follows}
use Rattle.lab_world.specs.Hosts.{IsToldBy}
use Rattle.lab_world.proofs.One.{same_agents}
use Rattle.lab_world.proofs.Seen.{all_told, one_told}
use Rattle.lab_world.proofs.SoFar.{unwritten}
use Rattle.lab_world.proofs.each.prepare_all.Goals as goal

pub prepare_one-requires-clause-fits : goal.prepare_one-requires-clause-fits
prepare_one-requires-clause-fits c =
    let i = c.loop-node.node-index in
    let n : Node = c.node-item.result in
    let within : i < length c.loop-node.nodes = omega (arith, c.loop-node-test.true, c.loop-node.auto.nodes) in
    let at : slice_get c.args.nodes.now i ≡ Some n = sym (c.loop-node.invariant.3 i (omega arith)) ∙ slice_get-get_or c.loop-node.nodes i n within ∙ ap Some (sym c.node-item.is) in
    subst (λ (x : Node). CanFollow x.agent c.args.number c.args.change.now) c.node-item.is (c.requires.fits i n at)

pub prepare_one-requires-clause-rows : goal.prepare_one-requires-clause-rows
prepare_one-requires-clause-rows c =
    let i = c.loop-node.node-index in
    let n : Node = c.node-item.result in
    let within : i < length c.loop-node.nodes = omega (arith, c.loop-node-test.true, c.loop-node.auto.nodes) in
    let at : slice_get c.args.nodes.now i ≡ Some n = sym (c.loop-node.invariant.3 i (omega arith)) ∙ slice_get-get_or c.loop-node.nodes i n within ∙ ap Some (sym c.node-item.is) in
    subst (λ (x : Node). follows c.args.number x.agent.held ≡ true → c.args.after.now ≡ after x.agent.rows c.args.change.now) c.node-item.is (c.requires.rows i n at)

pub returns-in_err-one-clause-agents : goal.returns-in_err-one-clause-agents
returns-in_err-one-clause-agents c =
    let i = c.loop-node.node-index in
    let n : Node = c.node-item.result in
    let within : i < length c.loop-node.nodes = omega (arith, c.loop-node-test.true, c.loop-node.auto.nodes) in
    let at : slice_get c.loop-node.nodes i ≡ Some n = slice_get-get_or c.loop-node.nodes i n within ∙ ap Some (sym c.node-item.is) in
    same_agents c.loop-node.nodes i n c.prepare_one.new.node at (c.prepare_one.ensures.agent ∙ ap (λ (x : Node). x.agent) (sym c.node-item.is)) ∙ c.loop-node.invariant.0

pub returns-in_err-push-clause-agents : goal.returns-in_err-push-clause-agents
returns-in_err-push-clause-agents c =
    let i = c.loop-node.node-index in
    let n : Node = c.node-item.result in
    let within : i < length c.loop-node.nodes = omega (arith, c.loop-node-test.true, c.loop-node.auto.nodes) in
    let at : slice_get c.loop-node.nodes i ≡ Some n = slice_get-get_or c.loop-node.nodes i n within ∙ ap Some (sym c.node-item.is) in
    same_agents c.loop-node.nodes i n c.prepare_one.new.node at (c.prepare_one.ensures.agent ∙ ap (λ (x : Node). x.agent) (sym c.node-item.is)) ∙ c.loop-node.invariant.0

pub loop-node-preserved : goal.loop-node-preserved
loop-node-preserved c =
    let i = c.loop-node.node-index in
    let n : Node = c.node-item.result in
    let m : Node = c.prepare_one.new.node in
    let within : i < length c.loop-node.nodes = omega (arith, c.loop-node-test.true, c.loop-node.auto.nodes) in
    let at : slice_get c.loop-node.nodes i ≡ Some n = slice_get-get_or c.loop-node.nodes i n within ∙ ap Some (sym c.node-item.is) in
    let items : c.push.new.self.items ≡ c.loop-node.ready.items ++ c.in_ok-one.one ∷ [] = c.in_ok-push.ensures.items in (
      same_agents c.loop-node.nodes i n m at (c.prepare_one.ensures.agent ∙ ap (λ (x : Node). x.agent) (sym c.node-item.is)) ∙ c.loop-node.invariant.0,
      ap length items ∙ length-append c.loop-node.ready.items (c.in_ok-one.one ∷ []) ∙ ap (λ k. k + 1) c.loop-node.invariant.1,
      λ k x o from to. one_told (IsToldBy c.args.manual c.args.number c.args.after.now) c.loop-node.nodes c.loop-node.ready.items i m c.in_ok-one.one c.loop-node.invariant.1 c.loop-node.invariant.2 c.in_ok-one.ensures.ready within k x o from (sym (ap (λ xs. slice_get xs k) items) ∙ to),
      λ k past. unwritten c.loop-node.nodes i m k (λ e. omega (arith, e, past)) ∙ c.loop-node.invariant.3 k (omega (arith, past)),
    )

pub returns-clause-ready : goal.returns-clause-ready
returns-clause-ready c =
    let all : length c.loop-node.nodes ≤ c.loop-node.node-index = omega (arith, c.loop-node-test.false, c.loop-node.auto.nodes) in
    all_told c.args.manual c.args.number c.args.after.now c.loop-node.nodes c.loop-node.ready.items (omega (arith, all, c.loop-node.invariant.1, c.loop-node.auto.nodes)) c.loop-node.invariant.2
