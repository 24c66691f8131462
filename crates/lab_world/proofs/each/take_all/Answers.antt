use Rattle.std.proofs.Common.{rules, ◌≡◌, ◌+◌, ◌<◌, ◌∙◌, ◌∷◌, suc, Option, Some, ap, arith, drop, length, slice_get, subst, sym}
use Rattle.std.proofs.lemmas.List.{length-drop}
use Rattle.std.proofs.lemmas.Option.{slice_get-get_or}
use Rattle.api_types.proofs.ListLemmas.{false_true, some_equal}
use Rattle.plane_types.specs.Node.{Node}
use Rattle.agent_node.specs.Rewired.{CanTake, after_taking}
use Rattle.agent_node.specs.declared.rewire.Rewire.{Rewire}
use Rattle.lab_world.proofs.Placing.{at_front, rest_behind}
use Rattle.lab_world.proofs.Seen.{IsTakenAt, all_taken, take_at, take_long}
use Rattle.lab_world.proofs.SoFar.{SoFar, at_last, one_more}
use Rattle.lab_world.proofs.each.take_all.Goals as goal
use Rattle.lab_world.proofs.each.take_all.Goals.{in-Some, in_default}

pub take_change-requires : goal.take_change-requires
take_change-requires c =
    let i = c.loop-node.node-index in
    let n : Node = c.node-item.result in
    let within : i < length c.loop-node.nodes = omega (arith, c.loop-node-test.true, c.loop-node.auto.nodes) in
    let split = sym c.loop-node.invariant.1 ∙ c.in-Some.ensures.items in
    let at : slice_get c.args.nodes.now i ≡ Some n = sym (c.loop-node.invariant.0.left i (omega arith)) ∙ slice_get-get_or c.loop-node.nodes i n within ∙ ap Some (sym c.node-item.is) in
    subst (λ (x : Node). CanTake x c.in-Some.ready) c.node-item.is
    (take_at c.args.nodes.now c.args.ready.items c.requires i c.in-Some.ready n (at_front c.args.ready.items i c.in-Some.ready c.next.new.self.rest.items split) at)

pub loop-node-preserved : goal.loop-node-preserved
loop-node-preserved c =
    let ready = c.args.ready.items in
    let i = c.loop-node.node-index in
    let n : Node = c.node-item.result in
    let within : i < length c.loop-node.nodes = omega (arith, c.loop-node-test.true, c.loop-node.auto.nodes) in
    let next : suc i ≡ i + 1 = omega arith in
    elim c.match-next.branch [
      | in-Some w ↦
          (let r : Option Rewire = w.in-Some.ready in
          let y : Node = w.take_change.new.self in
          let rest = c.next.new.self.rest.items in
          let split : drop i ready ≡ r ∷ rest = sym c.loop-node.invariant.1 ∙ w.in-Some.ensures.items in
          let goes : (o : Option Rewire) → slice_get ready i ≡ Some o → y.agent ≡ after_taking c.args.number o n.agent =
          λ o at. subst (λ (x : Option Rewire). y.agent ≡ after_taking c.args.number x n.agent) (some_equal r o (sym (at_front ready i r rest split) ∙ at))
          (w.take_change.ensures.agent ∙ ap (λ (x : Node). after_taking c.args.number r x.agent) (sym c.node-item.is)) in (
            subst (λ items. SoFar (IsTakenAt c.args.number ready) c.args.nodes.now items (i + 1)) (sym w.nodes-is)
                (one_more (IsTakenAt c.args.number ready) c.args.nodes.now c.loop-node.nodes i n y c.loop-node.invariant.0 (slice_get-get_or c.loop-node.nodes i n within ∙ ap Some (sym c.node-item.is)) goes),
            rest_behind ready i r rest split ∙ ap (λ k. drop k ready) next,
          ))
      | in_default w ↦
          (let same = ap length c.loop-node.invariant.1 ∙ length-drop i ready in
          let long = take_long c.args.nodes.now ready c.requires in
          let more : 0 < length c.loop-node.left.rest.items = omega (arith, same, long, within, c.loop-node.invariant.0.size) in
          false_true _ (w.in_default.ensures.variant.1 (search (rules, more))))
    ]

pub returns : goal.returns
returns c =
    let ready = c.args.ready.items in
    all_taken c.args.number ready c.args.nodes.now c.loop-node.nodes (take_long c.args.nodes.now ready c.requires)
    (at_last (IsTakenAt c.args.number ready) c.args.nodes.now c.loop-node.nodes c.loop-node.node-index c.loop-node.invariant.0 (omega (arith, c.loop-node-test.false, c.loop-node.auto.nodes)))
