use Rattle.std.proofs.Common.{rules, ◌≡◌, ◌+◌, ◌<◌, ◌∙◌, ◌∷◌, suc, Some, ap, arith, drop, length, slice_get, subst, sym}
use Rattle.std.proofs.lemmas.List.{length-drop, length-map}
use Rattle.std.proofs.lemmas.Option.{slice_get-get_or}
use Rattle.api_types.proofs.ListLemmas.{false_true, some_equal}
use Rattle.plane_types.specs.Node.{Node, Ready}
use Rattle.world_laws.specs.Steps.{after_settle}
use Rattle.lab_world.specs.Hosts.{made_for, name_and_tags}
use Rattle.lab_world.proofs.Placing.{at_front, next_ready, rest_behind}
use Rattle.lab_world.proofs.Seen.{IsSettledAt, all_settled}
use Rattle.lab_world.proofs.SoFar.{SoFar, at_last, one_more}
use Rattle.lab_world.proofs.each.settle_all.Goals as goal
use Rattle.lab_world.proofs.each.settle_all.Goals.{in-Some, in_default}

pub settle_one-requires-clause-name : goal.settle_one-requires-clause-name
settle_one-requires-clause-name c =
    let pair = next_ready c.args.ready.items c.args.nodes.now c.loop-node.nodes c.loop-node.node-index c.in-Some.ready c.next.new.self.rest.items c.node-item.result
    c.requires.each (c.loop-node.invariant.0.left c.loop-node.node-index (omega arith)) (omega (arith, c.loop-node-test.true, c.loop-node.auto.nodes)) c.node-item.is (sym c.loop-node.invariant.1 ∙ c.in-Some.ensures.items) in
    ap (λ p. p.0) pair ∙ ap (λ (n : Node). n.agent.name) c.node-item.is

pub settle_one-requires-clause-tags : goal.settle_one-requires-clause-tags
settle_one-requires-clause-tags c =
    let pair = next_ready c.args.ready.items c.args.nodes.now c.loop-node.nodes c.loop-node.node-index c.in-Some.ready c.next.new.self.rest.items c.node-item.result
    c.requires.each (c.loop-node.invariant.0.left c.loop-node.node-index (omega arith)) (omega (arith, c.loop-node-test.true, c.loop-node.auto.nodes)) c.node-item.is (sym c.loop-node.invariant.1 ∙ c.in-Some.ensures.items) in
    ap (λ p. p.1) pair ∙ ap (λ (n : Node). n.agent.tables.tags) c.node-item.is

pub settle_one-requires-clause-version : goal.settle_one-requires-clause-version
settle_one-requires-clause-version c =
    let split = sym c.loop-node.invariant.1 ∙ c.in-Some.ensures.items in
    c.requires.version c.loop-node.node-index c.in-Some.ready (at_front c.args.ready.items c.loop-node.node-index c.in-Some.ready c.next.new.self.rest.items split)

pub loop-node-preserved : goal.loop-node-preserved
loop-node-preserved c =
    let ready = c.args.ready.items in
    let i = c.loop-node.node-index in
    let n : Node = c.node-item.result in
    let within : i < length c.loop-node.nodes = omega (arith, c.loop-node-test.true, c.loop-node.auto.nodes) in
    let next : suc i ≡ i + 1 = omega arith in
    elim c.match-next.branch [
      | in-Some w ↦
          (let r : Ready = w.in-Some.ready in
          let y : Node = w.settle_one.new.node in
          let rest = c.next.new.self.rest.items in
          let split : drop i ready ≡ r ∷ rest = sym c.loop-node.invariant.1 ∙ w.in-Some.ensures.items in
          let goes : (q : Ready) → slice_get ready i ≡ Some q → y.agent ≡ after_settle c.args.version q.rows n.agent =
          λ q at. subst (λ (x : Ready). y.agent ≡ after_settle c.args.version x.rows n.agent) (some_equal r q (sym (at_front ready i r rest split) ∙ at))
          (w.settle_one.ensures ∙ ap (λ (x : Node). after_settle c.args.version r.rows x.agent) (sym c.node-item.is)) in (
            subst (λ items. SoFar (IsSettledAt c.args.version ready) c.args.nodes.now items (i + 1)) (sym w.nodes-is)
                (one_more (IsSettledAt c.args.version ready) c.args.nodes.now c.loop-node.nodes i n y c.loop-node.invariant.0 (slice_get-get_or c.loop-node.nodes i n within ∙ ap Some (sym c.node-item.is)) goes),
            rest_behind ready i r rest split ∙ ap (λ k. drop k ready) next,
          ))
      | in_default w ↦
          (let same = ap length c.loop-node.invariant.1 ∙ length-drop i ready in
          let long = sym (length-map ready made_for) ∙ ap length c.requires.each ∙ length-map c.args.nodes.now (λ (m : Node). name_and_tags m.agent) in
          let more : 0 < length c.loop-node.left.rest.items = omega (arith, same, long, within, c.loop-node.invariant.0.size) in
          false_true _ (w.in_default.ensures.variant.1 (search (rules, more))))
    ]

pub returns : goal.returns
returns c =
    let ready = c.args.ready.items in
    let long = sym (length-map ready made_for) ∙ ap length c.requires.each ∙ length-map c.args.nodes.now (λ (m : Node). name_and_tags m.agent) in
    all_settled c.args.version ready c.args.nodes.now c.loop-node.nodes long
    (at_last (IsSettledAt c.args.version c.args.ready.items) c.args.nodes.now c.loop-node.nodes c.loop-node.node-index c.loop-node.invariant.0 (omega (arith, c.loop-node-test.false, c.loop-node.auto.nodes)))
