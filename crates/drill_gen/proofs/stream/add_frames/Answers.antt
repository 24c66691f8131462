use Rattle.std.proofs.Common.{◌≡◌, ◌∙◌, ◌+◌, ◌-◌, ◌++◌, ap, ap₂, arith, suc, sym}
use Rattle.drill_gen.specs.Draws.{drawn, state_after}
use Rattle.drill_gen.specs.Stream.{frame_request, frame_requests}
use Rattle.drill_gen.proofs.StreamLemmas.{no_frames, one_frame}
use Rattle.drill_gen.proofs.stream.add_frames.Goals as goal

pub loop-frame-preserved : goal.loop-frame-preserved
loop-frame-preserved c =
    let left : c.args.size - c.loop-frame._frame ≡ suc (c.args.size - (c.loop-frame._frame + 1)) = omega (arith, c.loop-frame-test.true) in
    let second = c.draw-from.ensures.state in
    let third = c.draw-to.ensures.state ∙ ap state_after second in
    let last = c.draw-sport.ensures.state ∙ ap state_after third in
    let sent = ap (λ x. frame_request c.args.ports x c.draw-to.result c.draw-sport.result) c.draw-from.ensures.drawn in
    let received = ap (λ y. frame_request c.args.ports (drawn c.loop-frame.state) y c.draw-sport.result) (c.draw-to.ensures.drawn ∙ ap drawn second) in
    let port = ap (λ z. frame_request c.args.ports (drawn c.loop-frame.state) (drawn (state_after c.loop-frame.state)) z) (c.draw-sport.ensures.drawn ∙ ap drawn third) in
    let asked = c.as_slice.ensures.value ∙ c.in_ok-asked.ensures ∙ sent ∙ received ∙ port in
    let bytes = c.in_ok-extend_from_slice.ensures.items ∙ ap (λ r. c.loop-frame.bytes.items ++ r) asked in
    ap₂ (λ b s. b ++ frame_requests c.args.ports (c.args.size - (c.loop-frame._frame + 1)) s) bytes last ∙ one_frame _ _ _ _ _ left ∙ c.loop-frame.invariant

pub returns : goal.returns
returns c =
    let left : c.args.size - c.loop-frame._frame ≡ 0 = omega (arith, c.loop-frame-test.false) in
    sym (no_frames c.args.ports c.loop-frame.bytes.items _ c.loop-frame.state left) ∙ c.loop-frame.invariant
