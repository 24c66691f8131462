use Rattle.std.proofs.Common.{◌≡◌, ◌∙◌, ◌++◌, ap, ap₂, arith, min}
use Rattle.std.proofs.lemmas.Grind.{common_steps}
use Rattle.drill_gen.specs.Stream.{frame_requests, port_requests}
use Rattle.drill_gen.proofs.stream.drill.Goals as goal

pub returns : goal.returns
returns c =
    let ports : c.min.result ≡ min c.args.size 499 = grind (arith, common_steps) in
    let before = c.in_ok-state.ensures.added ∙ ap (λ b. b ++ port_requests c.args.size c.args.start) c.in_ok-bytes.ensures in
    let frames = ap₂ (λ p s. frame_requests p c.args.size s) ports c.in_ok-state.ensures.state in
    c.from_vec.ensures ∙ c.in_ok-add_frames.ensures ∙ ap₂ (λ b f. b ++ f) before frames
