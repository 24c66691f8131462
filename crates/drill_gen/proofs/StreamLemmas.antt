-- One request more of a drill, and none.
use Rattle.std.proofs.Common.{◌≡◌, ◌∙◌, ◌++◌, ℕ, suc, List, ap, sym}
use Rattle.std.proofs.lemmas.List.{append-nil, append_assoc}
use Rattle.drill_gen.specs.Draws.{drawn, state_after, state_behind}
use Rattle.drill_gen.specs.Stream.{frame_request, frame_requests, port_request, port_requests}

-- a port behind what there is, and the ports that are left then
pub one_port : (bytes : List ℕ) (left many state : ℕ) → left ≡ suc many → (bytes ++ port_request (drawn state)) ++ port_requests many (state_after state) ≡ bytes ++ port_requests left state
unfolding port_requests
one_port bytes left many state e =
    append_assoc bytes (port_request (drawn state)) (port_requests many (state_after state)) ∙ ap (λ n. bytes ++ port_requests n state) (sym e)

-- the draw of a port, and those that are left then
pub one_draw : (left many state : ℕ) → left ≡ suc many → state_behind many (state_after state) ≡ state_behind left state
unfolding state_behind
one_draw left many state e = ap (λ n. state_behind n state) (sym e)

-- a frame behind what there is, and the frames that are left then
pub one_frame : (ports : ℕ) (bytes : List ℕ) (left many state : ℕ) → left ≡ suc many
    → (bytes ++ frame_request ports (drawn state) (drawn (state_after state)) (drawn (state_after (state_after state)))) ++ frame_requests ports many (state_after (state_after (state_after state)))
    ≡ bytes ++ frame_requests ports left state
unfolding frame_requests
one_frame ports bytes left many state e =
    append_assoc bytes (frame_request ports (drawn state) (drawn (state_after state)) (drawn (state_after (state_after state)))) (frame_requests ports many (state_after (state_after (state_after state))))
    ∙ ap (λ n. bytes ++ frame_requests ports n state) (sym e)

-- where none is left, what there is is all
pub no_ports : (bytes : List ℕ) (left state : ℕ) → left ≡ 0 → bytes ++ port_requests left state ≡ bytes
unfolding port_requests
no_ports bytes left state e = ap (λ n. bytes ++ port_requests n state) e ∙ append-nil bytes

pub no_draws : (left state : ℕ) → left ≡ 0 → state_behind left state ≡ state
unfolding state_behind
no_draws left state e = ap (λ n. state_behind n state) e

pub no_frames : (ports : ℕ) (bytes : List ℕ) (left state : ℕ) → left ≡ 0 → bytes ++ frame_requests ports left state ≡ bytes
unfolding frame_requests
no_frames ports bytes left state e = ap (λ n. bytes ++ frame_requests ports n state) e ∙ append-nil bytes
