use Rattle.std.proofs.Common.{◌≡◌, ◌++◌, drop, option_map}
use Rattle.api_ipam.specs.Filling.{given_in_turn}
use Rattle.api_ipam.specs.FixedChoice.{is_in}
use Rattle.api_ipam.proofs.filling.given_in_turn.Given as goal

-- the addresses so far, and those of the places that are left, are all
abbrev pub invariant-loop-place : goal.invariant-loop-place
invariant-loop-place l =
    option_map (λ fs. l.fixed ++ fs) (given_in_turn (is_in l.held) (drop l.place-index l.places)) ≡ given_in_turn (is_in l.fn.held) l.places
