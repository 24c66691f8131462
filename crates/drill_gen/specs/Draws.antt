-- Draws of a linear congruential generator: the multiplier of Knuth's MMIX (The Art of Computer
-- Programming, volume 2, 3.3.4), and its increment.
use Rattle.std.specs.Prelude.{ℕ, zero, suc, ◌+◌, ◌*◌, ◌/◌, ◌%◌, ◌^◌}

-- the state after a draw
unfoldable pub state_after : ℕ → ℕ
state_after state = (state * 6364136223846793005 + 1442695040888963407) % 2 ^ 64

-- the number that is drawn
abbrev pub drawn : ℕ → ℕ
drawn state = state_after state / 2 ^ 33

-- the state after this many draws
unfoldable pub state_behind : ℕ → ℕ → ℕ
state_behind zero state = state
state_behind (suc many) state = state_behind many (state_after state)
