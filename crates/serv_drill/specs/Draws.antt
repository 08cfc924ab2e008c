-- The draws: a stream of numbers from 0 to 9 that one number begins.
use Rattle.std.specs.Prelude.{ℕ, zero, suc, ◌+◌, ◌*◌, ◌/◌, ◌%◌, ◌^◌}

-- the state that follows a state
unfoldable pub next_state : ℕ → ℕ
next_state x = (x * 6_364_136_223_846_793_005 + 1_442_695_040_888_963_407) % 2 ^ 64

-- what a state shows as a draw
unfoldable pub drawn : ℕ → ℕ
drawn x = x / 2 ^ 33 % 10

-- the state after so many draws
unfoldable pub state_after : ℕ → ℕ → ℕ
state_after x zero = x
state_after x (suc k) = next_state (state_after x k)

-- draw k, from 0, of the stream that begins in a state: each draw first makes the next state
abbrev pub draw : ℕ → ℕ → ℕ
draw x k = drawn (next_state (state_after x k))
