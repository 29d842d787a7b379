-- The numbers of a catalogue: those of a linear congruential generator.
use Rattle.std.specs.Prelude.{ℕ, zero, suc, ◌+◌, ◌*◌, ◌/◌, ◌%◌, ◌^◌}

-- the state that follows a state
abbrev pub next_state : ℕ → ℕ
next_state s = (s * 6364136223846793005 + 1442695040888963407) % 2 ^ 64

-- the state after so many draws
unfoldable pub state_after : ℕ → ℕ → ℕ
state_after seed zero = seed
state_after seed (suc n) = next_state (state_after seed n)

-- the number that a draw gives: the upper 31 bits of its state
abbrev pub drawn_at : ℕ → ℕ
drawn_at s = s / 2 ^ 33
