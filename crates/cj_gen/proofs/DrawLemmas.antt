-- A draw wraps twice, which is to wrap once.
use Rattle.std.proofs.Common.{◌≡◌, ℕ, ◌+◌, ◌*◌, ◌%◌, ◌^◌}
use Rattle.std.proofs.Math.Nat.{mod-add-mod}
use Rattle.cj_gen.specs.Draws.{next_state}

pub wrapped_twice : (s : ℕ) → ((s * 6364136223846793005) % 2 ^ 64 + 1442695040888963407) % 2 ^ 64 ≡ next_state s
wrapped_twice s = mod-add-mod (s * 6364136223846793005) (2 ^ 64) 1442695040888963407
