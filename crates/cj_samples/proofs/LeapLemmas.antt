-- No leap second lies in the first hour of 2025: all known ones lie before it.
use Rattle.std.proofs.Common.{◌≡◌, ℕ, ◌≤◌, false, arith}
use Rattle.cj_base.specs.LeapSeconds.{leap_lies_between}
use Rattle.cj_epoch.proofs.LeapLemmas as epoch
use Rattle.cj_samples.specs.Moments.{tick_of}

pub no_leap : (a b : ℕ) → tick_of 0 ≤ a → leap_lies_between a b ≡ false
no_leap a b later = epoch.no_leap a b (omega (arith, later))
