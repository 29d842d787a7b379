-- The bytes of labels.
use Rattle.std.proofs.Common.{◌≡◌, ℕ, true, false, arith}
use Rattle.std.proofs.lemmas.Bool.Decides.{nat_tests}
use Rattle.cj_base.specs.Bytes.{is_feed}
use Rattle.cj_track.specs.Labels.{is_visible}

-- no line ends within a label
pub visible_apart : (b : ℕ) → is_visible b ≡ true → is_feed b ≡ false
visible_apart b visible = grind (arith, nat_tests)
