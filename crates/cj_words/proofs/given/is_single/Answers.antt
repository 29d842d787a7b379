use Rattle.std.proofs.Common.{ap, ℕ}
use Rattle.std.specs.Prelude.{nat_le}
use Rattle.cj_words.proofs.given.is_single.Goals as goal

pub returns : goal.returns
returns c = ap (λ (n : ℕ). nat_le n 1) c.count_of.ensures
