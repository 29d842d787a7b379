use Rattle.std.proofs.Common.{arith, ◌≡◌, ℕ, ◌≤◌, true, sym, ◌∙◌, is_le, nat_cmp}
use Rattle.std.proofs.lemmas.Bool.Decides.{nat_tests}
use Rattle.std.proofs.lemmas.Map.Keys.{le_from_is_le}
use Rattle.cj_base.proofs.tick.Window.contains.Goals as goal

is_le_from_le : (a b : ℕ) → a ≤ b → is_le (nat_cmp a b) ≡ true
is_le_from_le a b h = grind (arith, nat_tests)

pub returns-then-le : goal.returns-then-le
returns-then-le c = (
  λ held. (le_from_is_le _ _ (sym c.le.ensures ∙ c.if-le.true), le_from_is_le c.args.at.micros c.args.self.last.micros (sym c.le-then-le.ensures ∙ held)),
  λ both. c.le-then-le.ensures ∙ is_le_from_le c.args.at.micros c.args.self.last.micros both.1,
)
