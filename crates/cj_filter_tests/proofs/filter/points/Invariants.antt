use Rattle.std.proofs.Common.{◌≡◌, ◌≤◌, length}
use Rattle.std.specs.Prelude.{All}
use Rattle.cj_case.specs.CaseLimits.{MAX_SIZE}
use Rattle.cj_filter_tests.proofs.filter.points.Given as goal

abbrev pub invariant-loop : goal.invariant-loop
invariant-loop l = record {
  len : length l.sizes.items ≡ l.counter;
  small : All (λ size. size ≤ MAX_SIZE) l.sizes.items;
}
